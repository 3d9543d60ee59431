-- Which places have an item is proved in ItemLaws; the rest computes.
use mathlib.Core.Path.{refl}
use Rattle.cores.proofs.ItemLaws.{the_items}
use Rattle.cores.proofs.laws.cores_follow_their_items.Goals as goal

pub returns : goal.returns
returns c = record {
  items = the_items;
  script = record {
    first = λ place. refl;
    local = λ last number. (refl, refl);
    read = λ last number. (refl, refl);
    write = λ last number. (refl, refl);
    exchange = λ last number. (refl, refl);
    kind_4 = λ last number. (refl, refl);
    kind_255 = λ last number. (refl, refl);
  };
  register = record {
    first = λ place. refl;
    read = λ number. (refl, refl);
    write = λ number. (refl, refl);
    exchange = λ number. (refl, refl);
    constant = λ number. (refl, refl);
    sum = λ number. (refl, refl);
    difference = λ number. (refl, refl);
    jump = λ number. (refl, refl);
    no_jump = λ number. (refl, refl);
    operation_0 = λ number. (refl, refl);
    operation_8 = λ number. (refl, refl);
    operation_255 = λ number. (refl, refl);
  };
}
