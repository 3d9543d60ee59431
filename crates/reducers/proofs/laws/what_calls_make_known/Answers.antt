-- Computed.
use mathlib.Core.Path.{refl}
use Rattle.reducers.proofs.laws.what_calls_make_known.Goals as goal

pub returns : goal.returns
returns c = record {
  of_the_target = ((refl, refl), (refl, refl));
  of_the_target_alone = (refl, refl);
  count_for_stamp = (refl, refl);
  larger = (refl, refl);
  read_stands = ((refl, refl), (refl, refl));
  write_stands = ((refl, refl), (refl, refl));
  write_left = (refl, refl);
  read_left = (refl, refl);
  at_first = ((refl, refl), (refl, refl));
  from_4 = refl;
  to_4 = refl;
  last_ones = (refl, refl);
  takes_from_4 = refl;
  takes_to_4 = refl;
  takes_256 = refl;
  notes_4 = refl;
  notes_256 = refl;
  pairwise = (refl, refl);
}
