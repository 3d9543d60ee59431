-- Requests and turns keep how many cells and cores there are; a request whose cell is one of the first n does to those what it does to all.
use Rattle.std.proofs.Common.{◌≡◌, ℕ, true, List, [], ◌∷◌, length, take, refl, ◌∙◌}
use Rattle.std.proofs.Math.Seq.{take-set-lt}
use Rattle.std.proofs.lemmas.List.{get_or-take, length-set}
use Rattle.std.proofs.lemmas.Bool.{ltb-true}
use Rattle.cores.specs.Acting.{within}
use Rattle.cores.specs.Memory.{Rules, Memory, brought, stored, outcome, effect, plain}
use Rattle.cores.specs.declared.interface.Request.{Request}
use Rattle.cores.specs.declared.interface.Request.TheVariants.{Halt, Local, Read, Write, Exchange}

pub length_stored : (r : Request) (cells : List ℕ) → length (stored r cells) ≡ length cells
length_stored Halt cells = refl
length_stored Local cells = refl
length_stored (Read c) cells = refl
length_stored (Write c v) cells = length-set cells c v
length_stored (Exchange c v) cells = length-set cells c v

pub take_stored : (r : Request) (n : ℕ) (cells : List ℕ) → within r n ≡ true → take n (stored r cells) ≡ stored r (take n cells)
take_stored Halt n cells h = refl
take_stored Local n cells h = refl
take_stored (Read c) n cells h = refl
take_stored (Write c v) n cells h = take-set-lt n cells c v (ltb-true c n h)
take_stored (Exchange c v) n cells h = take-set-lt n cells c v (ltb-true c n h)

pub brought_take : (r : Request) (n : ℕ) (cells : List ℕ) → within r n ≡ true → brought r (take n cells) ≡ brought r cells
brought_take Halt n cells h = refl
brought_take Local n cells h = refl
brought_take (Read c) n cells h = get_or-take n cells c 0 (ltb-true c n h)
brought_take (Write c v) n cells h = refl
brought_take (Exchange c v) n cells h = get_or-take n cells c 0 (ltb-true c n h)

-- the plain memory keeps its sizes
module _ (K : Rules) (m : Memory) where
  pub cells_size : (turns : List ℕ) → length (plain K m turns).cells ≡ length m.cells
  unfolding outcome effect
  cells_size [] = refl
  cells_size (j ∷ t) = length_stored (outcome K (plain K m t) j).request (plain K m t).cells ∙ cells_size t

  pub states_size : (turns : List ℕ) → length (plain K m turns).states ≡ length m.states
  unfolding outcome effect
  states_size [] = refl
  states_size (j ∷ t) = length-set (plain K m t).states j (outcome K (plain K m t) j).state ∙ states_size t

  pub counts_size : (turns : List ℕ) → length (plain K m turns).counts ≡ length m.counts
  unfolding outcome effect
  counts_size [] = refl
  counts_size (j ∷ t) = length-set (plain K m t).counts j (outcome K (plain K m t) j).count ∙ counts_size t
