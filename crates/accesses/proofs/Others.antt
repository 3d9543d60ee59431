-- The cores other than one: none of them is that one, and they go up.
use Rattle.std.proofs.Common.{◌≡◌, ℕ, ◌<◌, arith}
use Rattle.std.proofs.lemmas.Bool.Decides.{nat_tests}
use Rattle.accesses.specs.Histories.{other}

pub other_differs : (j k : ℕ) → other j k ≡ j → ⊥
other_differs j k q = grind (arith, nat_tests)

pub other_rises : (j k l : ℕ) → k < l → other j k < other j l
other_rises j k l h = grind (arith, nat_tests)
