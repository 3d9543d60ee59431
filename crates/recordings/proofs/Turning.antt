-- A request within the first C cells that is no halt is one that the plain memory can carry out.
use Rattle.std.proofs.Common.{◌≡◌, ℕ, true, false, sym, refl}
use Rattle.std.proofs.lemmas.Bool.{false≢true}
use Rattle.cores.specs.Acting.{within}
use Rattle.cores.specs.Memory.{able}
use Rattle.cores.specs.declared.interface.Request.{Request}
use Rattle.cores.specs.declared.interface.Request.TheVariants.{Halt, Local, Read, Write, Exchange}
use Rattle.recorder.specs.Refusals.{halts}

pub able_is : (r : Request) (C : ℕ) → halts r ≡ false → within r C ≡ true → able r C ≡ true
able_is Halt C h k = absurd (false≢true (sym h))
able_is Local C h k = refl
able_is (Read c) C h k = k
able_is (Write c v) C h k = k
able_is (Exchange c v) C h k = k
