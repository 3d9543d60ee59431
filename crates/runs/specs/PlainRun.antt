-- The run of the plain memory's turns.
use Rattle.std.specs.Prelude.{ℕ, List, [], ◌∷◌}
use Rattle.cores.specs.declared.interface.Request.{Request}
use Rattle.cores.specs.declared.interface.Request.TheVariants.{Halt, Local, Read, Write, Exchange}
use Rattle.cores.specs.Memory.{Rules, Memory, outcome, plain}
use Rattle.runs.specs.Runs.{Access, local, read, write, ev, Run}

-- the access of a request, where `place` says at which place a cell conflicts
abbrev pub access : (ℕ → ℕ) → Request → Access
access place Halt = local
access place Local = local
access place (Read c) = read (place c)
access place (Write c v) = write (place c)
access place (Exchange c v) = write (place c)

-- the run of the turns
abbrev pub run : (ℕ → ℕ) → Rules → Memory → List ℕ → Run
run place K m [] = []
run place K m (j ∷ t) = ev j (access place (outcome K (plain K m t) j).request) ∷ run place K m t
