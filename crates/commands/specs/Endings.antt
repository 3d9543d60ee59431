-- How a command ends.
use Rattle.std.specs.Prelude.{◌≡◌, ℕ, List, ◌++◌, Option}
use Rattle.commands.specs.declared.ran.Ending.{Ending}
use Rattle.commands.specs.declared.ran.Ending.TheVariants.{Done, Failed}
use Rattle.worlds.specs.Worlds.{State, Known}

abbrev pub status_of : Ending → ℕ
status_of Done = 0
status_of Failed = 1

-- standard input may be read, and something said on standard output; all else is as it was
abbrev pub Disturbed : State → State → Type 0
Disturbed s t = (t.arguments ≡ s.arguments) × (t.file ≡ s.file) × (t.complained ≡ s.complained)

-- the same, but that a line on standard error says why
abbrev pub Fails : (List ℕ → List ℕ) → State → State → Type 0
Fails line s t = (why : List ℕ) × (t.arguments ≡ s.arguments) × (t.file ≡ s.file) × (t.complained ≡ s.complained ++ line why)

-- a command that is done has made this of the world
abbrev pub Ends : Ending → Option State → Option State → (State → State → Type 0) → (List ℕ → List ℕ) → Type 0
Ends Done old new done line = Known old new done
Ends Failed old new done line = Known old new (Fails line)
