-- A session as a caller describes it, by numbers.
use Rattle.std.specs.Prelude.{ℕ, Bool, cond, List, map, ◌==◌}
use Rattle.cores.specs.Memory.{rules}
use Rattle.cores.specs.Register.{register_first, register_next, register_after}
use Rattle.cores.specs.Script.{script_first, script_next, script_after}
use Rattle.cores.specs.declared.interface.Request.{Request}
use Rattle.exports.specs.Calls.{Recording, recorded, Replay, replayed}
use Rattle.exports.specs.declared.session.Session.{Session}
use Rattle.records.specs.declared.settings.Sizes.{Sizes}
use Rattle.reducers.specs.Decided.{exactly, nothing}
use Rattle.reducers.specs.Numbers.{Numbers}
use Rattle.reducers.specs.Rows.{known_only}

abbrev pub sizes_of : Session → Sizes
sizes_of s = record { cores = s.cores; cells = s.cells; log_bytes = s.log_bytes }

-- kind 0: script cores; else register cores
abbrev pub first_of : Session → ℕ → List ℕ
first_of s = cond (s.kind == 0) script_first register_first

abbrev pub next_of : Session → List ℕ → List ℕ → Request
next_of s = cond (s.kind == 0) script_next register_next

abbrev pub after_of : Session → List ℕ → List ℕ → ℕ → List ℕ
after_of s = cond (s.kind == 0) script_after register_after

-- a core at each of the four starting items
abbrev pub states_of : Session → List (List ℕ)
states_of s = map (first_of s) s.places

-- reducer 0: keep-all; 1: pairwise; else exact
abbrev pub choice_of : Session → Numbers → Numbers
choice_of s = cond (s.reducer == 0) nothing (cond (s.reducer == 1) known_only exactly)

-- begin and the turns of a session
abbrev pub session_recorded : Session → List ℕ → List ℕ → List ℕ → List ℕ → Recording
session_recorded s text cells store turns =
    recorded (choice_of s) (rules (next_of s) (after_of s) text) (sizes_of s) cells (states_of s) store turns

-- its opening, the steps, and a run where one is wanted
abbrev pub session_replayed : Session → List ℕ → List ℕ → List ℕ → List ℕ → Bool → Replay
session_replayed s text cells store steps runs =
    replayed (next_of s) (after_of s) text store (sizes_of s) cells (states_of s) steps runs
