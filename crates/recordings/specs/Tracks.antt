-- A recorder whose turns were accepted tracks the plain memory, and what it logged is a recording of its run.
use Rattle.std.specs.Prelude.{◌≡◌, ℕ, ◌<◌, List, [], ◌∷◌, map, length, take, slice_index}
use Rattle.cores.specs.Memory.{Rules, Memory, plain, Accepted}
use Rattle.records.specs.Format.{LogArc, Entry, arc as arc_entry}
use Rattle.records.specs.declared.settings.Sizes.{Sizes}
use Rattle.recorder.specs.Refusals.{log_in}
use Rattle.recorder.specs.Turns.{World}
use Rattle.access_laws.specs.Recalls.{Recalls}
use Rattle.reducers.specs.Numbers.{Meets}
use Rattle.runs.specs.PlainRun.{run}
use Rattle.runs.specs.Recording.{Arc, arc, log, Recording}
use Rattle.runs.specs.Runs.{Instr, Run, turns}

-- the run of the turns, where two accesses conflict at their cell
abbrev pub run_of : Rules → Memory → List ℕ → Run
run_of K m u = run (λ c. c) K m u

-- the arcs of a log, each to instruction y, in front of those logged before, the newest first
abbrev pub logged : Instr → List LogArc → List Arc → List Arc
logged y [] L = L
logged y (a ∷ more) L = logged y more (arc (record { core = a.source; count = a.count }) y ∷ L)

-- after the accepted turns u from the memory m, and with the arcs L logged, the newest first
pub record Tracks (meets : Meets) (K : Rules) (z : Sizes) (m : Memory) (u : List ℕ) (L : List Arc) (w : World) : Type 0 where
  pub sizes : w.tape.book.sizes ≡ z
  pub four : length w.tape.book.logs ≡ 4
  pub accepted : Accepted K m u
  pub cells : take z.cells w.cells ≡ (plain K m u).cells
  pub states : take z.cores w.states ≡ (plain K m u).states
  pub counts : (k : ℕ) → k < z.cores → (log_in w.tape.book k).instructions ≡ slice_index (plain K m u).counts k
  pub position : w.tape.book.position ≡ turns (run_of K m u)
  pub recording : Recording meets (run_of K m u) w.tape.numbers L
  pub recalls : Recalls (run_of K m u) w.tape.history

-- an arc as the log of its target core has it, and all of them in the log of core k
abbrev pub to_log : Arc → LogArc
to_log a = record { source = a.source.core; count = a.source.count; target = a.target.count }

abbrev pub logs_of : ℕ → List Arc → List LogArc
logs_of k L = map to_log (log k L)

-- and the body of that log
abbrev pub body_of : ℕ → List Arc → List Entry
body_of k L = map arc_entry (logs_of k L)
