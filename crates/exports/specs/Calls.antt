-- Calls of a new recorder, or of a new replayer, one after another, and the checksum of their answers.
use Rattle.std.specs.Prelude.{ℕ, Bool, cond, List, fold, length}
use Rattle.cores.specs.Memory.{Rules}
use Rattle.cores.specs.declared.interface.Request.{Request}
use Rattle.exports.specs.Answers.{mixed, begin_number, turn_number, opening_number, step_number, run_number}
use Rattle.logs.specs.Session.{no_counts}
use Rattle.recorder.specs.Decided.{turned_by}
use Rattle.recorder.specs.Turns.{World, world, fresh_tape, begun}
use Rattle.records.specs.Settings.{no_sizes}
use Rattle.records.specs.declared.settings.Sizes.{Sizes}
use Rattle.reducers.specs.Numbers.{Numbers}
use Rattle.replayer.specs.Runs.{ran}
use Rattle.replayer.specs.Steps.{Opened, started, reopened, stepped}
use Rattle.replayer.specs.declared.replay.Replayer.{Replayer}

-- the checksum so far, and all that a turn can change
pub record Recording : Type 0 where
  pub sum : ℕ
  pub world : World

abbrev pub recording : ℕ → World → Recording
recording sum w = record { sum = sum; world = w }

-- with a reducer whose choice is F, and rules K of the cores
module _ (F : Numbers → Numbers) (K : Rules) where
  abbrev pub one_turn : Recording → ℕ → Recording
  one_turn r j = let o = turned_by F K j r.world in recording (mixed r.sum (turn_number o.says)) o.leaves

  -- begin, over a new recorder, and the turns
  abbrev pub recorded : Sizes → List ℕ → List (List ℕ) → List ℕ → List ℕ → Recording
  recorded z cells states store turns =
      let b = begun z (length states) (length cells) (fresh_tape no_sizes store) in
      fold one_turn (recording (begin_number b.says) (world b.leaves cells states)) turns

-- the checksum so far, and all that a step can change
pub record Replay : Type 0 where
  pub sum : ℕ
  pub replayer : Replayer
  pub cells : List ℕ
  pub states : List (List ℕ)

abbrev pub replay : ℕ → Replayer → List ℕ → List (List ℕ) → Replay
replay sum R cells states = record { sum = sum; replayer = R; cells = cells; states = states }

-- the opening of a new replayer, over so many cores and cells
abbrev pub first_opening : Sizes → ℕ → ℕ → List ℕ → Opened
first_opening z cores cells store = reopened (started no_sizes no_counts) z cores cells store

module _ (next : List ℕ → List ℕ → Request) (after : List ℕ → List ℕ → ℕ → List ℕ) (text store : List ℕ) where
  abbrev pub one_step : Replay → ℕ → Replay
  one_step r j =
      let o = stepped next after text r.replayer r.cells r.states store j in
      replay (mixed r.sum (step_number o.says)) o.replayer o.cells o.states

  abbrev pub run_to_end : Replay → Replay
  run_to_end r =
      let o = ran next after text store r.replayer r.cells r.states in
      replay (mixed r.sum (run_number o.says)) o.replayer o.cells o.states

  -- the opening, the steps, and a run where one is wanted
  abbrev pub replayed : Sizes → List ℕ → List (List ℕ) → List ℕ → Bool → Replay
  replayed z cells states steps runs =
      let o = first_opening z (length states) (length cells) store in
      let r = fold one_step (replay (opening_number o.says) o.replayer cells states) steps in
      cond runs (run_to_end r) r
