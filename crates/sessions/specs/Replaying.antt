-- A replay of a store: opened, stepped, then run to its end.
use Rattle.std.specs.Prelude.{ℕ, List, length}
use Rattle.cores.specs.declared.interface.Request.{Request}
use Rattle.logs.specs.Session.{no_counts}
use Rattle.records.specs.Settings.{no_sizes}
use Rattle.records.specs.declared.settings.Sizes.{Sizes}
use Rattle.replayer.specs.Memories.{walked}
use Rattle.replayer.specs.Runs.{Session, session, ran}
use Rattle.replayer.specs.Steps.{Opened, Outcome, started, reopened}
use Rattle.replays.specs.Replies.{steps_said}

-- what opening leaves of a new replayer
abbrev pub first_opening : Sizes → List ℕ → List (List ℕ) → List ℕ → Opened
first_opening z cells states store = reopened (started no_sizes no_counts) z (length states) (length cells) store

module _ (next : List ℕ → List ℕ → Request) (after : List ℕ → List ℕ → ℕ → List ℕ) (text store : List ℕ) (z : Sizes) (cells : List ℕ) (states : List (List ℕ)) where
  -- nothing is carried out yet
  abbrev pub at_opening : Session
  at_opening = session 0 (first_opening z cells states store).replayer cells states

  -- what the steps say
  abbrev pub said_by_steps : List ℕ → List (List ℕ)
  said_by_steps steps = steps_said next after text store at_opening steps

  -- where they come
  abbrev pub behind_steps : List ℕ → Session
  behind_steps steps = walked next after text store at_opening steps

  -- what the run behind the steps says and leaves
  abbrev pub run_behind : List ℕ → Outcome
  run_behind steps = ran next after text store (behind_steps steps).replayer (behind_steps steps).cells (behind_steps steps).states
