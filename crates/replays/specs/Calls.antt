-- Calls of a replayer since an accepted opening, each by what it promises: steps, runs, and openings that are refused.
use Rattle.std.specs.Prelude.{◌≡◌, ℕ, ◌≢◌, List, [], ◌∷◌}
use Rattle.cores.specs.declared.interface.Request.{Request}
use Rattle.records.specs.declared.settings.Sizes.{Sizes}
use Rattle.replayer.specs.Runs.{ran}
use Rattle.replayer.specs.Steps.{Outcome, Opened, reopened, stepped}
use Rattle.replayer.specs.declared.replay.Replayer.{Replayer}

-- a replayer with the cells and states that it is called with
pub record Stage : Type 0 where
  pub replayer : Replayer
  pub cells : List ℕ
  pub states : List (List ℕ)

abbrev pub stage : Replayer → List ℕ → List (List ℕ) → Stage
stage R cells states = record { replayer = R; cells = cells; states = states }

pub data Continues (next : List ℕ → List ℕ → Request) (after : List ℕ → List ℕ → ℕ → List ℕ) (text store : List ℕ) (a : Stage) : Stage → Type 0 where
  none : Continues next after text store a a
  steps : {b : Stage} → Continues next after text store a b → (j : ℕ) (o : Outcome) → o ≡ stepped next after text b.replayer b.cells b.states store j →
      Continues next after text store a (stage o.replayer o.cells o.states)
  runs : {b : Stage} → Continues next after text store a b → (o : Outcome) → o ≡ ran next after text store b.replayer b.cells b.states →
      Continues next after text store a (stage o.replayer o.cells o.states)
  -- over any bytes, cells and cores
  not_opened : {b : Stage} → Continues next after text store a b → (z : Sizes) (cores cells : ℕ) (bytes : List ℕ) (x : Opened) → x ≡ reopened b.replayer z cores cells bytes →
      x.says ≢ 0 ∷ [] → Continues next after text store a (stage x.replayer b.cells b.states)
