-- A replay follows the logs that were opened: each core's place stands behind the arcs of the instructions that it has done.
use Rattle.std.specs.Prelude.{◌≡◌, ℕ, ◌+◌, ◌<◌, ◌≤◌, true, List, [], ◌∷◌, ◌++◌, length, Ok, filter, nat_eq, slice_index, slice_index_or}
use Rattle.std.specs.List.{AllByRecursion}
use Rattle.cores.specs.declared.interface.Request.{Request}
use Rattle.records.specs.declared.reading.SavedPlace.{SavedPlace}
use Rattle.records.specs.declared.settings.Sizes.{Sizes}
use Rattle.records.specs.Format.{LogArc, Entry}
use Rattle.records.specs.Settings.{fits, settled}
use Rattle.logs.specs.Lawful.{arcs_in, Within, LogHolds, Accepted}
use Rattle.replayer.specs.declared.replay.Replayer.{Replayer}
use Rattle.replayer.specs.Groups.{past_all, waits_for}
use Rattle.replayer.specs.Runs.{ran}
use Rattle.replayer.specs.Steps.{behind_head, reopened, ahead, freed, gone, stepped}

-- the arcs to one instruction
abbrev pub arcs_to : ℕ → List LogArc → List LogArc
arcs_to t arcs = filter (λ a. nat_eq a.target t) arcs

-- the place stands in a body behind the arcs to the first d instructions, and before the others
pub record Stands (d : ℕ) (body : List Entry) (p : SavedPlace) : Type 0 where
  pub front : List Entry
  pub rest : List Entry
  pub split : body ≡ front ++ rest
  pub place : p ≡ past_all behind_head front
  pub passed : AllByRecursion (λ a. a.target ≤ d) (arcs_in front)
  pub later : AllByRecursion (λ a. d < a.target) (arcs_in rest)

-- the store's logs are those of these arcs, and the replay has come so far in each
pub record Follows (store : List ℕ) (bodies : ℕ → List Entry) (R : Replayer) : Type 0 where
  pub fits : fits (length store) R.sizes ≡ true
  pub holds : (j : ℕ) → j < R.sizes.cores → LogHolds store R.sizes R.counts bodies j
  pub sources : (j : ℕ) → j < R.sizes.cores → Within R.counts (arcs_in (bodies j))
  pub places : (j : ℕ) → j < R.sizes.cores → Stands (slice_index R.done j) (bodies j) (slice_index_or R.places j behind_head)
  pub done : (j : ℕ) → slice_index R.done j ≤ slice_index R.counts j
  pub four : length R.done ≡ 4
  pub places_four : length R.places ≡ 4

-- an accepted opening follows the logs that it accepted
abbrev pub OpeningFollows : Type 0
OpeningFollows =
    (R : Replayer) (z : Sizes) (cores cells : ℕ) (store : List ℕ) → (reopened R z cores cells store).says ≡ 0 ∷ [] →
    (w : Accepted store z (reopened R z cores cells store).replayer.counts) → Follows store w.bodies (reopened R z cores cells store).replayer

-- what stands ahead of core j: exactly the arcs to its next instruction
abbrev pub StepReads : Type 0
StepReads =
    (store : List ℕ) (bodies : ℕ → List Entry) (R : Replayer) → Follows store bodies R → (j : ℕ) → j < R.sizes.cores →
    (p : SavedPlace) × Stands (slice_index R.done j + 1) (bodies j) p
    × (ahead R store j ≡ Ok (record { place = p; waits = waits_for R.done (arcs_to (slice_index R.done j + 1) (arcs_in (bodies j))) }))

-- so a step of a core with an instruction left meets no fault: it waits for the first arc to that instruction whose source is not done, or else asks
abbrev pub StepWaits : Type 0
StepWaits =
    (next : List ℕ → List ℕ → Request) (after : List ℕ → List ℕ → ℕ → List ℕ) (text : List ℕ) (R : Replayer) (cells : List ℕ) (states : List (List ℕ))
    (store : List ℕ) (bodies : ℕ → List Entry) → Follows store bodies R →
    (j : ℕ) → settled R.sizes (length states) (length cells) (length store) ≡ true → j < R.sizes.cores → slice_index R.done j < slice_index R.counts j →
    (p : SavedPlace) × Stands (slice_index R.done j + 1) (bodies j) p
    × (stepped next after text R cells states store j
    ≡ gone next after text R cells states j (freed (waits_for R.done (arcs_to (slice_index R.done j + 1) (arcs_in (bodies j)))) p))

-- any step, and any run, follows the same logs on
abbrev pub StepsFollow : Type 0
StepsFollow =
    (next : List ℕ → List ℕ → Request) (after : List ℕ → List ℕ → ℕ → List ℕ) (text : List ℕ) (R : Replayer) (cells : List ℕ) (states : List (List ℕ))
    (store : List ℕ) (bodies : ℕ → List Entry) → Follows store bodies R →
    (j : ℕ) → Follows store bodies (stepped next after text R cells states store j).replayer

abbrev pub RunsFollow : Type 0
RunsFollow =
    (next : List ℕ → List ℕ → Request) (after : List ℕ → List ℕ → ℕ → List ℕ) (text : List ℕ) (R : Replayer) (cells : List ℕ) (states : List (List ℕ))
    (store : List ℕ) (bodies : ℕ → List Entry) → Follows store bodies R →
    Follows store bodies (ran next after text store R cells states).replayer
