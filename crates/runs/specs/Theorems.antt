-- What is proved of runs, recordings and replays. `Recording ◌⊑◌` is a recording with any reducer within its bounds,
-- `Recording ◌≡◌` one with the exact reducer; so a statement at `◌⊑◌` is one about any reducer.
use Rattle.std.specs.Prelude.{◌≡◌, ℕ, suc, ◌+◌, ◌<◌, ◌≤◌, true, ◌≢◌, ◌↔◌, List, [], ◌∷◌, length, slice_index}
use Rattle.std.proofs.Math.Option.{none}
use Rattle.cores.specs.Memory.{Rules, Memory, start, plain, Accepted}
use Rattle.reducers.specs.Numbers.{Numbers, Meets, zeros, ◌⊑◌}
use Rattle.reducers.specs.Rows.{KnownOnly}
use Rattle.runs.specs.Runs.{Event, Run, Instr, core_of, done, next, Has, Conflict, Before}
use Rattle.runs.specs.Candidates.{Candidate, candidate, candidates}
use Rattle.runs.specs.Recording.{Arc, In, Reach, Judged, Recording, log}
use Rattle.runs.specs.Logged.{ReductionLogged}
use Rattle.runs.specs.Reducers.{Reducer, Keeps, recorded, exact, pairwise, keep_all, Pairwise, Nothing}
use Rattle.runs.specs.Positions.{position, Newest, gather}
use Rattle.runs.specs.PlainRun.{run}
use Rattle.runs.specs.Replay.{free, waiting, Suffices, Replays}

-- Program order and the logged arcs give exactly the order of the run.
abbrev pub NoOrderingLost : Meets → Type 0
NoOrderingLost meets =
    (r : Run) (N : Numbers) (L : List Arc) → Recording meets r N L → (x y : Instr) → Reach r L x y ↔ Before r x y

-- Along a log targets never fall, and no target has two sources of one core.
abbrev pub Rising : List Arc → Type 0
Rising [] = Unit {0}
Rising (a ∷ l) =
    ((b : Arc) → In b l → (a.target.count ≤ b.target.count) × (a.target.count ≡ b.target.count → a.source.core ≢ b.source.core))
    × Rising l

-- What logs are held to. An arc leads from an older to a newer conflicting access, so between different cores.
pub record Lawful (r : Run) (L : List Arc) : Type 0 where
  pub conflicts : (a : Arc) → In a L → Conflict r a.source a.target
  pub counts : (a : Arc) → In a L → Has r a.source × Has r a.target
  pub rising : (j : ℕ) → Rising (log j L)

-- Logs are lawful, and an access logs at most one arc from each other core.
abbrev pub LogsAreLawful : Meets → Type 0
LogsAreLawful meets = (r : Run) (N : Numbers) (L : List Arc) → Recording meets r N L → Lawful r L

abbrev pub LogsFew : Meets → Type 0
LogsFew meets =
    (p : ℕ) (h : Run) (e : Event) (N N₁ : Numbers) (L L₁ : List Arc) → ((k : ℕ) → p ≤ k → done h k ≡ 0) → core_of e < p →
    Judged meets e (next h e) (candidates h e) N L N₁ L₁ → length L₁ < p + length L

-- With the exact reducer the logged arcs are exactly the reduction between cores, each once.
abbrev pub ExactLogsTheReduction : Type 0
ExactLogsTheReduction = (r : Run) (N : Numbers) (L : List Arc) → Recording ◌≡◌ r N L → ReductionLogged r L

-- known j i of the exact reducer is the largest count of core i before some instruction of core j, or 0.
abbrev pub KnownMeansBefore : Type 0
KnownMeansBefore =
    (r : Run) (N : Numbers) (L : List Arc) → Recording ◌≡◌ r N L → (j : ℕ) (x : Instr) → x.core ≢ j → 1 ≤ x.count →
    (x.count ≤ N.known j x.core) ↔ ((b : ℕ) × Before r x (record { core = j; count = b }))

-- The counts of the plain memory are those of its run.
abbrev pub CountsAgree : Type 0
CountsAgree =
    (place : ℕ → ℕ) (K : Rules) (cells : List ℕ) (states : List (List ℕ)) (u : List ℕ) → Accepted K (start cells states) u →
    (k : ℕ) → done (run place K (start cells states) u) k ≡ slice_index (plain K (start cells states) u).counts k

-- Replays over arcs that lead forward and order every conflict agree with the plain memory and finish.
abbrev pub ReplayAgrees : Type 0
ReplayAgrees =
    (place : ℕ → ℕ) (K : Rules) (cells : List ℕ) (states : List (List ℕ)) (u : List ℕ) (arcs : List Arc) →
    Suffices place K (start cells states) u arcs → Replays K (start cells states) u arcs

-- So do replays over the arcs of a recording of the run, with conflicts at any places.
abbrev pub ReplayOfARecordingAgrees : Meets → Rules → Type 0
ReplayOfARecordingAgrees meets K =
    (place : ℕ → ℕ) (cells : List ℕ) (states : List (List ℕ)) (u : List ℕ) → Accepted K (start cells states) u →
    (N : Numbers) (L : List Arc) → Recording meets (run place K (start cells states) u) N L → Replays K (start cells states) u L

-- Whatever the run and the reducer, there is a recording.
abbrev pub RecordingsExist : Meets → Type 0
RecordingsExist meets = (R : Reducer) → Keeps meets R → (r : Run) → Recording meets r (recorded R r).numbers (recorded R r).arcs

abbrev pub Bounded : Meets → Type 0
Bounded meets = (n b : Numbers) → meets n b → n ⊑ b

-- The three reducers meet their bounds as they should.
pub record ThreeReducersAreBounded : Type 0 where
  pub exact_keeps : Keeps ◌≡◌ exact
  pub pairwise_keeps : Keeps Pairwise pairwise
  pub keep_all_keeps : Keeps Nothing keep_all
  pub exact_bounded : Bounded ◌≡◌
  pub pairwise_bounded : Bounded Pairwise
  pub keep_all_bounded : Bounded Nothing

-- Whatever arcs give, with program order, the order of the run: every arc that the exact reducer logs is among them.
abbrev pub ExactIsLeast : Type 0
ExactIsLeast =
    (r : Run) (N : Numbers) (L : List Arc) → Recording ◌≡◌ r N L →
    (M : List Arc) → ((x y : Instr) → Reach r M x y ↔ Before r x y) → (a : Arc) → In a L → In a M

-- Without an arc that the exact reducer logs, the others do not order its source before its target.
abbrev pub DroppingLosesAnOrdering : Type 0
DroppingLosesAnOrdering =
    (r : Run) (N : Numbers) (L : List Arc) → Recording ◌≡◌ r N L →
    (a : Arc) → In a L → (M : List Arc) → ((b : Arc) → In b M → In b L) → (In a M → ⊥) →
    Before r a.source a.target × (Reach r M a.source a.target → ⊥)

-- The candidates of a turn are the one list that holds the candidate of each core, the latest position first.
abbrev pub NewestFirst : Type 0
NewestFirst = (h : Run) (e : Event) (l : List Candidate) → (l ≡ candidates h e) ↔ Newest h e l

-- A recorder of n cores finds them by asking what is remembered of each core in turn and ordering by position.
abbrev pub CandidatesByCores : Type 0
CandidatesByCores = (h : Run) (e : Event) (n : ℕ) → ((k : ℕ) → n ≤ k → done h k ≡ 0) →
    gather (λ y. position h y.source) (candidate h e) n ≡ candidates h e

-- A core waits exactly while the source of some arc to its next instruction is not done.
abbrev pub WaitsForSources : Type 0
WaitsForSources =
    (arcs : List Arc) (d : List ℕ) (j : ℕ) →
    ((free arcs d j ≡ true) ↔
    ((a : Arc) → In a arcs → a.target ≡ record { core = j; count = suc (slice_index d j) } → a.source.count ≤ slice_index d a.source.core))
    × ((free arcs d j ≡ true) ↔ (waiting arcs d j ≡ none))

-- Only the arcs to its next instruction matter, in whatever order; so its own log is enough.
abbrev pub OwnLogIsEnough : Type 0
OwnLogIsEnough =
    ((arcs some_arcs : List Arc) (d : List ℕ) (j : ℕ) →
    ((a : Arc) → a.target ≡ record { core = j; count = suc (slice_index d j) } → In a arcs ↔ In a some_arcs) → free arcs d j ≡ free some_arcs d j)
    × ((L : List Arc) (d : List ℕ) (j : ℕ) → free (log j L) d j ≡ free L d j)

-- What conflicts at a cell conflicts at its place, so places keep at least the order of the cells.
abbrev pub PlacesKeepTheOrder : Type 0
PlacesKeepTheOrder =
    (place : ℕ → ℕ) (K : Rules) (m : Memory) (u : List ℕ) (x y : Instr) →
    Before (run (λ c. c) K m u) x y → Before (run place K m u) x y

-- What each of the three reducers logs is decided by the run.
pub record ThreeReducersAreDecided : Type 0 where
  pub exact_logs : (r : Run) (N : Numbers) (L : List Arc) → Recording ◌≡◌ r N L → L ≡ (recorded exact r).arcs
  pub pairwise_logs : (r : Run) (N : Numbers) (L : List Arc) → Recording KnownOnly r N L → L ≡ (recorded pairwise r).arcs
  pub keep_all_logs : (r : Run) (N : Numbers) (L : List Arc) → Recording (λ n _. n ≡ zeros) r N L → L ≡ (recorded keep_all r).arcs
