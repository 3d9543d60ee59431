-- A history of accesses that recalls a run: of each cell its last write and each core's latest read since, with their positions.
use Rattle.std.specs.Prelude.{◌≡◌, ℕ, suc, ◌<◌, ◌≤◌, List, [], ◌∷◌, length, get_or, replicate, Some, None, Option, slice_index_or}
use Rattle.std.proofs.Math.Option.{none, some}
use Rattle.std.proofs.Math.Option as of_run
use Rattle.reducers.specs.declared.interface.AccessKind.{AccessKind}
use Rattle.reducers.specs.declared.interface.AccessKind.TheVariants.{Read, Write}
use Rattle.accesses.specs.declared.access.Access.{Access}
use Rattle.accesses.specs.declared.access.Candidate.{Candidate}
use Rattle.accesses.specs.declared.history.CellHistory.{CellHistory}
use Rattle.accesses.specs.Histories.{untouched, no_cell, remembering, candidates_at}
use Rattle.runs.specs.Candidates as run_candidates
use Rattle.runs.specs.Candidates.{last_write, latest_read, candidates}
use Rattle.runs.specs.Positions.{position}
use Rattle.runs.specs.Runs.{Access as AccessOfRun, Instr, Run, ev, local, read, write, done, turns}

-- an access of the history is instruction x of the run, at its position
pub record Is (r : Run) (a : Access) (x : Instr) : Type 0 where
  pub core : a.core ≡ x.core
  pub count : a.count ≡ x.count
  pub position : a.position ≡ position r x

abbrev pub SameWrite : Run → Option Access → of_run.Option Instr → Type 0
SameWrite r None none = Unit {0}
SameWrite r None (some x) = ⊥
SameWrite r (Some a) none = ⊥
SameWrite r (Some a) (some x) = Is r a x

abbrev pub SameRead : Run → ℕ → Option Access → of_run.Option ℕ → Type 0
SameRead r k None none = Unit {0}
SameRead r k None (some b) = ⊥
SameRead r k (Some a) none = ⊥
SameRead r k (Some a) (some b) = Is r a (record { core = k; count = b })

pub record Recalls (r : Run) (cells : List CellHistory) : Type 0 where
  pub size : length cells ≡ 256
  pub rows : (c : ℕ) → c < 256 → length (get_or cells c no_cell).reads ≡ 4
  pub writes : (c : ℕ) → c < 256 → SameWrite r (get_or cells c no_cell).last_write (last_write r c)
  pub reads : (c k : ℕ) → c < 256 → k < 4 → SameRead r k (slice_index_or (get_or cells c no_cell).reads k None) (latest_read r c k)

abbrev pub NothingIsRecalledAtFirst : Type 0
NothingIsRecalledAtFirst = Recalls [] (replicate 256 untouched)

-- the access that core j makes next
abbrev pub next_access : Run → ℕ → Access
next_access r j = record { core = j; count = suc (done r j); position = suc (turns r) }

-- remembering each access recalls the run with it; a local instruction is not remembered
pub record RememberingRecallsTheRun : Type 0 where
  pub local_kept : (r : Run) (cells : List CellHistory) (j : ℕ) → Recalls r cells → Recalls (ev j local ∷ r) cells
  pub read_kept : (r : Run) (cells : List CellHistory) (j c : ℕ) → j < 4 → c < 256 → Recalls r cells → Recalls (ev j (read c) ∷ r) (remembering cells c (next_access r j) Read)
  pub write_kept : (r : Run) (cells : List CellHistory) (j c : ℕ) → j < 4 → c < 256 → Recalls r cells → Recalls (ev j (write c) ∷ r) (remembering cells c (next_access r j) Write)

-- a candidate as the run has it
abbrev pub as_run : Candidate → run_candidates.Candidate
as_run x = record { source = record { core = x.source.core; count = x.source.count }; kind = x.kind }

-- those that there are, in their order
abbrev pub given : List (Option Candidate) → List run_candidates.Candidate
given [] = []
given (None ∷ xs) = given xs
given (Some x ∷ xs) = as_run x ∷ given xs

abbrev pub access_to : ℕ → AccessKind → AccessOfRun
access_to c Read = read c
access_to c Write = write c

-- a history that recalls the run gives an access of a session of P cores the run's candidates, latest position first
abbrev pub CandidatesAreTheRuns : Type 0
CandidatesAreTheRuns = (r : Run) (cells : List CellHistory) (P j c : ℕ) (w : AccessKind) → Recalls r cells → P ≤ 4 → j < P → c < 256 →
    ((k : ℕ) → P ≤ k → done r k ≡ 0) → given (candidates_at P cells c j w) ≡ candidates r (ev j (access_to c w))
