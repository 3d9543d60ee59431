-- The candidates fall by position, none is lost or added, and there is at most one from each other core.
use Rattle.std.specs.Prelude.{ℕ, ◌-◌, ◌<◌, ◌≤◌, List, [], ◌∷◌, Option}
use Rattle.std.specs.List.Sorted.{IsPermutation}
use Rattle.std.specs.List.{AllByRecursion}
use Rattle.reducers.specs.declared.interface.AccessKind.{AccessKind}
use Rattle.accesses.specs.declared.access.Candidate.{Candidate}
use Rattle.accesses.specs.declared.history.CellHistory.{CellHistory}
use Rattle.accesses.specs.Histories.{position_of, latest_first, candidates_at, present}

-- each is at least as late as those behind it
abbrev pub Falls : List (Option Candidate) → Type 0
Falls [] = Unit {0}
Falls (x ∷ xs) = AllByRecursion (λ y. position_of y ≤ position_of x) xs × Falls xs

-- putting candidates in order gives them all, each at least as late as those behind it
abbrev pub LatestFirst : Type 0
LatestFirst = (xs : List (Option Candidate)) → Falls (latest_first xs) × IsPermutation xs (latest_first xs)

-- an access of core j of P has at most P − 1 candidates
abbrev pub AtMostOneEach : Type 0
AtMostOneEach = (P : ℕ) (cells : List CellHistory) (c j : ℕ) (w : AccessKind) → P ≤ 4 → j < P → present (candidates_at P cells c j w) ≤ P - 1
