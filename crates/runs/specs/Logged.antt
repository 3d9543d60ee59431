-- What each reducer logs: the reduction, or lists of candidates; and the order of the arcs to one target.
use Rattle.std.specs.Prelude.{◌≡◌, ℕ, ◌<◌, Bool, true, cond, ◌&&◌, ◌↔◌, List, [], ◌∷◌, ◌==◌, nat_lt}
use Rattle.reducers.specs.Numbers.{Numbers, Meets, zeros}
use Rattle.reducers.specs.Rows.{KnownOnly}
use Rattle.runs.specs.Runs.{Run, Instr, next, Reduced}
use Rattle.runs.specs.Candidates.{Candidate, candidates}
use Rattle.runs.specs.Recording.{Arc, arc, In, Recording, log}
use Rattle.runs.specs.Positions.{position, Once}

-- The arcs are exactly the reduction between cores of a run, each once.
abbrev pub ReductionLogged : Run → List Arc → Type 0
ReductionLogged r L = ((x y : Instr) → In (arc x y) L ↔ Reduced r x y) × Once L

-- The arcs to instruction y from candidates in their order, in front of those logged before, the newest first.
abbrev pub arcs_from : Instr → List Candidate → List Arc → List Arc
arcs_from y [] L = L
arcs_from y (x ∷ l) L = arcs_from y l (arc x.source y ∷ L)

-- Every candidate of every turn, the newest first.
abbrev pub every_candidate : Run → List Arc
every_candidate [] = []
every_candidate (e ∷ h) = arcs_from (next h e) (candidates h e) (every_candidate h)

-- The count of x is above every source count that was logged from its core to core j.
abbrev pub newer : Instr → ℕ → List Arc → Bool
newer x j [] = true
newer x j (a ∷ L) =
    cond (a.source.core == x.core && a.target.core == j) (nat_lt a.source.count x.count) true && newer x j L

-- Of the candidates those that are newer than all logged from their core to that of y.
abbrev pub newer_arcs : Instr → List Candidate → List Arc → List Arc
newer_arcs y [] L = L
newer_arcs y (x ∷ l) L = newer_arcs y l (cond (newer x.source y.core L) (arc x.source y ∷ L) L)

-- The same of every turn, the newest first.
abbrev pub every_newer : Run → List Arc
every_newer [] = []
every_newer (e ∷ h) = newer_arcs (next h e) (candidates h e) (every_newer h)

abbrev pub KeepAllLogsEveryCandidate : Type 0
KeepAllLogsEveryCandidate = (r : Run) (N : Numbers) (L : List Arc) → Recording (λ n _. n ≡ zeros) r N L → L ≡ every_candidate r

abbrev pub PairwiseLogsWhatIsNewer : Type 0
PairwiseLogsWhatIsNewer = (r : Run) (N : Numbers) (L : List Arc) → Recording KnownOnly r N L → L ≡ every_newer r

-- In a log the arcs to one target come from the latest position first.
abbrev pub LatestFirst : Run → List Arc → Type 0
LatestFirst r [] = Unit {0}
LatestFirst r (a ∷ l) =
    ((b : Arc) → In b l → a.target ≡ b.target → position r b.source < position r a.source) × LatestFirst r l

abbrev pub TargetsAreLatestFirst : Meets → Type 0
TargetsAreLatestFirst meets =
    (r : Run) (N : Numbers) (L : List Arc) → Recording meets r N L → (k : ℕ) → LatestFirst r (log k L)

-- Which arcs of a run were logged: to one target from the latest position on, and by how the reducer meets its bounds
pub record ArcsLogged (meets : Meets) (r : Run) (arcs : List Arc) : Type 0 where
  pub latest_first : (k : ℕ) → LatestFirst r (log k arcs)
  -- with equality (exact): just the transitive reduction between cores of the run, each arc once
  pub exact : ((n b : Numbers) → meets n b → n ≡ b) → ReductionLogged r arcs
  -- with 0 (keep-all): every candidate
  pub keep_all : ((n b : Numbers) → meets n b → n ≡ zeros) → arcs ≡ every_candidate r
  -- with known numbers alone (pairwise): every candidate whose count is above every source count logged from its core to this one
  pub pairwise : ((n b : Numbers) → meets n b → KnownOnly n b) → arcs ≡ every_newer r
