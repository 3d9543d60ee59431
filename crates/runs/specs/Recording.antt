-- Recordings of a run, with any reducer that keeps to its bounds.
use Rattle.std.specs.Prelude.{◌≡◌, ℕ, ◌<◌, ◌≤◌, ◌⊎◌, List, [], ◌∷◌, ◌++◌}
use Rattle.reducers.specs.declared.interface.AccessKind.TheVariants.{Read, Write}
use Rattle.reducers.specs.Numbers.{Numbers, Meets, zeros, taken, noted}
use Rattle.runs.specs.Runs.{Access, local, read, write, Event, ev, Run, Instr, core_of, access_of, if_same, next, Has, Closure}
use Rattle.runs.specs.Candidates.{Candidate, candidates}

-- `source` comes before `target`
pub record Arc : Type 0 where
  pub source : Instr
  pub target : Instr

abbrev pub arc : Instr → Instr → Arc
arc x y = record { source = x; target = y }

abbrev pub In : {A : Type 0} → A → List A → Type 0
In a [] = ⊥
In a (b ∷ l) = (a ≡ b) ⊎ In a l

-- The closure of a run's program order and of arcs.
abbrev pub Reach : Run → List Arc → Instr → Instr → Type 0
Reach r L = Closure (Has r) (λ x y. In (arc x y) L)

abbrev pub place_of : Access → ℕ
place_of local = 0
place_of (read c) = c
place_of (write c) = c

-- The candidates of e, which is instruction y, are gone through: each is known already, or its arc is logged and taken.
pub data Judged (meets : Meets) (e : Event) (y : Instr) : List Candidate → Numbers → List Arc → Numbers → List Arc → Type 0 where
  none_left : {N : Numbers} {L : List Arc} → Judged meets e y [] N L N L
  answers_yes : {x : Candidate} {l : List Candidate} {N N' : Numbers} {L L' : List Arc} →
      x.source.count ≤ N.known (core_of e) x.source.core →
      Judged meets e y l N L N' L' → Judged meets e y (x ∷ l) N L N' L'
  answers_no : {x : Candidate} {l : List Candidate} {N N₁ N' : Numbers} {L L' : List Arc} →
      N.known (core_of e) x.source.core < x.source.count →
      meets N₁ (taken N x.source.core x.source.count (place_of (access_of e)) x.kind (core_of e)) →
      Judged meets e y l N₁ (arc x.source y ∷ L) N' L' → Judged meets e y (x ∷ l) N L N' L'

-- The access of e is noted.
abbrev pub Noted : Meets → Event → Numbers → Numbers → Type 0
Noted meets (ev j local) N N' = N' ≡ N
Noted meets (ev j (read c)) N N' = meets N' (noted N j c Read)
Noted meets (ev j (write c)) N N' = meets N' (noted N j c Write)

-- A recording of a run: the reducer's numbers and all logged arcs after it, the newest first.
pub data Recording (meets : Meets) : Run → Numbers → List Arc → Type 0 where
  begin : Recording meets [] zeros []
  turn : {e : Event} {h : Run} {N N₁ N₂ : Numbers} {L L₁ : List Arc} →
      Recording meets h N L → Judged meets e (next h e) (candidates h e) N L N₁ L₁ → Noted meets e N₁ N₂ →
      Recording meets (e ∷ h) N₂ L₁

-- The log of core j: the arcs to its instructions, the oldest first.
abbrev pub log : ℕ → List Arc → List Arc
log j [] = []
log j (a ∷ L) = if_same a.target.core j (log j L ++ (a ∷ [])) (log j L)
