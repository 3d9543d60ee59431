-- Reducers as functions on their numbers, and what is recorded with them.
use Rattle.std.specs.Prelude.{◌≡◌, ℕ, cond, List, [], ◌∷◌, nat_le}
use Rattle.reducers.specs.declared.interface.AccessKind.{AccessKind}
use Rattle.reducers.specs.declared.interface.AccessKind.TheVariants.{Read, Write}
use Rattle.reducers.specs.Numbers.{Numbers, Meets, zeros, taken, noted}
use Rattle.reducers.specs.Rows.{known_only}
use Rattle.runs.specs.Runs.{local, read, write, Event, ev, Run, Instr, core_of, access_of, next}
use Rattle.runs.specs.Candidates.{Candidate, candidates}
use Rattle.runs.specs.Recording.{Arc, arc, place_of}

pub record Reducer : Type 0 where
  pub take : Numbers → ℕ → ℕ → ℕ → AccessKind → ℕ → Numbers
  pub note : Numbers → ℕ → ℕ → AccessKind → Numbers

-- the reducer's numbers meet their bounds
pub record Keeps (meets : Meets) (R : Reducer) : Type 0 where
  pub takes : (n : Numbers) (i a c : ℕ) (w : AccessKind) (j : ℕ) → meets (R.take n i a c w j) (taken n i a c w j)
  pub notes : (n : Numbers) (j c : ℕ) (w : AccessKind) → meets (R.note n j c w) (noted n j c w)

pub record Recorded : Type 0 where
  pub numbers : Numbers
  pub arcs : List Arc

abbrev pub judge : Reducer → Event → Instr → List Candidate → Numbers → List Arc → Recorded
judge R e y [] N L = record { numbers = N; arcs = L }
judge R e y (x ∷ l) N L =
    cond (nat_le x.source.count (N.known (core_of e) x.source.core))
    (judge R e y l N L)
    (judge R e y l (R.take N x.source.core x.source.count (place_of (access_of e)) x.kind (core_of e)) (arc x.source y ∷ L))

abbrev pub after_note : Reducer → Event → Numbers → Numbers
after_note R (ev j local) N = N
after_note R (ev j (read c)) N = R.note N j c Read
after_note R (ev j (write c)) N = R.note N j c Write

abbrev pub recorded : Reducer → Run → Recorded
recorded R [] = record { numbers = zeros; arcs = [] }
recorded R (e ∷ h) =
    let s : Recorded = recorded R h in
    let t : Recorded = judge R e (next h e) (candidates h e) s.numbers s.arcs in
    record { numbers = after_note R e t.numbers; arcs = t.arcs }

-- a reducer that makes F of each bound
abbrev pub by_choice : (Numbers → Numbers) → Reducer
by_choice F = record { take = λ n i a c w j. F (taken n i a c w j); note = λ n j c w. F (noted n j c w) }

abbrev pub exact : Reducer
exact = record { take = taken; note = noted }

abbrev pub pairwise : Reducer
pairwise = record { take = λ n i a c w j. known_only (taken n i a c w j); note = λ n j c w. known_only (noted n j c w) }

abbrev pub keep_all : Reducer
keep_all = record { take = λ n i a c w j. zeros; note = λ n j c w. zeros }

-- what the three make of a bound
abbrev pub Pairwise : Meets
Pairwise n b = n ≡ known_only b

abbrev pub Nothing : Meets
Nothing n b = n ≡ zeros
