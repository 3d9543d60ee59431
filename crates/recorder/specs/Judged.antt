-- The candidates of an access are judged in their order.
use Rattle.std.specs.Prelude.{◌≡◌, ℕ, ◌+◌, ◌*◌, Bool, cond, List, [], ◌∷◌, ◌++◌, map, length, Some, None, MatchBool, Option}
use Rattle.accesses.specs.declared.access.Access.{Access}
use Rattle.accesses.specs.declared.access.Candidate.{Candidate}
use Rattle.records.specs.Format.{LogArc, arc, written, splice}
use Rattle.records.specs.declared.settings.Sizes.{Sizes}
use Rattle.reducers.specs.Calls.{Call, takes, Does}
use Rattle.reducers.specs.Numbers.{Numbers, Meets, knows}
use Rattle.recorder.specs.declared.arcs.Tail.{Tail}

-- whether a reducer with the numbers n answers yes about x and j
abbrev pub known? : ℕ → Numbers → Candidate → Bool
known? j n x = knows n x.source.core x.source.count j

-- the call that takes the arc from x, an access to cell c, to j
abbrev pub take_of : ℕ → ℕ → Candidate → Call
take_of c j x = takes x.source.core x.source.count c x.kind j

-- m may be a reducer's numbers once a candidate was judged: what is known is not taken
abbrev pub Steps : Meets → ℕ → ℕ → Numbers → Option Candidate → Numbers → Type 0
Steps meets c j n None m = m ≡ n
Steps meets c j n (Some x) m = MatchBool (known? j n x) (m ≡ n) (Does meets n (take_of c j x) m)

-- the numbers after each candidate, each by the rule from the one before
pub data Judged (meets : Meets) (c j : ℕ) : Numbers → List (Option Candidate) → List Numbers → Type 0 where
  none : {n : Numbers} → Judged meets c j n [] []
  then : {n m : Numbers} {x : Option Candidate} {xs : List (Option Candidate)} {ms : List Numbers} →
      Steps meets c j n x m → Judged meets c j m xs ms → Judged meets c j n (x ∷ xs) (m ∷ ms)

-- the arc of a candidate to an access, where it is not known
abbrev pub fresh : Access → Numbers → Option Candidate → List LogArc
fresh by n None = []
fresh by n (Some x) = cond (known? by.core n x) [] (record { source = x.source.core; count = x.source.count; target = by.count } ∷ [])

-- the arcs to an access, given the numbers after each candidate
abbrev pub arcs_to : Access → Numbers → List (Option Candidate) → List Numbers → List LogArc
arcs_to by n [] ms = []
arcs_to by n (x ∷ xs) [] = []
arcs_to by n (x ∷ xs) (m ∷ ms) = fresh by n x ++ arcs_to by m xs ms

abbrev pub last_of : Numbers → List Numbers → Numbers
last_of n [] = n
last_of n (m ∷ ms) = last_of m ms

-- a log's tail behind some more arcs
abbrev pub moved : Tail → List LogArc → Tail
moved t arcs = record { offset = t.offset + length (written (map arc arcs)); arcs = t.arcs + length arcs }

-- the candidates xs were judged, and their arcs appended to the log of the access's core
pub record Logged (meets : Meets) (z : Sizes) (c : ℕ) (by : Access) (n : Numbers) (xs : List (Option Candidate)) (n' : Numbers)
    (t : Tail) (store : List ℕ) (t' : Tail) (store' : List ℕ) : Type 0 where
  pub trail : List Numbers
  pub judged : Judged meets c by.core n xs trail
  pub last : n' ≡ last_of n trail
  pub bytes : store' ≡ splice (by.core * z.log_bytes + t.offset) (written (map arc (arcs_to by n xs trail))) store
  pub tail : t' ≡ moved t (arcs_to by n xs trail)
