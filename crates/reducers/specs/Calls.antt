-- Lists of calls of a reducer since its last reset, and what its numbers come to.
use Rattle.std.specs.Prelude.{◌≡◌, ℕ, max, cond, ◌&&◌, List, [], ◌∷◌, MatchBool, ◌==◌}
use Rattle.reducers.specs.Numbers.{Numbers, Meets, zeros, ◌⊑◌, core?, cell?, taken, noted}
use Rattle.reducers.specs.Rows.{KnownOnly}
use Rattle.reducers.specs.declared.interface.AccessKind.{AccessKind}

-- a call: the arc i:a to j, where i:a was an access of that kind to cell c; or an access of j to cell c
pub data Call : Type 0 where
  takes : (i a c : ℕ) → AccessKind → (j : ℕ) → Call
  notes : (j c : ℕ) → AccessKind → Call

-- what a call promises of the numbers before and after it
abbrev pub Does : Meets → Numbers → Call → Numbers → Type 0
Does meets n (takes i a c w j) m = MatchBool (core? i && (core? j && cell? c)) (meets m (taken n i a c w j)) (m ≡ n)
Does meets n (notes j c w) m = MatchBool (core? j && cell? c) (meets m (noted n j c w)) (m ≡ n)

-- the numbers after these calls, the newest first, of a reducer that meets its bounds so
pub data Ran (meets : Meets) : List Call → Numbers → Type 0 where
  fresh : Ran meets [] zeros
  next : {calls : List Call} {n m : Numbers} → Ran meets calls n → (call : Call) → Does meets n call m → Ran meets (call ∷ calls) m

-- the largest source count taken from i to j
abbrev pub largest : List Call → ℕ → ℕ → ℕ
largest [] j i = 0
largest (takes s a c w t ∷ calls) j i = cond ((core? s && (core? t && cell? c)) && (j == t && i == s)) (max (largest calls j i) a) (largest calls j i)
largest (notes t c w ∷ calls) j i = largest calls j i

-- the numbers where each call makes each number the most that it may be
abbrev pub most : List Call → Numbers
most [] = zeros
most (takes i a c w j ∷ calls) = cond (core? i && (core? j && cell? c)) (taken (most calls) i a c w j) (most calls)
most (notes j c w ∷ calls) = cond (core? j && cell? c) (noted (most calls) j c w) (most calls)

-- keep-all knows nothing, whatever it is told
abbrev pub KeepAllKnowsNothing : Type 0
KeepAllKnowsNothing = (calls : List Call) (n : Numbers) → Ran (λ n _. n ≡ zeros) calls n → n ≡ zeros

-- pairwise: known(j, i) is the largest source count taken from i to j, and every stamp is 0
abbrev pub PairwiseKnowsTheLargest : Type 0
PairwiseKnowsTheLargest = (calls : List Call) (n : Numbers) → Ran KnownOnly calls n →
    ((j i : ℕ) → n.known j i ≡ largest calls j i) × ((c k : ℕ) → n.written c k ≡ 0) × ((i c k : ℕ) → n.read i c k ≡ 0)

-- exact meets every bound with equality, and changes no other number
abbrev pub ExactMeetsEveryBound : Type 0
ExactMeetsEveryBound = (calls : List Call) (n : Numbers) → Ran ◌≡◌ calls n → n ≡ most calls

-- a reducer within its bounds, which may forget as it likes, knows at most what exact knows
abbrev pub NoneKnowsMoreThanExact : Type 0
NoneKnowsMoreThanExact = (calls : List Call) (n : Numbers) → Ran ◌⊑◌ calls n → n ⊑ most calls
