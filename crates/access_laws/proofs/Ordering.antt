-- Candidates put in order are the run's: the same ones, the latest position first.
use Rattle.std.proofs.Common.{◌≡◌, ℕ, ◌<◌, ◌≤◌, leb, List, [], ◌∷◌, Some, None, Option, sym, ap, ◌∙◌, inl, inr, arith}
use Rattle.std.proofs.lemmas.Bool.{cond_both, cases_eq, cases_lt}
use Rattle.std.specs.List.{AllByRecursion}
use Rattle.accesses.proofs.Order.{latest_all, Pairwise, latest_pairwise, Differ, differ_flip, ordered}
use Rattle.accesses.specs.declared.access.Candidate.{Candidate}
use Rattle.accesses.specs.Histories.{position_of, put, latest_first}
use Rattle.accesses.specs.Laws as order
use Rattle.runs.specs.Candidates as run_candidates
use Rattle.runs.specs.Positions.{position, Falls}
use Rattle.runs.specs.Recording.{In}
use Rattle.runs.specs.Runs.{Run}
use Rattle.access_laws.specs.Recalls.{as_run, given}

abbrev Cands : Type 0
Cands = List (Option Candidate)

-- being among those given is kept by putting in order
swap_in : (z : run_candidates.Candidate) (x y : Option Candidate) (ys : Cands) → In z (given (x ∷ y ∷ ys)) → In z (given (y ∷ x ∷ ys))
swap_in z None None ys m = m
swap_in z None (Some y) ys m = m
swap_in z (Some x) None ys m = m
swap_in z (Some x) (Some y) ys (inl q) = inr (inl q)
swap_in z (Some x) (Some y) ys (inr (inl q)) = inl q
swap_in z (Some x) (Some y) ys (inr (inr q)) = inr (inr q)

under : (z : run_candidates.Candidate) (y : Option Candidate) (xs ys : Cands) → (In z (given xs) → In z (given ys)) → In z (given (y ∷ xs)) → In z (given (y ∷ ys))
under z None xs ys f m = f m
under z (Some y) xs ys f (inl q) = inl q
under z (Some y) xs ys f (inr m) = inr (f m)

put_in : (z : run_candidates.Candidate) (x : Option Candidate) (ys : Cands) → In z (given (x ∷ ys)) → In z (given (put x ys))
put_in z x [] m = m
put_in z x (y ∷ ys) m =
    cond_both (leb (position_of y) (position_of x)) (x ∷ y ∷ ys) (y ∷ put x ys) (λ l. In z (given l)) (λ _. m) (λ _. under z y (x ∷ ys) (put x ys) (put_in z x ys) (swap_in z x y ys m))

put_out : (z : run_candidates.Candidate) (x : Option Candidate) (ys : Cands) → In z (given (put x ys)) → In z (given (x ∷ ys))
put_out z x [] m = m
put_out z x (y ∷ ys) m =
    cond_both (leb (position_of y) (position_of x)) (x ∷ y ∷ ys) (y ∷ put x ys) (λ l. In z (given l) → In z (given (x ∷ y ∷ ys))) (λ _ m. m)
    (λ _ m. swap_in z y x ys (under z y (put x ys) (x ∷ ys) (put_out z x ys) m)) m

pub sorted_in : (z : run_candidates.Candidate) (xs : Cands) → In z (given xs) → In z (given (latest_first xs))
sorted_in z [] m = m
sorted_in z (x ∷ xs) m = put_in z x (latest_first xs) (under z x xs (latest_first xs) (sorted_in z xs) m)

pub sorted_out : (z : run_candidates.Candidate) (xs : Cands) → In z (given (latest_first xs)) → In z (given xs)
sorted_out z [] m = m
sorted_out z (x ∷ xs) m = under z x (latest_first xs) xs (sorted_out z xs) (put_out z x (latest_first xs) m)

-- candidates with different positions
abbrev pub PositionsDiffer : Option Candidate → Option Candidate → Type 0
PositionsDiffer = Differ (λ x. x.position)

-- candidates whose positions are those of the run
module _ (r : Run) where
  abbrev pub Good : Option Candidate → Type 0
  Good None = Unit {0}
  Good (Some x) = x.position ≡ position r (as_run x).source

  later : (x : Candidate) (xs : Cands) → x.position ≡ position r (as_run x).source → AllByRecursion Good xs → AllByRecursion (λ y. position_of y ≤ position_of (Some x)) xs → AllByRecursion (PositionsDiffer (Some x)) xs →
      (z : run_candidates.Candidate) → In z (given xs) → position r z.source < position r (as_run x).source
  later x [] g gs le ds z m = absurd m
  later x (None ∷ xs) g gs le ds z m = later x xs g gs.1 le.1 ds.1 z m
  later x (Some y ∷ xs) g gs le ds z (inl q) =
      let p : position r z.source ≡ y.position = ap (λ v. position r v.source) q ∙ sym gs.0 in
      elim (cases_eq x.position y.position) [ inl same ↦ absurd (ds.0 same) | inr differ ↦ less x.position y.position (position r z.source) (position r (as_run x).source) p g le.0 differ ]
    where
      less : (a b u v : ℕ) → u ≡ b → a ≡ v → b ≤ a → (a ≡ b → ⊥) → u < v
      less a b u v p q h n = elim (cases_lt b a) [ inl l ↦ omega arith | inr l ↦ absurd (n (omega arith)) ]
  later x (Some y ∷ xs) g gs le ds z (inr m) = later x xs g gs.1 le.1 ds.1 z m

  strict : (xs : Cands) → AllByRecursion Good xs → order.Falls xs → Pairwise PositionsDiffer xs → Falls (λ y. position r y.source) (given xs)
  strict [] g f a = tt
  strict (None ∷ xs) g f a = strict xs g.1 f.1 a.1
  strict (Some x ∷ xs) g f a = (later x xs g.0 g.1 f.0 a.0, strict xs g.1 f.1 a.1)

  pub sorted_falls : (xs : Cands) → AllByRecursion Good xs → Pairwise PositionsDiffer xs → Falls (λ y. position r y.source) (given (latest_first xs))
  sorted_falls xs g a = strict (latest_first xs) (latest_all Good xs g) (ordered xs).0 (latest_pairwise PositionsDiffer (differ_flip (λ x. x.position)) xs a)
