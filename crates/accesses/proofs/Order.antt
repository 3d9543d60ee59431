-- Candidates put in order: each is at least as late as those behind it, none is lost or added, and what holds of each or of each two still holds.
use Rattle.std.proofs.Common.{◌≡◌, ℕ, ◌<◌, ◌≤◌, leb, List, [], ◌∷◌, Some, None, Option, sym, refl, arith}
use Rattle.std.specs.List.{AllByRecursion}
use Rattle.std.specs.List.Sorted.{IsPermutation}
use Rattle.std.proofs.lemmas.Bool.{cond_both, leb-true, leb-false}
use Rattle.std.proofs.lemmas.List.Sorted.{IsPermutation-refl, IsPermutation-cons, IsPermutation-swap, IsPermutation-trans}
use Rattle.accesses.specs.declared.access.Candidate.{Candidate}
use Rattle.accesses.specs.Histories.{position_of, put, latest_first}
use Rattle.accesses.specs.Laws.{Falls, LatestFirst}

abbrev Cands : Type 0
Cands = List (Option Candidate)

all_map : (P Q : Option Candidate → Type 0) → ((y : Option Candidate) → P y → Q y) → (ys : Cands) → AllByRecursion P ys → AllByRecursion Q ys
all_map P Q f [] h = h
all_map P Q f (y ∷ ys) h = (f y h.0, all_map P Q f ys h.1)

put_all : (P : Option Candidate → Type 0) (x : Option Candidate) (ys : Cands) → P x → AllByRecursion P ys → AllByRecursion P (put x ys)
put_all P x [] hx h = (hx, tt)
put_all P x (y ∷ ys) hx h =
    cond_both (leb (position_of y) (position_of x)) (x ∷ (y ∷ ys)) (y ∷ put x ys) (AllByRecursion P) (λ _. (hx, h)) (λ _. (h.0, put_all P x ys hx h.1))

pub latest_all : (P : Option Candidate → Type 0) (xs : Cands) → AllByRecursion P xs → AllByRecursion P (latest_first xs)
latest_all P [] h = h
latest_all P (x ∷ xs) h = put_all P x (latest_first xs) h.0 (latest_all P xs h.1)

-- each two related, by a relation that holds of two either way round
module _ (R : Option Candidate → Option Candidate → Type 0) where
  abbrev pub Pairwise : Cands → Type 0
  Pairwise [] = Unit {0}
  Pairwise (x ∷ xs) = AllByRecursion (R x) xs × Pairwise xs

  module _ (flip : (x y : Option Candidate) → R x y → R y x) where
    put_pairwise : (x : Option Candidate) (ys : Cands) → AllByRecursion (R x) ys → Pairwise ys → Pairwise (put x ys)
    put_pairwise x [] h p = (tt, tt)
    put_pairwise x (y ∷ ys) h p =
        cond_both (leb (position_of y) (position_of x)) (x ∷ y ∷ ys) (y ∷ put x ys) Pairwise
        (λ _. (h, p)) (λ _. (put_all (R y) x ys (flip x y h.0) p.0, put_pairwise x ys h.1 p.1))

    pub latest_pairwise : (xs : Cands) → Pairwise xs → Pairwise (latest_first xs)
    latest_pairwise [] p = p
    latest_pairwise (x ∷ xs) p = put_pairwise x (latest_first xs) (latest_all (R x) xs p.0) (latest_pairwise xs p.1)

-- two candidates, if both are there, whose numbers differ
abbrev pub Differ : (Candidate → ℕ) → Option Candidate → Option Candidate → Type 0
Differ f None o = Unit {0}
Differ f (Some x) None = Unit {0}
Differ f (Some x) (Some y) = f x ≡ f y → ⊥

pub differ_flip : (f : Candidate → ℕ) (x y : Option Candidate) → Differ f x y → Differ f y x
differ_flip f None None d = tt
differ_flip f None (Some y) d = tt
differ_flip f (Some x) None d = tt
differ_flip f (Some x) (Some y) d = λ q. d (sym q)

put_falls : (x : Option Candidate) (ys : Cands) → Falls ys → Falls (put x ys)
put_falls x [] h = (tt, tt)
put_falls x (y ∷ ys) h =
    cond_both (leb (position_of y) (position_of x)) (x ∷ (y ∷ ys)) (y ∷ put x ys) Falls
    (λ e. let l : position_of y ≤ position_of x = leb-true _ _ e in
    ((l, all_map (λ z. position_of z ≤ position_of y) (λ z. position_of z ≤ position_of x) (λ z p. omega arith) ys h.0), h))
    (λ e. let l : position_of x < position_of y = leb-false _ _ e in
    (put_all (λ z. position_of z ≤ position_of y) x ys (omega arith) h.0, put_falls x ys h.1))

put_shuffled : (x : Option Candidate) (ys : Cands) → IsPermutation (x ∷ ys) (put x ys)
put_shuffled x [] = IsPermutation-refl (x ∷ [])
put_shuffled x (y ∷ ys) =
    cond_both (leb (position_of y) (position_of x)) (x ∷ (y ∷ ys)) (y ∷ put x ys) (IsPermutation (x ∷ (y ∷ ys)))
    (λ _. IsPermutation-refl (x ∷ (y ∷ ys)))
    (λ _. IsPermutation-trans _ _ _ (IsPermutation-swap (x ∷ (y ∷ ys)) (y ∷ (x ∷ ys)) 0 1 (omega arith) (omega arith) refl) (IsPermutation-cons y (x ∷ ys) (put x ys) (put_shuffled x ys)))

pub ordered : LatestFirst
ordered [] = (tt, IsPermutation-refl [])
ordered (x ∷ xs) =
    let h = ordered xs in
    (put_falls x (latest_first xs) h.0, IsPermutation-trans _ _ _ (IsPermutation-cons x xs (latest_first xs) h.1) (put_shuffled x (latest_first xs)))
