-- There is at most one candidate from each other core of a session.
use Rattle.std.proofs.Common.{◌≡◌, ℕ, zero, suc, ◌+◌, ◌-◌, ◌<◌, ◌≤◌, Bool, true, false, cond, ◌&&◌, eqb, ltb, leb, List, [], ◌∷◌, get_or, Some, None, Option, refl, ap, ◌∙◌, arith}
use Rattle.std.proofs.lemmas.Bool.{cond_both, eqb-false, ltb-true}
use Rattle.reducers.specs.declared.interface.AccessKind.{AccessKind}
use Rattle.reducers.specs.declared.interface.AccessKind.TheVariants.{Read, Write}
use Rattle.accesses.specs.declared.access.Candidate.{Candidate}
use Rattle.accesses.specs.declared.access.Access.{Access}
use Rattle.accesses.specs.declared.history.CellHistory.{CellHistory}
use Rattle.accesses.specs.Histories.{one, present, put, latest_first, position_of, from_core, write_if, other, candidates_of, candidates_at, no_cell, candidate, read_or}

pub one_le : (o : Option Candidate) → one o ≤ 1
one_le None = omega arith
one_le (Some x) = omega arith

put_present : (x : Option Candidate) (ys : List (Option Candidate)) → present (put x ys) ≡ one x + present ys
put_present x [] = refl
put_present x (y ∷ ys) =
    cond_both (leb (position_of y) (position_of x)) (x ∷ (y ∷ ys)) (y ∷ put x ys) (λ zs. present zs ≡ one x + (one y + present ys))
    (λ _. refl) (λ _. omega (arith, put_present x ys))

sorted_present : (xs : List (Option Candidate)) → present (latest_first xs) ≡ present xs
sorted_present [] = refl
sorted_present (x ∷ xs) = put_present x (latest_first xs) ∙ ap (λ n. one x + n) (sorted_present xs)

from_few : (P : ℕ) (h : CellHistory) (i : ℕ) → one (from_core P h i) ≤ cond (leb P i) 0 1
from_few P h i = go (leb P i) (read_or (get_or h.reads i None) (write_if (λ k. eqb k i) h.last_write))
  where
    go : (v : Bool) (o : Option Candidate) → one (cond v None o) ≤ cond v 0 1
    go true o = omega arith
    go false o = one_le o

others_few : (P j : ℕ) → P ≤ 4 → j < P → cond (leb P (other j 0)) 0 1 + (cond (leb P (other j 1)) 0 1 + cond (leb P (other j 2)) 0 1) ≤ P - 1
others_few zero j p q = absurd (omega arith)
others_few (suc zero) zero p q = omega arith
others_few (suc zero) (suc j) p q = absurd (omega arith)
others_few (suc (suc zero)) zero p q = omega arith
others_few (suc (suc zero)) (suc zero) p q = omega arith
others_few (suc (suc zero)) (suc (suc j)) p q = absurd (omega arith)
others_few (suc (suc (suc zero))) zero p q = omega arith
others_few (suc (suc (suc zero))) (suc zero) p q = omega arith
others_few (suc (suc (suc zero))) (suc (suc zero)) p q = omega arith
others_few (suc (suc (suc zero))) (suc (suc (suc j))) p q = absurd (omega arith)
others_few (suc (suc (suc (suc zero)))) zero p q = omega arith
others_few (suc (suc (suc (suc zero)))) (suc zero) p q = omega arith
others_few (suc (suc (suc (suc zero)))) (suc (suc zero)) p q = omega arith
others_few (suc (suc (suc (suc zero)))) (suc (suc (suc zero))) p q = omega arith
others_few (suc (suc (suc (suc zero)))) (suc (suc (suc (suc j)))) p q = absurd (omega arith)
others_few (suc (suc (suc (suc (suc P))))) j p q = absurd (omega arith)

write_few : (P j : ℕ) (o : Option Access) → j < P → one (write_if (λ k. cond (eqb k j) false (ltb k P)) o) ≤ P - 1
write_few P j None q = omega arith
write_few P j (Some a) q =
    cond_both (cond (eqb a.core j) false (ltb a.core P)) (Some (candidate a Write)) None (λ o. one o ≤ P - 1)
    (λ e. two (eqb a.core j) refl e) (λ _. omega arith)
  where
    two : (v : Bool) → eqb a.core j ≡ v → cond v false (ltb a.core P) ≡ true → 1 ≤ P - 1
    two true d e = absurd (grind arith)
    two false d e = let x = eqb-false a.core j d in let y = ltb-true a.core P e in two_le a.core x y
      where
        two_le : (k : ℕ) → (k ≡ j → ⊥) → k < P → 1 ≤ P - 1
        two_le k x y = omega (arith, q)

of_few : (P : ℕ) (h : CellHistory) (j : ℕ) (w : AccessKind) → P ≤ 4 → j < P → present (candidates_of P h j w) ≤ P - 1
of_few P h j Read p q = omega (arith, write_few P j h.last_write q)
of_few P h j Write p q =
    let xs = from_core P h (other j 0) ∷ (from_core P h (other j 1) ∷ (from_core P h (other j 2) ∷ [])) in
    omega (arith, sorted_present xs, from_few P h (other j 0), from_few P h (other j 1), from_few P h (other j 2), others_few P j p q)

pub candidates_few : (P : ℕ) (cells : List CellHistory) (c j : ℕ) (w : AccessKind) → P ≤ 4 → j < P → present (candidates_at P cells c j w) ≤ P - 1
candidates_few P cells c j w p q =
    cond_both (ltb j 4 && ltb c 256) (candidates_of P (get_or cells c no_cell) j w) (None ∷ (None ∷ (None ∷ []))) (λ xs. present xs ≤ P - 1)
    (λ _. of_few P (get_or cells c no_cell) j w p q) (λ _. omega arith)
