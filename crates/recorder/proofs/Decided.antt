-- Where a reducer's bounds leave it one choice, its numbers and so the turn are what that choice gives.
use Rattle.std.proofs.Common.{◌≡◌, ℕ, Bool, true, false, cond, ◌&&◌, eqb, List, ◌∷◌, Some, None, MatchBool, Option, sym, refl, ap, ◌∙◌, inl, inr}
use Rattle.std.proofs.lemmas.Bool.{cond-false, ne_eqb, cases_eq}
use Rattle.accesses.specs.declared.access.Candidate.{Candidate}
use Rattle.accesses.specs.declared.history.CellHistory.{CellHistory}
use Rattle.cores.specs.Memory.{Rules}
use Rattle.reducers.specs.Calls.{Call, takes, notes, Does}
use Rattle.reducers.specs.Numbers.{Numbers, Meets, core?, cell?, taken, noted}
use Rattle.reducers.specs.Decided.{Decides}
use Rattle.recorder.specs.Decided.{called_by, judged_by, trail_by, trail_for, noted_for, turned_by, OneOutcome}
use Rattle.recorder.specs.Judged.{known?, take_of, Steps, Judged, none, then, last_of}
use Rattle.recorder.specs.Refusals.{touched}
use Rattle.recorder.specs.Turns.{candidates_for, Within, World, asks, refusal, turned}
use Rattle.recorder.specs.declared.rules.Touch.{Touch}

module _ (meets : Meets) (F : Numbers → Numbers) (one : Decides meets F) where
  bound_is : (v : Bool) (n m b : Numbers) → MatchBool v (meets m b) (m ≡ n) → m ≡ cond v (F b) n
  bound_is true n m b h = one m b h
  bound_is false n m b h = h

  call_is : (n m : Numbers) (call : Call) → Does meets n call m → m ≡ called_by F n call
  call_is n m (takes i a c w j) h = bound_is (core? i && (core? j && cell? c)) n m (taken n i a c w j) h
  call_is n m (notes j c w) h = bound_is (core? j && cell? c) n m (noted n j c w) h

  known_is : (v : Bool) (n m k : Numbers) (T : Type 0) → (T → m ≡ k) → MatchBool v (m ≡ n) T → m ≡ cond v n k
  known_is true n m k T f h = h
  known_is false n m k T f h = f h

  step_is : (c j : ℕ) (n m : Numbers) (x : Option Candidate) → Steps meets c j n x m → m ≡ judged_by F c j n x
  step_is c j n m None s = s
  step_is c j n m (Some x) s =
      known_is (known? j n x) n m (called_by F n (take_of c j x)) (Does meets n (take_of c j x) m) (call_is n m (take_of c j x)) s

  trail_is : {c j : ℕ} {n : Numbers} {xs : List (Option Candidate)} {ms : List Numbers} → Judged meets c j n xs ms → ms ≡ trail_by F c j n xs
  trail_is none = refl
  trail_is {c} {j} {n} (then {m = m} {x = x} {xs = xs} {ms = ms} s l) =
      let e = step_is c j n m x s in
      (λ i. e i ∷ ms) ∙ ap (λ zs. judged_by F c j n x ∷ zs) (trail_is l ∙ ap (λ k. trail_by F c j k xs) e)

  both_are : (P : ℕ) (history : List CellHistory) (j : ℕ) (touch : Option Touch) (n : Numbers) (ms : List Numbers) (m : Numbers) → Within meets P history j touch n ms m →
      let trail = trail_for F j touch n (candidates_for P history j touch) in (ms ≡ trail) × (m ≡ noted_for F j touch (last_of n trail))
  both_are P history j None n ms m h = h
  both_are P history j (Some t) n ms m h =
      let e = trail_is h.0 in
      (e, call_is (last_of n ms) m (notes j t.cell t.kind) h.1 ∙ ap (λ zs. noted_for F j (Some t) (last_of n zs)) e)

-- a refused turn is the same whatever numbers are given
same_refused : (K : Rules) (j : ℕ) (w : World) (ms ns : List Numbers) (m n : Numbers) → (refusal K j w ≡ 0 → ⊥) → turned K j w ms m ≡ turned K j w ns n
unfolding turned
same_refused K j w ms ns m n never =
    let e = ne_eqb (refusal K j w) 0 never in
    cond-false (eqb (refusal K j w) 0) _ _ e ∙ sym (cond-false (eqb (refusal K j w) 0) _ _ e)

pub one_outcome : (meets : Meets) → OneOutcome meets
unfolding turned_by
one_outcome meets F one K j w o f =
    f.same ∙ elim (cases_eq (refusal K j w) 0) [
      | inl e ↦
          let h = both_are meets F one w.tape.book.sizes.cores w.tape.history j (touched (asks K j w)) w.tape.numbers f.trail f.last (f.within e) in
          (λ i. turned K j w (h.0 i) (h.1 i))
      | inr never ↦ same_refused K j w _ _ _ _ never
    ]
