-- What a run carried out has each instruction once, so that its core and count find it.
use Rattle.std.proofs.Common.{◌≡◌, ℕ, suc, ◌<◌, ◌≤◌, true, false, ◌&&◌, eqb, ltb, List, [], ◌∷◌, length, get_or, set, Some, sym, ap, ◌∙◌, inl, inr, arith}
use Rattle.std.proofs.lemmas.List.{get_or-set_same, get_or-set_other, length-replicate}
use Rattle.std.proofs.lemmas.Bool.{and_parts, and_from, cond-true, cond-false, eq-eqb, eqb-true, ltb-true, cases_eq, cases_Bool}
use Rattle.cores.proofs.Storing.{states_size, counts_size}
use Rattle.cores.specs.Memory.{Rules, Memory, Outcome, outcome, effect, plain, start, accepts, able, Accepted, outcomes, instruction}
use Rattle.runs.specs.Recording.{In}

module _ (K : Rules) (cells : List ℕ) (states : List (List ℕ)) where
  abbrev m : Memory
  m = start cells states

  -- an accepted turn is of a core that has a count
  has_count : (t : List ℕ) (j : ℕ) → accepts K (plain K m t) j ≡ true → j < length (plain K m t).counts
  has_count t j ok =
      let h = ltb-true j (length (plain K m t).states) (and_parts (ltb j (length (plain K m t).states)) (able (K.next (get_or (plain K m t).states j [])) (length (plain K m t).cells)) ok).0 in
      omega (arith, h, counts_size K m t, states_size K m t, length-replicate {A = ℕ} (length states) 0)

  -- what was carried out is counted
  within_counts : (u : List ℕ) → Accepted K m u → (e : Outcome) → In e (outcomes K m u) → e.count ≤ get_or (plain K m u).counts e.core 0
  unfolding outcome effect
  within_counts [] ok e i = absurd i
  within_counts (j ∷ t) ok e (inl q) =
      let c = (plain K m t).counts in
      let same : get_or (set c j (suc (get_or c j 0))) j 0 ≡ suc (get_or c j 0) = get_or-set_same c j (suc (get_or c j 0)) 0 (has_count t j ok.0) in
      let core : get_or (set c j (suc (get_or c j 0))) e.core 0 ≡ get_or (set c j (suc (get_or c j 0))) j 0 = ap (λ (x : Outcome). get_or (set c j (suc (get_or c j 0))) x.core 0) q in
      let count : e.count ≡ suc (get_or c j 0) = ap (λ (x : Outcome). x.count) q in
      omega (arith, same, core, count)
  within_counts (j ∷ t) ok e (inr i) =
      let c = (plain K m t).counts in
      let h = within_counts t ok.1 e i in
      elim (cases_eq e.core j) [
        | inl q ↦
            let same : get_or (set c j (suc (get_or c j 0))) j 0 ≡ suc (get_or c j 0) = get_or-set_same c j (suc (get_or c j 0)) 0 (has_count t j ok.0) in
            let now : get_or (set c j (suc (get_or c j 0))) e.core 0 ≡ get_or (set c j (suc (get_or c j 0))) j 0 = ap (λ k. get_or (set c j (suc (get_or c j 0))) k 0) q in
            let was : get_or c e.core 0 ≡ get_or c j 0 = ap (λ k. get_or c k 0) q in
            omega (arith, h, same, now, was)
        | inr q ↦ let same = get_or-set_other c j e.core (suc (get_or c j 0)) 0 q in omega (arith, h, same)
      ]

  pub found : (u : List ℕ) → Accepted K m u → (e : Outcome) → In e (outcomes K m u) → instruction (outcomes K m u) e.core e.count ≡ Some e
  unfolding outcome
  found [] ok e i = absurd i
  found (j ∷ t) ok e (inl q) =
      let x = outcome K (plain K m t) j in
      let core = eq-eqb x.core e.core (ap (λ (y : Outcome). y.core) (sym q)) in
      let count = eq-eqb x.count e.count (ap (λ (y : Outcome). y.count) (sym q)) in
      cond-true (eqb x.core e.core && eqb x.count e.count) (Some x) (instruction (outcomes K m t) e.core e.count) (and_from (eqb x.core e.core) (eqb x.count e.count) core count)
      ∙ ap Some (sym q)
  found (j ∷ t) ok e (inr i) =
      let x = outcome K (plain K m t) j in
      let other : (eqb x.core e.core && eqb x.count e.count) ≡ false =
      elim (cases_Bool (eqb x.core e.core && eqb x.count e.count)) [
        | inl both ↦
            let p = and_parts (eqb x.core e.core) (eqb x.count e.count) both in
            let core = eqb-true x.core e.core p.0 in
            let count = eqb-true x.count e.count p.1 in
            let h = within_counts t ok.1 e i in
            let same : get_or (plain K m t).counts e.core 0 ≡ get_or (plain K m t).counts j 0 = ap (λ k. get_or (plain K m t).counts k 0) (sym core) in
            absurd (omega (arith, h, same, count))
        | inr no-match ↦ no-match
      ] in
      cond-false (eqb x.core e.core && eqb x.count e.count) (Some x) (instruction (outcomes K m t) e.core e.count) other ∙ found t ok.1 e i
