-- The recorded run with only the instructions done carried out: each core stands behind its last one, each cell holds the latest store.
use Rattle.std.proofs.Common.{◌≡◌, ℕ, zero, suc, ◌<◌, ◌≤◌, false, ◌&&◌, eqb, leb, List, [], ◌∷◌, length, get_or, Some, sym, refl, ap, ◌∙◌, subst, inl, inr, arith}
use Rattle.std.proofs.lemmas.List.{get_or-set_same, get_or-set_other}
use Rattle.std.proofs.lemmas.Bool.{and_parts, and_from, cond-true, cond-false, eq-eqb, eqb-true, le-leb, lt-leb, cases_eq, cases_Bool}
use Rattle.cores.proofs.LatestStore.{after_one}
use Rattle.cores.specs.Latest.{Latest}
use Rattle.cores.specs.Memory.{Accepted, Memory, Outcome, Rules, effect, outcome, outcomes, plain, instruction}
use Rattle.runs.proofs.Image.{counts_own, counts_other, image, cut, cnt_own, cnt_other, shape_image, below}
use Rattle.runs.proofs.PlainTurns.{done_by}
use Rattle.runs.specs.Replay.{StandsBehind, done_of, ReplayState}

-- an instruction more that is another one
stands_more : (first : List (List ℕ)) (e : Outcome) (es : List Outcome) (j b : ℕ) (s : List ℕ) → (e.core ≡ j → e.count ≡ b → ⊥) → StandsBehind first es j b s → StandsBehind first (e ∷ es) j b s
stands_more first e es j zero s other h = h
stands_more first e es j (suc b) s other (w, found, left) =
    let no : (eqb e.core j && eqb e.count (suc b)) ≡ false =
    elim (cases_Bool (eqb e.core j && eqb e.count (suc b))) [
      | inl both ↦ let p = and_parts (eqb e.core j) (eqb e.count (suc b)) both in absurd (other (eqb-true e.core j p.0) (eqb-true e.count (suc b) p.1))
      | inr q ↦ q
    ] in
    (w, cond-false (eqb e.core j && eqb e.count (suc b)) (Some e) (instruction es j (suc b)) no ∙ found, left)

module _ (K : Rules) (m : Memory) (paired : length m.counts ≡ length m.states) where
  abbrev ev : ℕ → List ℕ → Outcome
  ev j t = outcome K (plain K m t) j

  abbrev cnt : List ℕ → ℕ → ℕ
  cnt t j = done_by K m t j

  -- no more are carried out than there are
  image_counts : (d : ℕ → ℕ) (u : List ℕ) → Accepted K m u → (j : ℕ) → get_or (image K m paired d u).counts j 0 ≤ cnt u j
  unfolding image
  image_counts d [] a j = omega arith
  image_counts d (k ∷ t) a j =
      let h = image_counts d t a.1 j in
      let own = cnt_own K m paired k t a in
      elim (cases_eq j k) [
        | inl e ↦
            let own' : cnt (k ∷ t) j ≡ suc (cnt t j) = subst (λ x. cnt (k ∷ t) x ≡ suc (cnt t x)) (sym e) own in
            elim (cut K m paired d k t) [
              | inl p ↦
                  let s = (shape_image K m paired d t).counts_same in
                  let b = below K m paired k t a in
                  let here : get_or (effect (ev k t) (image K m paired d t)).counts k 0 ≡ suc (cnt t k) = counts_own K (image K m paired d t) (plain K m t) k (omega (arith, s, b)) in
                  let there : get_or (image K m paired d (k ∷ t)).counts k 0 ≡ suc (cnt t k) = ap (λ x. get_or x.counts k 0) p.1 ∙ here in
                  let moved : get_or (image K m paired d (k ∷ t)).counts j 0 ≡ suc (cnt t j) = subst (λ x. get_or (image K m paired d (k ∷ t)).counts x 0 ≡ suc (cnt t x)) (sym e) there in
                  omega (arith, moved, own')
              | inr p ↦ let q = ap (λ (x : Memory). get_or x.counts j 0) p.1 in omega (arith, h, q, own')
            ]
        | inr n ↦
            let other = cnt_other K m paired k j t n in
            elim (cut K m paired d k t) [
              | inl p ↦
                  let there : get_or (image K m paired d (k ∷ t)).counts j 0 ≡ get_or (image K m paired d t).counts j 0 =
                  ap (λ (x : Memory). get_or x.counts j 0) p.1 ∙ counts_other K (image K m paired d t) (plain K m t) k j n in
                  omega (arith, there, h, other)
              | inr p ↦ let q = ap (λ (x : Memory). get_or x.counts j 0) p.1 in omega (arith, h, q, other)
            ]
      ]

  stands : (d : ℕ → ℕ) (u : List ℕ) → Accepted K m u → (j : ℕ) → j < length m.states → d j ≤ cnt u j → get_or m.counts j 0 ≡ 0 →
      StandsBehind m.states (outcomes K m u) j (d j) (get_or (image K m paired d u).states j [])
  unfolding image outcome effect
  stands d [] a j h few fresh =
      let none : 0 ≡ d j = omega (arith, few, fresh) in
      subst (λ b. StandsBehind m.states [] j b (get_or m.states j [])) none refl
  stands d (k ∷ t) a j h few fresh =
      let e = ev k t in
      let es = outcomes K m t in
      let x = image K m paired d t in
      elim (cases_eq j k) [
        | inl q ↦
            let own : cnt (k ∷ t) j ≡ suc (cnt t j) = subst (λ i. cnt (k ∷ t) i ≡ suc (cnt t i)) (sym q) (cnt_own K m paired k t a) in
            elim (cut K m paired d k t) [
              | inl p ↦
                  let enough : suc (cnt t j) ≤ d j = subst (λ i. suc (cnt t i) ≤ d i) (sym q) p.0 in
                  let now : suc (cnt t j) ≡ d j = omega (arith, enough, few, own) in
                  let size = (shape_image K m paired d t).states_same in
                  let inside : j < length x.states = omega (arith, h, size) in
                  let core : e.core ≡ j = sym q in
                  let count : e.count ≡ suc (cnt t j) = ap (λ i. suc (cnt t i)) (sym q) in
                  let there : instruction (e ∷ es) j (suc (cnt t j)) ≡ Some e =
                  cond-true (eqb e.core j && eqb e.count (suc (cnt t j))) (Some e) (instruction es j (suc (cnt t j))) (and_from (eqb e.core j) (eqb e.count (suc (cnt t j))) (eq-eqb e.core j core) (eq-eqb e.count (suc (cnt t j)) count)) in
                  let left : get_or (effect e x).states j [] ≡ e.state = subst (λ i. get_or (effect e x).states i [] ≡ e.state) core (get_or-set_same x.states e.core e.state [] (subst (λ i. i < length x.states) q inside)) in
                  subst (λ b. StandsBehind m.states (e ∷ es) j b (get_or (image K m paired d (k ∷ t)).states j [])) now
                  (e, there, ap (λ (y : Memory). get_or y.states j []) p.1 ∙ left)
              | inr p ↦
                  let less : d j ≤ cnt t j = subst (λ i. d i ≤ cnt t i) (sym q) p.0 in
                  let count : e.count ≡ suc (cnt t j) = ap (λ i. suc (cnt t i)) (sym q) in
                  subst (λ s. StandsBehind m.states (e ∷ es) j (d j) s) (sym (ap (λ (y : Memory). get_or y.states j []) p.1))
                  (stands_more m.states e es j (d j) _ (λ c n. omega (arith, n, less, count)) (stands d t a.1 j h less fresh))
            ]
        | inr n ↦
            let other = cnt_other K m paired k j t n in
            let rest = stands_more m.states e es j (d j) _ (λ c z. n (sym c)) (stands d t a.1 j h (omega (arith, few, other)) fresh) in
            elim (cut K m paired d k t) [
              | inl p ↦
                  let same : get_or (image K m paired d (k ∷ t)).states j [] ≡ get_or x.states j [] =
                  ap (λ (y : Memory). get_or y.states j []) p.1 ∙ get_or-set_other x.states k j e.state [] n in
                  subst (λ s. StandsBehind m.states (e ∷ es) j (d j) s) (sym same) rest
              | inr p ↦ subst (λ s. StandsBehind m.states (e ∷ es) j (d j) s) (sym (ap (λ (y : Memory). get_or y.states j []) p.1)) rest
            ]
      ]

  holds : (d : List ℕ) (u : List ℕ) → (c : ℕ) → c < length m.cells → Latest m.cells (done_of d (outcomes K m u)) c (get_or (image K m paired (λ k. get_or d k 0) u).cells c 0)
  unfolding image outcome effect
  holds d [] c h = inl (tt, refl)
  holds d (k ∷ t) c h =
      let e = ev k t in
      let es = done_of d (outcomes K m t) in
      let x = image K m paired (λ i. get_or d i 0) t in
      elim (cut K m paired (λ i. get_or d i 0) k t) [
        | inl p ↦
            let kept : done_of d (e ∷ outcomes K m t) ≡ e ∷ es = cond-true (leb e.count (get_or d e.core 0)) (e ∷ es) es (le-leb e.count (get_or d e.core 0) p.0) in
            let size = (shape_image K m paired (λ i. get_or d i 0) t).cells_same in
            let next = after_one m.cells x.cells e es c (omega (arith, h, size)) (holds d t c h) e.request refl in
            subst (λ y. Latest m.cells (done_of d (e ∷ outcomes K m t)) c (get_or y.cells c 0)) (sym p.1) (subst (λ l. Latest m.cells l c (get_or (effect e x).cells c 0)) (sym kept) next)
        | inr p ↦
            let gone : done_of d (e ∷ outcomes K m t) ≡ es = cond-false (leb e.count (get_or d e.core 0)) (e ∷ es) es (lt-leb e.count (get_or d e.core 0) (omega (arith, p.0))) in
            subst (λ y. Latest m.cells (done_of d (e ∷ outcomes K m t)) c (get_or y.cells c 0)) (sym p.1) (subst (λ l. Latest m.cells l c (get_or x.cells c 0)) (sym gone) (holds d t c h))
      ]

  -- a memory that is such an image
  pub leaves : (u : List ℕ) → Accepted K m u → ((k : ℕ) → get_or m.counts k 0 ≡ 0) → (x : Memory) → x ≡ image K m paired (λ k. get_or x.counts k 0) u →
      ReplayState K m u x.counts x.cells x.states
  leaves u a fresh x is = record {
    cores_stand = λ j h.
        let few : get_or x.counts j 0 ≤ cnt u j = let q = ap (λ (y : Memory). get_or y.counts j 0) is in let b = image_counts (λ k. get_or x.counts k 0) u a j in omega (arith, q, b) in
        subst (λ (y : Memory). StandsBehind m.states (outcomes K m u) j (get_or x.counts j 0) (get_or y.states j [])) (sym is) (stands (λ k. get_or x.counts k 0) u a j h few (fresh j));
    cells_hold = λ c h. subst (λ (y : Memory). Latest m.cells (done_of x.counts (outcomes K m u)) c (get_or y.cells c 0)) (sym is) (holds x.counts u c h);
  }
