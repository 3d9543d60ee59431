-- A run stops exactly where something is left and no core's step is carried out: a circle that carried nothing out changed nothing.
use Rattle.std.proofs.Common.{◌≡◌, ℕ, zero, suc, ◌+◌, ◌<◌, ◌≤◌, ◌⊎◌, true, eqb, List, length, get_or, sym, refl, ap, ◌∙◌, subst, inl, inr, arith}
use Rattle.std.proofs.lemmas.Bool.{eq-eqb, ne_eqb, cond-true, cond-false, cases_eq, cases_lt}
use Rattle.cores.specs.declared.interface.Request.{Request}
use Rattle.records.specs.Settings.{settled}
use Rattle.replayer.specs.Runs.{left, Session, session, counted, one, circled, around, ended, rounds, ran, RunsStopExactly}
use Rattle.replayer.specs.Steps.{Outcome, stepped}
use Rattle.replayer.specs.declared.replay.Replayer.{Replayer}
use Rattle.replayer.proofs.Runs.{around_moves}
use Rattle.replayer.proofs.Ways.{any_step}

module _ (next : List ℕ → List ℕ → Request) (after : List ℕ → List ℕ → ℕ → List ℕ) (text store : List ℕ) where
  abbrev said : Session → ℕ → List ℕ
  said s j = (stepped next after text s.replayer s.cells s.states store j).says

  pub record Still (s : Session) (o : Outcome) : Type 0 where
    pub replayer : o.replayer ≡ s.replayer
    pub cells : o.cells ≡ s.cells
    pub states : o.states ≡ s.states

  -- a step that is not carried out changes nothing
  still : (s : Session) (j : ℕ) → counted (said s j) ≡ 0 → Still s (stepped next after text s.replayer s.cells s.states store j)
  still s j =
      any_step next after text s.replayer s.cells s.states store j (λ o. counted o.says ≡ 0 → Still s o)
      (λ says q e. record { replayer = refl; cells = refl; states = refl })
      (λ G w e. let never : ◌≡◌ {A = ℕ} 1 0 = e in absurd (omega (arith, never)))

  same_after : (s : Session) (j : ℕ) → counted (said s j) ≡ 0 → one next after text store s j ≡ s
  same_after s j e =
      let k = still s j e in
      let c : s.carried + counted (said s j) ≡ s.carried = omega (arith, e) in
      λ i. session (c i) (k.replayer i) (k.cells i) (k.states i)

  -- no step of a core that there is not
  none_beyond : (s : Session) (j : ℕ) → s.replayer.sizes.cores ≤ j → counted (said s j) ≡ 0
  none_beyond s j =
      any_step next after text s.replayer s.cells s.states store j (λ o. s.replayer.sizes.cores ≤ j → counted o.says ≡ 0)
      (λ says q h. q)
      (λ G w h. absurd (omega (arith, w.clear.known, h)))

  grows : (k j : ℕ) (s : Session) → s.carried ≤ (circled next after text store k j s).carried
  unfolding circled
  grows zero j s = omega arith
  grows (suc k) j s = let h = grows k (j + 1) (one next after text store s j) in omega (arith, h)

  abbrev Quiet : ℕ → ℕ → Session → Type 0
  Quiet k j s = (i : ℕ) → j ≤ i → i < j + k → counted (said s i) ≡ 0

  -- a circle that carried nothing out
  quiet : (k j : ℕ) (s : Session) → (circled next after text store k j s).carried ≡ s.carried → Quiet k j s × (circled next after text store k j s ≡ s)
  unfolding circled
  quiet zero j s e = ((λ i low high. absurd (omega (arith, low, high))), refl)
  quiet (suc k) j s e =
      let h = grows k (j + 1) (one next after text store s j) in
      let here : counted (said s j) ≡ 0 = omega (arith, h, e) in
      let same = same_after s j here in
      let rest = quiet k (j + 1) s (ap (λ x. (circled next after text store k (j + 1) x).carried) (sym same) ∙ e) in (
        (λ i low high. elim (cases_eq i j) [
          | inl q ↦ subst (λ x. counted (said s x) ≡ 0) (sym q) here
          | inr n ↦ rest.0 i (omega (arith, low, n)) (omega (arith, high))
        ]),
        ap (circled next after text store k (j + 1)) same ∙ rest.1,
      )

  -- where a run ends
  abbrev Ends : Outcome → Type 0
  Ends o =
      ((get_or o.says 0 0 ≡ 0) × (left o.replayer ≡ 0))
      ⊎ ((get_or o.says 0 0 ≡ 1) × (0 < left o.replayer) × ((j : ℕ) → counted (stepped next after text o.replayer o.cells o.states store j).says ≡ 0))

  stops : (s : Session) → (left s.replayer ≡ 0 → ⊥) → (around next after text store s).carried ≡ 0 → Ends (ended next after text store 1 s.carried (around next after text store s))
  stops s some none =
      let P = s.replayer.sizes.cores in
      let q = quiet P 0 (session 0 s.replayer s.cells s.states) none in
      subst (λ t. Ends (ended next after text store 1 s.carried t)) (sym q.1)
      (inr (
        refl,
        (let l : 0 < left s.replayer = omega (arith, some) in l),
        (λ j. elim (cases_lt j P) [
          | inl h ↦ q.0 j (omega arith) (omega (arith, h))
          | inr h ↦ none_beyond (session 0 s.replayer s.cells s.states) j h
        ]),
      ))

  rounds_end : (f : ℕ) (s : Session) → left s.replayer < f → length s.replayer.done ≡ 4 → Ends (rounds next after text store f s)
  unfolding rounds
  rounds_end zero s enough four = absurd (omega (arith, enough))
  rounds_end (suc f) s enough four =
      let t = around next after text store s in
      elim (cases_eq (left s.replayer) 0) [
        | inl q ↦ subst Ends (sym (cond-true (eqb (left s.replayer) 0) _ _ (eq-eqb (left s.replayer) 0 q))) (inl (refl, q))
        | inr some ↦ subst Ends (sym (cond-false (eqb (left s.replayer) 0) _ _ (ne_eqb (left s.replayer) 0 some)))
            (elim (cases_eq t.carried 0) [
              | inl q ↦ subst Ends (sym (cond-true (eqb t.carried 0) _ _ (eq-eqb t.carried 0 q))) (stops s some q)
              | inr more ↦
                  let m = around_moves next after text store s four in
                  subst Ends (sym (cond-false (eqb t.carried 0) _ _ (ne_eqb t.carried 0 more)))
                  (rounds_end f (session (s.carried + t.carried) t.replayer t.cells t.states) (let moved : 0 < t.carried = omega (arith, more) in omega (arith, enough, m.fewer, moved)) m.four)
            ])
      ]

  run_ends : (R : Replayer) (cells : List ℕ) (states : List (List ℕ)) → length R.done ≡ 4 → settled R.sizes (length states) (length cells) (length store) ≡ true → Ends (ran next after text store R cells states)
  unfolding ran
  run_ends R cells states four ready =
      subst Ends (sym (cond-true (settled R.sizes (length states) (length cells) (length store)) _ _ ready)) (rounds_end (suc (left R)) (session 0 R cells states) (omega arith) four)

  both_ways_out : (o : Outcome) → Ends o →
      ((get_or o.says 0 0 ≡ 1 → (0 < left o.replayer) × ((j : ℕ) → counted (stepped next after text o.replayer o.cells o.states store j).says ≡ 0))
      × ((0 < left o.replayer) × ((j : ℕ) → counted (stepped next after text o.replayer o.cells o.states store j).says ≡ 0) → get_or o.says 0 0 ≡ 1))
      × ((get_or o.says 0 0 ≡ 0 → left o.replayer ≡ 0) × (left o.replayer ≡ 0 → get_or o.says 0 0 ≡ 0))
  both_ways_out o (inl (says, none)) = (((λ q. absurd (omega (arith, q, says))), (λ h. absurd (omega (arith, h.0, none)))), ((λ q. none), (λ q. says)))
  both_ways_out o (inr (says, some, still)) = (((λ q. (some, still)), (λ h. says)), ((λ q. absurd (omega (arith, q, says))), (λ q. absurd (omega (arith, q, some)))))

pub runs_stop_exactly : RunsStopExactly
runs_stop_exactly next after text store R cells states four ready =
    both_ways_out next after text store (ran next after text store R cells states) (run_ends next after text store R cells states four ready)
