-- Circles of steps, one after another: each but the last carries out an instruction that is left.
use Rattle.std.proofs.Common.{◌≡◌, ℕ, zero, suc, ◌+◌, ◌-◌, ◌<◌, ◌≤◌, true, false, cond, eqb, ◌≢◌, List, [], ◌∷◌, length, get_or, take, set, Ok, Err, Result, sym, refl, ap, ◌∙◌, subst, inl, inr, arith}
use Rattle.std.specs.List.{zip, sum_by}
use Rattle.std.specs.Result.{is_ok}
use Rattle.std.proofs.lemmas.Bool.{eq-eqb, ne_eqb, cond-true, cond-false, and_parts, cases_eq}
use Rattle.std.proofs.Math.Seq.{take-nil}
use Rattle.std.proofs.lemmas.List.Sums.{sum_by-cons}
use Rattle.std.proofs.lemmas.List.{get_or-set_same, get_or-set_other, length-set}
use Rattle.cores.specs.declared.interface.Request.{Request}
use Rattle.records.specs.declared.reading.SavedPlace.{SavedPlace}
use Rattle.records.specs.declared.settings.Sizes.{Sizes}
use Rattle.records.specs.Faults.{bad_setting}
use Rattle.logs.proofs.Sessions.{few_cores}
use Rattle.records.specs.Settings.{fits, settled}
use Rattle.replayer.specs.declared.answers.Done.{Done}
use Rattle.replayer.specs.declared.answers.StepRefusal.{StepRefusal}
use Rattle.replayer.specs.declared.answers.StepRefusal.TheVariants.{NoSuchCore, Halted, NoSuchCell, Waits, Replayed, BadSetting, LogFault}
use Rattle.replayer.specs.declared.replay.Replayer.{Replayer}
use Rattle.replayer.specs.Answers.{step_numbers}
use Rattle.replayer.specs.Runs.{left_at, left_from, left, Session, session, counted, then, one, circled, around, ended, rounds, ran}
use Rattle.replayer.specs.Steps.{Outcome, advanced, stepped}
use Rattle.replayer.proofs.Ways.{any_step}

-- what is left, added up along the lists of counts and done counts
left_sum_from : (R : Replayer) (k j : ℕ) (counts done : List ℕ) → length counts ≡ length done → ((i : ℕ) → left_at R (j + i) ≡ get_or counts i 0 - get_or done i 0) →
    sum_by (λ p. p.0 - p.1) (take k (zip counts done)) ≡ left_from R k j
left_sum_from R zero j counts done e h = refl
left_sum_from R (suc k) j [] [] e h =
    let here : left_at R j ≡ 0 = ap (left_at R) (omega arith) ∙ h 0 in
    let none : sum_by {X = ℕ × ℕ} (λ p. p.0 - p.1) (take k []) ≡ 0 = ap (sum_by (λ p. p.0 - p.1)) (take-nil k) in
    omega (arith, here, none, left_sum_from R k (j + 1) [] [] refl (λ i. ap (left_at R) (omega arith) ∙ h (suc i)))
left_sum_from R (suc k) j [] (d ∷ done) e h = absurd (omega (arith, e))
left_sum_from R (suc k) j (c ∷ counts) [] e h = absurd (omega (arith, e))
left_sum_from R (suc k) j (c ∷ counts) (d ∷ done) e h =
    let here : left_at R j ≡ c - d = ap (left_at R) (omega arith) ∙ h 0 in
    omega (arith, here, sum_by-cons (λ p. p.0 - p.1) (c, d) (take k (zip counts done)), left_sum_from R k (j + 1) counts done (omega (arith, e)) (λ i. ap (left_at R) (omega arith) ∙ h (suc i)))

pub left_sum : (R : Replayer) → length R.counts ≡ length R.done → sum_by (λ p. p.0 - p.1) (take R.sizes.cores (zip R.counts R.done)) ≡ left R
unfolding left
left_sum R e = left_sum_from R R.sizes.cores 0 R.counts R.done e (λ i. ap (left_at R) (omega arith))

-- a step's answer is counted exactly where it was carried out
pub counted_step : (r : Result Done StepRefusal) → counted (step_numbers r) ≡ cond (is_ok r) 1 0
counted_step (Ok done) = refl
counted_step (Err NoSuchCore) = refl
counted_step (Err Halted) = refl
counted_step (Err NoSuchCell) = refl
counted_step (Err (Waits source)) = refl
counted_step (Err Replayed) = refl
counted_step (Err BadSetting) = refl
counted_step (Err (LogFault e)) = refl

module _ (next : List ℕ → List ℕ → Request) (after : List ℕ → List ℕ → ℕ → List ℕ) (text store : List ℕ) (P j : ℕ) (s : Session) where
  pub circled_more : j < P → (o : Outcome) → o ≡ stepped next after text s.replayer s.cells s.states store j →
      (carried : ℕ) → carried ≡ s.carried + counted o.says →
      circled next after text store (P - (j + 1)) (j + 1) (session carried o.replayer o.cells o.states) ≡ circled next after text store (P - j) j s
  unfolding circled
  circled_more h o e carried more =
      let k : P - j ≡ suc (P - (j + 1)) = omega arith in
      ap (λ n. circled next after text store (P - (j + 1)) (j + 1) (session n o.replayer o.cells o.states)) more
      ∙ ap (λ x. circled next after text store (P - (j + 1)) (j + 1) (then s x)) e
      ∙ sym (ap (λ n. circled next after text store n j s) k)

  pub circled_all : P ≤ j → circled next after text store (P - j) j s ≡ s
  unfolding circled
  circled_all h = let k : P - j ≡ 0 = omega arith in ap (λ n. circled next after text store n j s) k

settled_few : (z : Sizes) (cores cells bytes : ℕ) → settled z cores cells bytes ≡ true → z.cores ≤ 4
settled_few z cores cells bytes t = few_cores bytes z (and_parts (fits bytes z) _ t).0

-- from R to Q, n instructions were carried out
pub record Moves (R Q : Replayer) (n : ℕ) : Type 0 where
  pub fewer : left Q + n ≡ left R
  pub sizes : Q.sizes ≡ R.sizes
  pub four : length Q.done ≡ 4

moves_none : (R : Replayer) (n : ℕ) → length R.done ≡ 4 → n ≡ 0 → Moves R R n
moves_none R n four e = record { fewer = omega arith; sizes = refl; four = four }

pub moves_on : (R S Q : Replayer) (n k m : ℕ) → Moves R S n → Moves S Q k → m ≡ n + k → Moves R Q m
moves_on R S Q n k m p q e = record { fewer = omega (arith, p.fewer, q.fewer); sizes = q.sizes ∙ p.sizes; four = q.four }

-- core j has one instruction less left, and the others as many
module _ (R : Replayer) (j : ℕ) (b : SavedPlace) where
  left_other : (i : ℕ) → i ≢ j → left_at (advanced R j b) i ≡ left_at R i
  left_other i n = ap (λ d. get_or R.counts i 0 - d) (get_or-set_other R.done j i (get_or R.done j 0 + 1) 0 n)

  left_beyond : (k i : ℕ) → j < i → left_from (advanced R j b) k i ≡ left_from R k i
  left_beyond zero i h = refl
  left_beyond (suc k) i h = omega (arith, left_other i (omega arith), left_beyond k (i + 1) (omega arith))

  module _ (inside : j < length R.done) (more : get_or R.done j 0 < get_or R.counts j 0) where
    left_here : left_at (advanced R j b) j + 1 ≡ left_at R j
    left_here =
        let e : get_or (set R.done j (get_or R.done j 0 + 1)) j 0 ≡ get_or R.done j 0 + 1 = get_or-set_same R.done j (get_or R.done j 0 + 1) 0 inside in
        omega arith

    left_falls : (k i : ℕ) → i ≤ j → j < i + k → left_from (advanced R j b) k i + 1 ≡ left_from R k i
    left_falls zero i low high = absurd (omega arith)
    left_falls (suc k) i low high = elim (cases_eq i j) [
      | inl e ↦ subst (λ i. left_from (advanced R j b) (suc k) i + 1 ≡ left_from R (suc k) i) (sym e) (omega (arith, left_here, left_beyond k (j + 1) (omega arith)))
      | inr n ↦ omega (arith, left_other i n, left_falls k (i + 1) (omega (arith, n)) (omega arith))
    ]

    advanced_left : j < R.sizes.cores → left (advanced R j b) + 1 ≡ left R
    unfolding left
    advanced_left known = left_falls R.sizes.cores 0 (omega arith) (omega arith)

module _ (next : List ℕ → List ℕ → Request) (after : List ℕ → List ℕ → ℕ → List ℕ) (text store : List ℕ) where
  pub stepped_moves : (R : Replayer) (cells : List ℕ) (states : List (List ℕ)) (j : ℕ) → length R.done ≡ 4 →
      Moves R (stepped next after text R cells states store j).replayer (counted (stepped next after text R cells states store j).says)
  stepped_moves R cells states j four =
      any_step next after text R cells states store j (λ o. Moves R o.replayer (counted o.says))
      (λ says q. moves_none R (counted says) four q)
      (λ G w. record {
        fewer = advanced_left R j G.place (omega (arith, settled_few R.sizes (length states) (length cells) (length store) w.clear.ready, w.clear.known)) w.clear.more w.clear.known;
        sizes = refl;
        four = length-set R.done j (get_or R.done j 0 + 1) ∙ four;
      })

  -- a step is carried out only in a session of at most four cores
  pub step_few : (R : Replayer) (cells : List ℕ) (states : List (List ℕ)) (j : ℕ) → counted (stepped next after text R cells states store j).says ≡ 1 → R.sizes.cores ≤ 4
  step_few R cells states j =
      any_step next after text R cells states store j (λ o. counted o.says ≡ 1 → R.sizes.cores ≤ 4)
      (λ says q e. absurd (omega (arith, q, e)))
      (λ G w e. settled_few R.sizes (length states) (length cells) (length store) w.clear.ready)

  circled_moves : (R : Replayer) (k j : ℕ) (s : Session) → Moves R s.replayer s.carried →
      Moves R (circled next after text store k j s).replayer (circled next after text store k j s).carried
  unfolding circled
  circled_moves R zero j s m = m
  circled_moves R (suc k) j s m =
      circled_moves R k (j + 1) (one next after text store s j)
      (moves_on R s.replayer (one next after text store s j).replayer s.carried _ _ m (stepped_moves s.replayer s.cells s.states j m.four) refl)

  pub around_moves : (s : Session) → length s.replayer.done ≡ 4 → Moves s.replayer (around next after text store s).replayer (around next after text store s).carried
  around_moves s four =
      circled_moves s.replayer s.replayer.sizes.cores 0 (session 0 s.replayer s.cells s.states) (moves_none s.replayer 0 four refl)

  module _ (R : Replayer) (cells : List ℕ) (states : List (List ℕ)) where
    abbrev whole : Outcome
    whole = ran next after text store R cells states

    -- a run so far, from which on it comes to what the whole comes to
    pub record Running (s : Session) : Type 0 where
      pub fuel : ℕ
      pub enough : left s.replayer < fuel
      pub same : rounds next after text store fuel s ≡ ran next after text store R cells states
      pub moves : Moves R s.replayer s.carried

    pub run_unsettled : false ≡ settled R.sizes (length states) (length cells) (length store) →
        ◌≡◌ {A = Outcome} (record { says = bad_setting; replayer = R; cells = cells; states = states }) whole
    unfolding ran
    run_unsettled e = sym (cond-false _ _ _ (sym e))

    pub running_start : true ≡ settled R.sizes (length states) (length cells) (length store) → length R.done ≡ 4 → Running (session 0 R cells states)
    unfolding ran
    running_start e four =
        record { fuel = suc (left R); enough = omega arith; same = sym (cond-true _ _ _ (sym e)); moves = moves_none R 0 four refl }

    module _ (s : Session) (r : Running s) where
      pub running_over : left s.replayer ≡ 0 → ended next after text store 0 s.carried s ≡ whole
      unfolding rounds
      running_over e = go r.fuel r.enough r.same
        where
          go : (f : ℕ) → left s.replayer < f → rounds next after text store f s ≡ whole → ended next after text store 0 s.carried s ≡ whole
          go zero h q = absurd (omega arith)
          go (suc f) h q = sym (cond-true (eqb (left s.replayer) 0) _ _ (eq-eqb (left s.replayer) 0 e)) ∙ q

      module _ (on : left s.replayer ≢ 0) (t : Session) (e : t ≡ around next after text store s) where
        pub running_stop : t.carried ≡ 0 → ended next after text store 1 s.carried t ≡ whole
        unfolding rounds
        running_stop z = go r.fuel r.enough r.same
          where
            go : (f : ℕ) → left s.replayer < f → rounds next after text store f s ≡ whole → ended next after text store 1 s.carried t ≡ whole
            go zero h q = absurd (omega arith)
            go (suc f) h q =
                ap (ended next after text store 1 s.carried) e
                ∙ sym (cond-true (eqb (around next after text store s).carried 0) _ _ (eq-eqb _ 0 (sym (ap (λ x. x.carried) e) ∙ z)))
                ∙ sym (cond-false (eqb (left s.replayer) 0) _ _ (ne_eqb (left s.replayer) 0 on)) ∙ q

        pub running_more : (t.carried ≡ 0 → ⊥) → Running (session (s.carried + t.carried) t.replayer t.cells t.states)
        unfolding rounds
        running_more n = go r.fuel r.enough r.same
          where
            m : Moves s.replayer t.replayer t.carried
            m = subst (λ x. Moves s.replayer x.replayer x.carried) (sym e) (around_moves s r.moves.four)

            go : (f : ℕ) → left s.replayer < f → rounds next after text store f s ≡ whole → Running (session (s.carried + t.carried) t.replayer t.cells t.states)
            go zero h q = absurd (omega arith)
            go (suc f) h q = record {
              fuel = f;
              enough = (let p : 0 < t.carried = omega (arith, n) in omega (arith, m.fewer));
              same =
                  ap (λ x. rounds next after text store f (session (s.carried + x.carried) x.replayer x.cells x.states)) e
                  ∙ sym (cond-false (eqb (around next after text store s).carried 0) _ _ (ne_eqb _ 0 (λ z. n (ap (λ x. x.carried) e ∙ z))))
                  ∙ sym (cond-false (eqb (left s.replayer) 0) _ _ (ne_eqb (left s.replayer) 0 on)) ∙ q;
              moves = moves_on R s.replayer t.replayer s.carried t.carried _ r.moves m refl;
            }
