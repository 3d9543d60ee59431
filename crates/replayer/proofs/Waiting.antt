-- A core that is known to wait for a source waits on while other cores are stepped, as long as that source is not done.
use Rattle.std.proofs.Common.{◌≡◌, ◌≢◌, ℕ, ◌+◌, ◌≤◌, Bool, true, false, cond, ◌&&◌, ltb, leb, List, [], ◌∷◌, length, get_or, set, Some, None, Ok, Err, Option, Result, sym, refl, ap, ◌∙◌, subst, inl, inr, arith}
use Rattle.std.proofs.lemmas.Bool.{cond-true, cond-false, le-leb, leb-true, cases_eq, cases_lt}
use Rattle.std.proofs.lemmas.List.{get_or-set_same, get_or-set_other, set_past, get_or_past}
use Rattle.cores.specs.declared.interface.Request.{Request}
use Rattle.cores.specs.Memory.{able}
use Rattle.cores.specs.Acting.{within}
use Rattle.logs.proofs.Rules.{all_alike}
use Rattle.records.specs.declared.format.Source.{Source}
use Rattle.records.specs.declared.reading.SavedPlace.{SavedPlace}
use Rattle.records.specs.declared.settings.Sizes.{Sizes}
use Rattle.records.specs.Faults.{Fault, bad_setting}
use Rattle.records.specs.Format.{LogArc}
use Rattle.records.specs.Settings.{fits, settled, log_of, heading_of}
use Rattle.replayer.specs.declared.replay.Replayer.{Replayer}
use Rattle.replayer.specs.Answers.{wait_numbers}
use Rattle.replayer.specs.Groups.{Grouped, group_at, is_done, source_of, waits_for, held_up, read_group}
use Rattle.replayer.specs.Runs.{Awaits, AllAwait}
use Rattle.replayer.specs.Steps.{Outcome, behind_head, advanced, freed, passed, cleared, refused, acted, gone, stepped}
use Rattle.replayer.proofs.Ways.{any_step}

same_source : (t s : Source) → ◌≡◌ {A = Result SavedPlace (List ℕ)} (Err (wait_numbers t)) (Err (wait_numbers s)) → t ≡ s
same_source t s e =
    let core : t.core ≡ s.core = cc in
    let count : t.count ≡ s.count = cc in
    λ i. record { core = core i; count = count i }

-- more was done, but not this source
module _ (done done' : List ℕ) (s : Source) (more : (t : Source) → is_done done t ≡ true → is_done done' t ≡ true) (not : is_done done' s ≡ false) where
  -- the first source that is not done stays the first
  first_stays : (arcs : List LogArc) → waits_for done arcs ≡ Some s → waits_for done' arcs ≡ Some s
  first_stays [] e = absurd cc
  first_stays (a ∷ arcs) e = go (is_done done (source_of a)) refl (first_stays arcs) e
    where
      go : (b : Bool) → is_done done (source_of a) ≡ b → (waits_for done arcs ≡ Some s → waits_for done' arcs ≡ Some s) → cond b (waits_for done arcs) (Some (source_of a)) ≡ Some s →
          cond (is_done done' (source_of a)) (waits_for done' arcs) (Some (source_of a)) ≡ Some s
      go true p rest q = cond-true _ _ _ (more (source_of a) p) ∙ rest q
      go false p rest q = let same : source_of a ≡ s = cc in cond-false _ _ _ (ap (is_done done') same ∙ not) ∙ q

  held_on : (x : Result Grouped Fault) → passed (held_up done None x) ≡ Err (wait_numbers s) → passed (held_up done' None x) ≡ Err (wait_numbers s)
  held_on (Err f) e = e
  held_on (Ok x) e = go (waits_for done x.arcs) refl e
    where
      go : (w : Option Source) → waits_for done x.arcs ≡ w → freed w x.behind ≡ Err (wait_numbers s) → freed (waits_for done' x.arcs) x.behind ≡ Err (wait_numbers s)
      go None p q = absurd cc
      go (Some t) p q = ap (λ w. freed w x.behind) (first_stays x.arcs (p ∙ ap Some (same_source t s q)))

  read_on : (store : List ℕ) (z : Sizes) (j : ℕ) (p : SavedPlace) (counts : List ℕ) → get_or done j 0 ≡ get_or done' j 0 →
      passed (read_group store z j p counts done) ≡ Err (wait_numbers s) → passed (read_group store z j p counts done') ≡ Err (wait_numbers s)
  unfolding read_group
  read_on store z j p counts same = go (fits (length store) z && ltb j z.cores)
    where
      arcs : ℕ → Result Grouped Fault
      arcs d = group_at counts (heading_of z j) (log_of store z j) (d + 1) p

      go : (b : Bool) → passed (cond b (held_up done None (arcs (get_or done j 0))) (Err bad_setting)) ≡ Err (wait_numbers s) →
          passed (cond b (held_up done' None (arcs (get_or done' j 0))) (Err bad_setting)) ≡ Err (wait_numbers s)
      go true e = held_on (arcs (get_or done' j 0)) (subst (λ d. passed (held_up done None (arcs d)) ≡ Err (wait_numbers s)) same e)
      go false e = e

-- core i has done one instruction more
module _ (R : Replayer) (i : ℕ) (behind : SavedPlace) where
  abbrev later : Replayer
  later = advanced R i behind

  grows : (k : ℕ) → get_or R.done k 0 ≤ get_or later.done k 0
  grows k = elim (cases_eq k i) [
    | inl e ↦ subst (λ k. get_or R.done k 0 ≤ get_or later.done k 0) (sym e) here
    | inr n ↦ omega (arith, get_or-set_other R.done i k (get_or R.done i 0 + 1) 0 n)
  ]
    where
      here : get_or R.done i 0 ≤ get_or later.done i 0
      here = elim (cases_lt i (length R.done)) [
        | inl h ↦ omega (arith, get_or-set_same R.done i (get_or R.done i 0 + 1) 0 h)
        | inr h ↦ omega (arith, ap (λ l. get_or l i 0) (set_past R.done i (get_or R.done i 0 + 1) h))
      ]

  stays_done : (t : Source) → is_done R.done t ≡ true → is_done later.done t ≡ true
  stays_done t e = le-leb t.count (get_or later.done t.core 0) (omega (arith, leb-true t.count (get_or R.done t.core 0) e, grows t.core))

  not_before : (s : Source) → is_done later.done s ≡ false → is_done R.done s ≡ false
  not_before s e = go (is_done R.done s) refl
    where
      go : (b : Bool) → is_done R.done s ≡ b → b ≡ false
      go true p = absurd (let q = stays_done s p in cc)
      go false p = refl

  cleared_on : (cores cells : ℕ) (store : List ℕ) (j : ℕ) (s : Source) → j ≢ i → is_done later.done s ≡ false →
      cleared R cores cells store j ≡ Err (wait_numbers s) → cleared later cores cells store j ≡ Err (wait_numbers s)
  unfolding cleared
  cleared_on cores cells store j s n not = go (settled R.sizes cores cells (length store)) (leb R.sizes.cores j)
    where
      done : get_or R.done j 0 ≡ get_or later.done j 0
      done = sym (get_or-set_other R.done i j (get_or R.done i 0 + 1) 0 n)

      place : get_or R.places j behind_head ≡ get_or later.places j behind_head
      place = sym (get_or-set_other R.places i j behind behind_head n)

      read : SavedPlace → List ℕ → Result SavedPlace (List ℕ)
      read p d = passed (read_group store R.sizes j p R.counts d)

      rest : (b : Bool) → cond b (Err (7 ∷ [])) (read (get_or R.places j behind_head) R.done) ≡ Err (wait_numbers s) →
          cond b (Err (7 ∷ [])) (read (get_or later.places j behind_head) later.done) ≡ Err (wait_numbers s)
      rest true e = e
      rest false e =
          read_on R.done later.done s stays_done not store R.sizes j (get_or later.places j behind_head) R.counts done
          (subst (λ p. read p R.done ≡ Err (wait_numbers s)) place e)

      go : (a b : Bool) →
          cond a (cond b (Err (1 ∷ [])) (cond (leb (get_or R.counts j 0) (get_or R.done j 0)) (Err (7 ∷ [])) (read (get_or R.places j behind_head) R.done))) (Err bad_setting) ≡ Err (wait_numbers s) →
          cond a (cond b (Err (1 ∷ [])) (cond (leb (get_or R.counts j 0) (get_or later.done j 0)) (Err (7 ∷ [])) (read (get_or later.places j behind_head) later.done))) (Err bad_setting) ≡ Err (wait_numbers s)
      go false b e = e
      go true true e = e
      go true false e =
          rest (leb (get_or R.counts j 0) (get_or later.done j 0))
          (subst (λ d. cond (leb (get_or R.counts j 0) d) (Err (7 ∷ [])) (read (get_or R.places j behind_head) R.done) ≡ Err (wait_numbers s)) done e)

module _
    (next : List ℕ → List ℕ → Request) (after : List ℕ → List ℕ → ℕ → List ℕ)
    (text : List ℕ) (R : Replayer) (cells : List ℕ) (states : List (List ℕ)) (store : List ℕ) (i : ℕ)
  where
    -- a step of another core
    pub others_wait : (cores cells' j : ℕ) (known : Option Source) → j ≢ i → Awaits store R cores cells' j known →
        Awaits store (stepped next after text R cells states store i).replayer cores cells' j known
    others_wait cores cells' j None n h = tt
    others_wait cores cells' j (Some s) n h =
        any_step next after text R cells states store i (λ o. Awaits store o.replayer cores cells' j (Some s)) (λ says q. h)
        (λ G w not. cleared_on R i G.place cores cells' store j s n not (h (not_before R i G.place s not)))

    -- a step that says that it waits
    pub itself_waits : (o : Outcome) (s : Source) → o ≡ stepped next after text R cells states store i → o.says ≡ wait_numbers s →
        Awaits store o.replayer (length states) (length cells) i (Some s)
    unfolding stepped
    itself_waits o s e says _ = go (cleared R (length states) (length cells) store i) refl e
      where
        request : Request
        request = next text (get_or states i [])

        asks : (behind : SavedPlace) (b c : Bool) → o.says ≡ (cond b (acted next after text R cells states i behind request) (cond c (refused next after text R cells states (2 ∷ [])) (refused next after text R cells states (4 ∷ [])))).says → ⊥
        asks behind true c q = cc
        asks behind false true q = cc
        asks behind false false q = cc

        go : (x : Result SavedPlace (List ℕ)) → cleared R (length states) (length cells) store i ≡ x → o ≡ gone next after text R cells states i x →
            cleared o.replayer (length states) (length cells) store i ≡ Err (wait_numbers s)
        go (Ok behind) p q = absurd (asks behind (able request R.sizes.cells) (within request R.sizes.cells) (ap (λ x. x.says) q))
        go (Err refusal) p q =
            let same : o.replayer ≡ R = ap (λ x. x.replayer) q in
            let told : refusal ≡ wait_numbers s = sym (ap (λ x. x.says) q) ∙ says in
            subst (λ r. cleared r (length states) (length cells) store i ≡ Err (wait_numbers s)) (sym same) (p ∙ ap Err told)

    -- what is known of each core after a step of core i, where what is known of that one is found anew
    pub all_wait : (o : Outcome) → o ≡ stepped next after text R cells states store i → (cores cells' : ℕ) (known : List (Option Source)) (found : Option Source) →
        AllAwait store R cores cells' known → Awaits store o.replayer cores cells' i found → AllAwait store o.replayer cores cells' (set known i found)
    all_wait o e cores cells' known found h itself j = elim (cases_eq j i) [
      | inl q ↦ subst (λ j. Await j (get_or (set known i found) j None)) (sym q) here
      | inr n ↦ subst (Await j) (sym (get_or-set_other known i j found None n))
          (subst (λ o. Awaits store o.replayer cores cells' j (get_or known j None)) (sym e) (others_wait cores cells' j (get_or known j None) n (h j)))
    ]
      where
        Await : ℕ → Option Source → Type 0
        Await j known = Awaits store o.replayer cores cells' j known

        here : Await i (get_or (set known i found) i None)
        here = elim (cases_lt i (length known)) [
          | inl h ↦ subst (Await i) (sym (get_or-set_same known i found None h)) itself
          | inr h ↦ subst (Await i) (sym (ap (λ l. get_or l i None) (set_past known i found h) ∙ get_or_past known i None h)) tt
        ]

pub none_known : (store : List ℕ) (R : Replayer) (cores cells : ℕ) → AllAwait store R cores cells (None ∷ None ∷ None ∷ None ∷ [])
none_known store R cores cells j = subst (Awaits store R cores cells j) (sym (all_alike 4 j None)) tt
