-- On each way through a step its answer is the one that is defined.
use Rattle.std.proofs.Common.{◌≡◌, ℕ, ◌+◌, ◌<◌, ◌≤◌, true, false, leb, List, [], ◌∷◌, map, length, get_or, Some, None, Ok, Err, Result, sym, refl, ap, ◌∙◌}
use Rattle.std.proofs.lemmas.Bool.{le-leb, lt-leb, leb-true, and_parts, cond-true, cond-false}
use Rattle.std.proofs.lemmas.List.{length-map, get_or_default}
use Rattle.cores.specs.declared.interface.Request.{Request}
use Rattle.cores.specs.declared.interface.Request.TheVariants.{Halt, Local, Read, Write, Exchange}
use Rattle.cores.specs.Acting.{within, told}
use Rattle.cores.specs.Memory.{able, brought, stored}
use Rattle.records.specs.declared.faults.Refusal.{Refusal}
use Rattle.records.specs.declared.faults.Refusal.TheVariants.{BadSetting as Unfit, LogFault as Faulty}
use Rattle.records.specs.declared.reading.SavedPlace.{SavedPlace}
use Rattle.records.specs.declared.settings.Sizes.{Sizes}
use Rattle.records.specs.Faults.{bad_setting, refusal}
use Rattle.records.specs.Settings.{fits, settled}
use Rattle.replayer.specs.declared.answers.StepRefusal.{StepRefusal}
use Rattle.replayer.specs.declared.answers.StepRefusal.TheVariants.{NoSuchCore, Halted, NoSuchCell, Waits, Replayed, BadSetting, LogFault}
use Rattle.replayer.specs.declared.group.Group.{Group}
use Rattle.records.specs.declared.format.Source.{Source}
use Rattle.replayer.specs.declared.replay.Replayer.{Replayer}
use Rattle.replayer.specs.Answers.{step_refusal_from, step_refusal, wait_numbers, done_numbers}
use Rattle.replayer.specs.Groups.{read_group}
use Rattle.replayer.specs.Steps.{Outcome, behind_head, advanced, ahead, freed, passed, Bars, cleared, MayGo, WentOn, refused, acted, asked, gone, stepped}

-- the same numbers, whether a reader or a step is refused
same_refusal : (e : Refusal) → step_refusal (step_refusal_from e) ≡ refusal e
same_refusal Unfit = refl
same_refusal (Faulty e) = refl

-- all but a halt are able where their cell is there
able_within : (r : Request) (n : ℕ) → (r ≡ Halt → ⊥) → able r n ≡ within r n
able_within Halt n h = absurd (h refl)
able_within Local n h = refl
able_within (Read c) n h = refl
able_within (Write c v) n h = refl
able_within (Exchange c v) n h = refl

pub able_inside : (r : Request) (n : ℕ) → able r n ≡ true → within r n ≡ true
able_inside Halt n h = refl
able_inside Local n h = refl
able_inside (Read c) n h = h
able_inside (Write c v) n h = h
able_inside (Exchange c v) n h = h

pub settled_cores : (z : Sizes) (cores cells bytes : ℕ) → settled z cores cells bytes ≡ true → z.cores ≤ cores
settled_cores z cores cells bytes t = leb-true z.cores cores (and_parts (leb z.cores cores) _ (and_parts (fits bytes z) _ t).1).0

-- what was read from a place of the table is what stands ahead
pub ahead_is : (R : Replayer) (store : List ℕ) (j : ℕ) → j < length R.places → (x : Result Group (List ℕ)) →
    x ≡ read_group store R.sizes j (get_or R.places j (record { offset = 0; last = 0; latest = []; arcs = 0 })) R.counts R.done → x ≡ ahead R store j
ahead_is R store j inside x q = q ∙ ap (λ p. read_group store R.sizes j p R.counts R.done) (get_or_default R.places j _ behind_head inside)

-- what clears a core, or why it may not go on
module _ (R : Replayer) (cores cells : ℕ) (store : List ℕ) (j : ℕ) where
  abbrev verdict : Result SavedPlace (List ℕ)
  verdict = cleared R cores cells store j

  pub unsettled : false ≡ settled R.sizes cores cells (length store) → Err bad_setting ≡ verdict
  unfolding cleared
  unsettled e = sym (cond-false _ _ _ (sym e))

  module _ (ready : true ≡ settled R.sizes cores cells (length store)) where
    pub no_core : R.sizes.cores ≤ j → Err (1 ∷ []) ≡ verdict
    unfolding cleared
    no_core h = sym (cond-true _ _ _ (sym ready) ∙ cond-true _ _ _ (le-leb R.sizes.cores j h))

    module _ (known : j < R.sizes.cores) where
      pub replayed : get_or R.counts j 0 ≤ get_or R.done j 0 → Err (7 ∷ []) ≡ verdict
      unfolding cleared
      replayed h =
          sym (cond-true _ _ _ (sym ready) ∙ cond-false _ _ _ (lt-leb R.sizes.cores j known) ∙ cond-true _ _ _ (le-leb (get_or R.counts j 0) (get_or R.done j 0) h))

      module _ (more : get_or R.done j 0 < get_or R.counts j 0) where
        goes : (x : Result Group (List ℕ)) → x ≡ ahead R store j → passed x ≡ verdict
        unfolding cleared
        goes x q =
            ap passed q
            ∙ sym (cond-true _ _ _ (sym ready) ∙ cond-false _ _ _ (lt-leb R.sizes.cores j known) ∙ cond-false _ _ _ (lt-leb (get_or R.counts j 0) (get_or R.done j 0) more))

        pub faulty : (e : Refusal) → Err (refusal e) ≡ ahead R store j → Err (step_refusal (step_refusal_from e)) ≡ verdict
        faulty e q = ap Err (same_refusal e) ∙ goes (Err (refusal e)) q

        pub read : (g : Group) → Ok g ≡ ahead R store j → passed (Ok g) ≡ verdict
        read g q = goes (Ok g) q

-- what bars a core is what the step says
pub barred_out : (R : Replayer) (cores cells : ℕ) (store : List ℕ) (j : ℕ) (e : StepRefusal) → Bars (Err e) R cores cells (length store) j →
    Err (step_refusal e) ≡ cleared R cores cells store j
barred_out R cores cells store j BadSetting h = unsettled R cores cells store j h
barred_out R cores cells store j NoSuchCore h = no_core R cores cells store j h.0 h.1
barred_out R cores cells store j Replayed h = replayed R cores cells store j h.0 h.1 h.2
barred_out R cores cells store j Halted h = absurd h
barred_out R cores cells store j NoSuchCell h = absurd h
barred_out R cores cells store j (Waits s) h = absurd h
barred_out R cores cells store j (LogFault f) h = absurd h

-- the ways of a step, from what clears its core
module _
    {K : Type 0} (state : K → List ℕ)
    (next : List ℕ → List ℕ → Request) (after : List ℕ → List ℕ → ℕ → List ℕ)
    (text : List ℕ) (R : Replayer) (cores : List K) (cells store : List ℕ) (j : ℕ)
  where
    abbrev turn : Outcome
    turn = stepped next after text R cells (map state cores) store j

    abbrev still : List ℕ → Outcome
    still says = refused next after text R cells (map state cores) says

    goes_on : (x : Result SavedPlace (List ℕ)) → x ≡ cleared R (length cores) (length cells) store j → gone next after text R cells (map state cores) j x ≡ turn
    unfolding stepped
    goes_on x q = ap (gone next after text R cells (map state cores) j) (q ∙ ap (λ n. cleared R n (length cells) store j) (sym (length-map cores state)))

    left : (says : List ℕ) {later : Replayer} → later ≡ R → ◌≡◌ {A = Outcome} (record { says = says; replayer = later; cells = cells; states = map state cores }) (still says)
    left says same = ap (λ r. record { says = says; replayer = r; cells = cells; states = map state cores }) same

    pub barred : (says : List ℕ) → Err says ≡ cleared R (length cores) (length cells) store j → still says ≡ turn
    barred says q = goes_on (Err says) q

    module _ (g : Group) (read : passed (Ok g) ≡ cleared R (length cores) (length cells) store j) where
      pub waiting : (s : Source) → g.waits ≡ Some s → still (wait_numbers s) ≡ turn
      waiting s h = barred (wait_numbers s) (ap (λ w. freed w g.place) (sym h) ∙ read)

      module _ (may : MayGo R (length cores) j) (free : g.waits ≡ None) where
        module _ (request : Request) (ask : request ≡ next text (get_or (map state cores) j [])) where
          carries : asked next after text R cells (map state cores) j g.place request ≡ turn
          carries =
              ap (asked next after text R cells (map state cores) j g.place) ask ∙ goes_on (Ok g.place) (ap (λ w. freed w g.place) (sym free) ∙ read)

          pub halted : request ≡ Halt → still (2 ∷ []) ≡ turn
          halted h = ap (asked next after text R cells (map state cores) j g.place) (sym h) ∙ carries

          module _ (runs : request ≡ Halt → ⊥) where
            pub no_cell : false ≡ within request R.sizes.cells → still (4 ∷ []) ≡ turn
            no_cell h =
                sym (cond-false (able request R.sizes.cells) _ _ (able_within request R.sizes.cells runs ∙ sym h)
                ∙ cond-false (within request R.sizes.cells) _ _ (sym h))
                ∙ carries

            pub done : true ≡ within request R.sizes.cells → (number : ℕ) → number ≡ brought request cells → (later : List ℕ) → later ≡ stored request cells →
                (states : List (List ℕ)) → states ≡ told after text (map state cores) j number →
                ◌≡◌ {A = Outcome} (record { says = done_numbers request (get_or R.done j 0 + 1) number; replayer = advanced R j g.place; cells = later; states = states }) turn
            done h number brings later stores states tells =
                let tells' : states ≡ told after text (map state cores) j (brought request cells) = tells ∙ ap (told after text (map state cores) j) brings in
                let is : ◌≡◌ {A = Outcome} (record { says = done_numbers request (get_or R.done j 0 + 1) number; replayer = advanced R j g.place; cells = later; states = states })
                (acted next after text R cells (map state cores) j g.place request) =
                λ i. record { says = done_numbers request (get_or R.done j 0 + 1) (brings i); replayer = advanced R j g.place; cells = stores i; states = tells' i } in
                is ∙ sym (cond-true (able request R.sizes.cells) _ _ (able_within request R.sizes.cells runs ∙ sym h)) ∙ carries

      -- a core that does not go on says why, and nothing changes
      pub stays : MayGo R (length cores) j → (request : Request) → request ≡ next text (get_or (map state cores) j []) → (e : StepRefusal) (later : Replayer) →
          WentOn (Err e) R j g request later → ◌≡◌ {A = Outcome} (record { says = step_refusal e; replayer = later; cells = cells; states = map state cores }) turn
      stays may request ask (Waits s) later w = left (wait_numbers s) w.1 ∙ waiting s w.0
      stays may request ask Halted later w = left (2 ∷ []) w.2 ∙ halted may w.0 request ask w.1
      stays may request ask NoSuchCell later w = left (4 ∷ []) w.3 ∙ no_cell may w.0 request ask w.1 w.2
      stays may request ask NoSuchCore later w = absurd w
      stays may request ask Replayed later w = absurd w
      stays may request ask BadSetting later w = absurd w
      stays may request ask (LogFault f) later w = absurd w
