-- The ways of a turn: what each of them leaves is the outcome that is defined.
use Rattle.std.proofs.Common.{◌≡◌, ℕ, ◌+◌, ◌<◌, ◌≤◌, true, false, eqb, List, [], ◌∷◌, map, length, get_or, set, sym, ap, ◌∙◌, subst, arith}
use Rattle.std.proofs.lemmas.List.{length-map}
use Rattle.std.proofs.lemmas.Bool.{cond-true, cond-false, eq-eqb, ne_eqb, le-leb, lt-leb}
use Rattle.cores.specs.Memory.{Rules, rules, brought, stored}
use Rattle.cores.specs.declared.interface.Request.{Request}
use Rattle.records.specs.Settings.{settled}
use Rattle.reducers.specs.Numbers.{Meets}
use Rattle.recorder.specs.Refusals.{log_in, number_of, touched, barred}
use Rattle.recorder.specs.Turns.{Tape, World, world, Answered, answered, done_said, asks, refusal, turned, Within, new_arcs, entered, Entered, Turned}
use Rattle.recorder.specs.declared.rules.Refusal.{Refusal}
use Rattle.recorder.proofs.Passing.{settled_parts}
use Rattle.recorder.specs.declared.rules.Refusal.TheVariants.{NoSuchCore, Halted, CountSpent, NoSuchCell, LogFull, BadSetting}

pub number_not_zero : (r : Refusal) → number_of r ≡ 0 → ⊥
number_not_zero NoSuchCore e = omega arith
number_not_zero Halted e = omega arith
number_not_zero CountSpent e = omega arith
number_not_zero NoSuchCell e = omega arith
number_not_zero LogFull e = omega arith
number_not_zero BadSetting e = omega arith

module _ (meets : Meets) (K : Rules) (j : ℕ) (w : World) where
  -- a refusal's number alone says what a refused turn comes to
  refused_is : (r : ℕ) → refusal K j w ≡ r → (r ≡ 0 → ⊥) → Turned meets K j w (answered (r ∷ []) w)
  unfolding turned
  refused_is r e n = record {
    trail = [];
    last = w.tape.numbers;
    within = λ q. absurd (n (sym e ∙ q));
    same =
        ap (λ k. answered (k ∷ []) w) (sym e)
        ∙ sym (cond-false (eqb (refusal K j w) 0) _ _ (ne_eqb (refusal K j w) 0 (λ q. n (sym e ∙ q))));
  }

  done_is : (request : Request) (number arcs : ℕ) (t' : Tape) (cells : List ℕ) (states : List (List ℕ)) → refusal K j w ≡ 0 →
      request ≡ asks K j w → Entered meets w.tape j request arcs t' → number ≡ brought request w.cells → cells ≡ stored request w.cells →
      states ≡ set w.states j (K.after (get_or w.states j []) number) →
      Turned meets K j w (answered (done_said request ((log_in w.tape.book j).instructions + 1) number arcs) (world t' cells states))
  unfolding turned
  done_is request number arcs t' cells states ok asked f brings stores tells' =
      let count = (log_in w.tape.book j).instructions + 1 in
      let out : Request → ℕ → ℕ → Tape → List ℕ → List (List ℕ) → Answered = λ q n k t c s. answered (done_said q count n k) (world t c s) in
      let told : ℕ → List (List ℕ) = λ n. set w.states j (K.after (get_or w.states j []) n) in
      record {
        trail = f.trail;
        last = f.last;
        within = λ _. subst (λ (q : Request). Within meets w.tape.book.sizes.cores w.tape.history j (touched q) w.tape.numbers f.trail f.last) asked f.within;
        same =
            (λ i. out request number (f.counts i) (f.same i) (stores i) (tells' i))
            ∙ ap (λ n. out request n (length (new_arcs w.tape j request f.trail)) (entered w.tape j request f.trail f.last) (stored request w.cells) (told n)) brings
            ∙ ap (λ (q : Request). out q (brought q w.cells) (length (new_arcs w.tape j q f.trail)) (entered w.tape j q f.trail f.last) (stored q w.cells)
            (told (brought q w.cells))) asked
            ∙ sym (cond-true (eqb (refusal K j w) 0) _ _ (eq-eqb (refusal K j w) 0 ok));
      }

module _
    {K : Type 0} (state : K → List ℕ) (meets : Meets)
    (next : List ℕ → List ℕ → Request) (after : List ℕ → List ℕ → ℕ → List ℕ)
    (text : List ℕ) (cores : List K) (cells : List ℕ) (t : Tape) (j : ℕ)
  where
    abbrev before : World
    before = world t cells (map state cores)

    abbrev kind : Rules
    kind = rules next after text

    pub unsettled : false ≡ settled t.book.sizes (length cores) (length cells) (length t.store) → Turned meets kind j before (answered (8 ∷ []) before)
    unfolding refusal
    unsettled e =
        let is : refusal kind j before ≡ 8 = simp (length-map, ← e) in
        refused_is meets kind j before 8 is (λ q. omega arith)

    module _ (set_up : true ≡ settled t.book.sizes (length cores) (length cells) (length t.store)) where
      pub enough : t.book.sizes.cores ≤ length cores
      enough = (settled_parts t.book.sizes (length cores) (length cells) (length t.store) (sym set_up)).1

      pub no_core : t.book.sizes.cores ≤ j → Turned meets kind j before (answered (1 ∷ []) before)
      unfolding refusal
      no_core h =
          let is : refusal kind j before ≡ 1 = simp (length-map, ← set_up, le-leb t.book.sizes.cores j h) in
          refused_is meets kind j before 1 is (λ q. omega arith)

      module _ (below : j < t.book.sizes.cores) (request : Request) (asked : request ≡ next text (get_or (map state cores) j [])) where
        reached : refusal kind j before ≡ barred t.book j request
        unfolding refusal
        reached =
            let is : refusal kind j before ≡ barred t.book j (asks kind j before) = simp (length-map, ← set_up, lt-leb t.book.sizes.cores j below) in
            is ∙ ap (barred t.book j) (sym asked)

        pub barred_out : (r : Refusal) → number_of r ≡ barred t.book j request → Turned meets kind j before (answered (number_of r ∷ []) before)
        barred_out r q = refused_is meets kind j before (number_of r) (reached ∙ sym q) (number_not_zero r)

        pub done : 0 ≡ barred t.book j request → (count : ℕ) → count ≡ (log_in t.book j).instructions + 1 → (arcs : ℕ) (t' : Tape) → Entered meets t j request arcs t' →
            (number : ℕ) (cells' : List ℕ) → number ≡ brought request cells → cells' ≡ stored request cells →
            (later : List K) → map state later ≡ set (map state cores) j (after text (get_or (map state cores) j []) number) →
            Turned meets kind j before (answered (done_said request count number arcs) (world t' cells' (map state later)))
        done q count counts arcs t' f number cells' brings stores later tells' =
            subst (λ k. Turned meets kind j before (answered (done_said request k number arcs) (world t' cells' (map state later)))) (sym counts)
            (done_is meets kind j before request number arcs t' cells' (map state later) (reached ∙ sym q) asked f brings stores tells')
