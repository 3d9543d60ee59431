-- After any calls a recorder has recorded the run of the turns accepted since the last begin.
use Rattle.std.proofs.Common.{◌≡◌, ℕ, true, cond, not, eqb, List, [], ◌∷◌, ◌++◌, map, length, get_or, take, set, sym, refl, ap, ◌∙◌, subst, inl, inr, arith}
use Rattle.std.proofs.lemmas.Bool.{cases_Bool, cases_eq, cond-true, cond-false, eq-eqb, ne_eqb}
use Rattle.std.proofs.lemmas.List.{map-append}
use Rattle.access_laws.proofs.Recalling.{nothing_is_recalled_at_first}
use Rattle.access_laws.specs.Recalls.{Recalls}
use Rattle.cores.specs.Memory.{Rules, brought, stored, outcome, plain, start}
use Rattle.records.specs.Format.{LogArc, Entry, arc}
use Rattle.records.specs.declared.settings.Sizes.{Sizes}
use Rattle.logs.proofs.Rules.{all_alike}
use Rattle.recorder.specs.Refusals.{Book, touched}
use Rattle.recorder.specs.Sound.{no_log}
use Rattle.recorder.specs.Turns as recorder
use Rattle.recorder.specs.Turns.{World, world, asks, Answered, Begun, begun, refusal, new_arcs, entered, Turned}
use Rattle.reducers.proofs.RowLists.{each_replicate}
use Rattle.reducers.specs.Numbers.{Numbers, Meets}
use Rattle.runs.specs.PlainRun.{access}
use Rattle.runs.specs.Recording.{Arc, Recording, begin}
use Rattle.runs.specs.Runs.{Instr, ev, next}
use Rattle.traces.proofs.Recordings.{fresh, begun_done, begun_refused}
use Rattle.traces.proofs.Steps.{refused_turn, accepted_turn}
use Rattle.traces.specs.Recording as traced
use Rattle.traces.specs.Trace.{none, begins, turns, refused}
use Rattle.recordings.specs.Sessions.{Session, opened, with_turn, session_after, Records, TracesAreRecorded, NewHasRecordedNothing}
use Rattle.recordings.specs.Tracks.{run_of, logged, Tracks, logs_of, body_of}
use Rattle.recordings.proofs.Appending.{To, arcs_target, own_logged, other_logged}
use Rattle.recordings.proofs.Recording.{goes_tracking}
use Rattle.recordings.proofs.Tracking as now
use Rattle.recorder.proofs.Passing.{Passed, passed}
use Rattle.records.specs.Settings.{can_begin, no_sizes}

-- begin tracks a run of no turns
pub begins_tracking : (meets : Meets) (K : Rules) (z : Sizes) (w : World) →
    Tracks meets K z (start (take z.cells w.cells) (take z.cores w.states)) [] [] (world (fresh z w.tape) w.cells w.states)
begins_tracking meets K z w = record {
  sizes = refl;
  four = refl;
  accepted = tt;
  cells = refl;
  states = refl;
  counts = λ k h. each_replicate (λ l. l.instructions ≡ 0) (record { instructions = 0; arcs = 0; end = 6 }) no_log refl refl 4 k ∙ sym (all_alike (length (take z.cores w.states)) k 0);
  position = refl;
  recording = begin;
  recalls = nothing_is_recalled_at_first;
}

begin_tracks : (meets : Meets) (K : Rules) (z : Sizes) (w : World) → Records meets K (world (fresh z w.tape) w.cells w.states) (traced.opened z w) (opened z w)
begin_tracks meets K z w = record { arcs = []; tracks = begins_tracking meets K z w; logs = λ k. refl }

-- the arcs of a turn are to its instruction
pub arcs_to_next : (meets : Meets) (K : Rules) (z : Sizes) (cs : List ℕ) (ss : List (List ℕ)) (u : List ℕ) (L : List Arc) (v : World) → Tracks meets K z (start cs ss) u L v → (j : ℕ) → Passed K j v → (trail : List Numbers) →
    To (next (run_of K (start cs ss) u) (ev j (access (λ c. c) (outcome K (plain K (start cs ss) u) j).request))).count (new_arcs v.tape j (asks K j v) trail)
arcs_to_next meets K z cs ss u L v t j p trail =
    let by_count = ap (λ a. a.count) (now.access_is meets K z cs ss u L v t j p) in
    subst (λ n. To n (new_arcs v.tape j (asks K j v) trail)) by_count
    (arcs_target (recorder.next_access v.tape.book j) v.tape.numbers (recorder.candidates_for v.tape.book.sizes.cores v.tape.history j (touched (asks K j v))) trail)

module _ (meets : Meets) (K : Rules) where
  begin_step : (z : Sizes) (v : World) (b : Begun) (r : traced.Recording) (s : Session) → b ≡ begun z (length v.states) (length v.cells) v.tape → Records meets K v r s →
      Records meets K (world b.leaves v.cells v.states) (cond (refused b.says) r (traced.opened z v)) (cond (refused b.says) s (opened z v))
  begin_step z v b r s e f =
      let there : Begun → Type 0 = λ x. Records meets K (world x.leaves v.cells v.states) (cond (refused x.says) r (traced.opened z v)) (cond (refused x.says) s (opened z v)) in
      elim (cases_Bool (can_begin z (length v.states) (length v.cells) (length v.tape.store))) [
        | inl good ↦ subst there (sym (e ∙ begun_done z (length v.states) (length v.cells) v.tape good)) (begin_tracks meets K z v)
        | inr bad ↦ subst there (sym (e ∙ begun_refused z (length v.states) (length v.cells) v.tape bad)) f
      ]

  -- the arcs of a turn go to the log of its core
  pub logs_step : (j k : ℕ) (y : Instr) (more : List LogArc) (old : List Entry) (L : List Arc) → y.core ≡ j → To y.count more → old ≡ body_of k L →
      cond (eqb k j) (old ++ map arc more) old ≡ body_of k (logged y more L)
  logs_step j k y more old L q to e = elim (cases_eq k j) [
    | inl same ↦
        cond-true (eqb k j) _ _ (eq-eqb k j same) ∙ ap (λ l. l ++ map arc more) e ∙ sym (map-append arc (logs_of k L) more)
        ∙ ap (map arc) (subst (λ i. logs_of i L ++ more ≡ logs_of i (logged y more L)) (q ∙ sym same) (sym (own_logged y more L to)))
    | inr other ↦ cond-false (eqb k j) _ _ (ne_eqb k j other) ∙ e ∙ ap (map arc) (sym (other_logged k y more L (λ p. other (p ∙ q))))
  ]

  turn_records : (j : ℕ) (v : World) (r : traced.Recording) (s : Session) (o : Answered) (T : Turned meets K j v o) → refusal K j v ≡ 0 → Records meets K v r s →
      let request = asks K j v in
      Records meets K (world (entered v.tape j request T.trail T.last) (stored request v.cells) (set v.states j (K.after (get_or v.states j []) (brought request v.cells))))
      (traced.extended K r j (new_arcs v.tape j request T.trail)) (with_turn j s)
  turn_records j v r s o T ok f =
      let request = asks K j v in
      let z = v.tape.book.sizes in
      let m = start s.cells s.states in
      let t = f.tracks in
      let p = passed K j v ok in
      let more = new_arcs v.tape j request T.trail in
      let y = next (run_of K m s.turns) (ev j (access (λ c. c) (outcome K (plain K m s.turns) j).request)) in
      let to = arcs_to_next meets K z s.cells s.states s.turns f.arcs v t j p T.trail in
      record {
        arcs = logged y more f.arcs;
        tracks = goes_tracking meets K z s.cells s.states s.turns f.arcs v t j p T.trail T.last (T.within ok);
        logs = λ k. logs_step j k y more (r.bodies k) f.arcs refl to (f.logs k);
      }

  turn_step : (j : ℕ) (v : World) (o : Answered) (T : Turned meets K j v o) (r : traced.Recording) (s : Session) → Records meets K v r s →
      Records meets K o.leaves (cond (refused o.says) r (traced.extended K r j (new_arcs v.tape j (asks K j v) T.trail))) (cond (refused o.says) s (with_turn j s))
  turn_step j v o T r s f =
      let more = traced.extended K r j (new_arcs v.tape j (asks K j v) T.trail) in
      let there : Answered → Type 0 = λ x. Records meets K x.leaves (cond (refused x.says) r more) (cond (refused x.says) s (with_turn j s)) in
      elim (cases_eq (refusal K j v) 0) [
        | inl e ↦ subst there (sym (accepted_turn meets K j v o T e)) (turn_records j v r s o T e f)
        | inr never ↦
            let says : refused (refusal K j v ∷ []) ≡ true = ap not (ne_eqb (refusal K j v) 0 never) in
            subst there (sym (refused_turn meets K j v o T never)) (subst (λ b. Records meets K v (cond b r more) (cond b s (with_turn j s))) (sym says) f)
      ]

pub traces_are_recorded : (meets : Meets) → TracesAreRecorded meets
traces_are_recorded meets K w v es r s none f = f
traces_are_recorded meets K w v es r s (begins {es = fs} {v = u} t z b e) f =
    begin_step meets K z u b (traced.recording_after t r) (session_after t s) e (traces_are_recorded meets K w u fs r s t f)
traces_are_recorded meets K w v es r s (turns {es = fs} {v = u} t j o g) f =
    turn_step meets K j u o g (traced.recording_after t r) (session_after t s) (traces_are_recorded meets K w u fs r s t f)

pub new_has_recorded_nothing : (meets : Meets) → NewHasRecordedNothing meets
new_has_recorded_nothing meets K w e h n =
    let z : Sizes = no_sizes in
    let sizes = ap (λ (b : Book). b.sizes) e in
    record {
      arcs = [];
      tracks = record {
        sizes = refl;
        four = ap (λ (b : Book). length b.logs) e;
        accepted = tt;
        cells = ap (λ (x : Sizes). take x.cells w.cells) sizes;
        states = ap (λ (x : Sizes). take x.cores w.states) sizes;
        counts = λ k h. let none_there : w.tape.book.sizes.cores ≡ 0 = ap (λ (x : Sizes). x.cores) sizes in absurd (omega (arith, h, none_there));
        position = ap (λ (b : Book). b.position) e;
        recording = subst (λ x. Recording meets [] x []) (sym n) begin;
        recalls = subst (λ x. Recalls [] x) (sym h) nothing_is_recalled_at_first;
      };
      logs = λ k. refl;
    }
