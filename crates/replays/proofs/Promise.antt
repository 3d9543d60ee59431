-- No dropped ordering was needed: recording, opening, steps and runs joined.
use Rattle.std.proofs.Common.{◌≡◌, ℕ, ◌+◌, ◌<◌, ◌≤◌, leb, List, [], ◌∷◌, ◌++◌, length, get_or, drop, sym, ap, ◌∙◌, subst, arith, length-append}
use Rattle.std.proofs.lemmas.List.{length-take-le}
use Rattle.std.proofs.lemmas.Bool.{and_parts, leb-true}
use Rattle.cores.specs.Memory.{Rules, rules, Memory, plain, start}
use Rattle.cores.specs.declared.interface.Request.{Request}
use Rattle.lawful_logs.proofs.Orderly.{traces_are_orderly, new_is_orderly}
use Rattle.records.specs.Settings.{fits, no_sizes}
use Rattle.records.specs.declared.settings.Sizes.{Sizes}
use Rattle.recorder.specs.Turns.{Tape}
use Rattle.recordings.proofs.Sessions.{traces_are_recorded, new_has_recorded_nothing}
use Rattle.recordings.specs.Sessions as recorded
use Rattle.reducers.specs.Numbers.{Meets}
use Rattle.replayer.specs.Runs.{session, counted}
use Rattle.replayer.specs.Steps.{reopened}
use Rattle.replayer.specs.declared.replay.Replayer.{Replayer}
use Rattle.runs.proofs.AnyReducer.{replay_agrees_with}
use Rattle.runs.specs.Theorems.{Bounded}
use Rattle.traces.proofs.Recordings.{traces_are_faithful, new_is_faithful}
use Rattle.traces.specs.Recording as traced
use Rattle.replays.specs.Promise.{NoDroppedOrderingWasNeeded, SameStart}
use Rattle.replays.specs.Calls.{stage}
use Rattle.replays.proofs.Opening.{recordings_open}
use Rattle.cores.specs.Memory.{outcomes}
use Rattle.lawful_logs.specs.Orderly.{Orderly}
use Rattle.logs.proofs.Judging.{written_append}
use Rattle.std.specs.List.{AllByRecursion}
use Rattle.logs.specs.Lawful.{Body, arcs_in, front, whole}
use Rattle.records.specs.Format.{Entry, end, end_size, written}
use Rattle.records.specs.Settings.{log_of, heading_of}
use Rattle.records.specs.declared.settings.Heading.{Heading}
use Rattle.recorded_logs.specs.Held.{HeldLog}
use Rattle.recorder.specs.Refusals.{log_in}
use Rattle.recorder.specs.Turns.{World}
use Rattle.recorder.specs.declared.ledger.Log.{Log}
use Rattle.recordings.proofs.ByTheRules.{turns_go_by_the_rules}
use Rattle.recordings.specs.Tracks.{body_of}
use Rattle.replays.specs.Promise.{ReplaysAsRecorded, LogsHold}
use Rattle.replays.specs.Replies.{reply, replies, dones}
use Rattle.replays.proofs.Agreeing.{steps_agree, calls_agree}
use Rattle.replays.proofs.Replying.{replied, dones_are, never_stuck}
use Rattle.replayer.specs.Memories.{walked}
use Rattle.runs.proofs.Decided.{choice_is_recorded}
use Rattle.runs.proofs.LoggedArcs.{arcs_logged}
use Rattle.runs.specs.Replay.{ReplayState}
use Rattle.recordings.specs.Tracks.{run_of}

-- the bytes of a log: its front, and those of its end
whole_size : (g : Heading) (body : List Entry) (n : ℕ) → length (written (whole g body n)) ≡ length (written (front g body)) + end_size
whole_size g body n =
    ap length (written_append (front g body) (end n (length (arcs_in body)) ∷ [])) ∙ length-append (written (front g body)) (written (end n (length (arcs_in body)) ∷ []))

-- a log as it is held, said by its body and the plain memory's counts
log_holds : (z : Sizes) (k : ℕ) (l : Log) (bytes old : List ℕ) (body body' : List Entry) (n : ℕ) → HeldLog z k l bytes old body → body ≡ body' → l.instructions ≡ n →
    let whole-log = written (whole (heading_of z k) body' n) in
    bytes ≡ whole-log ++ drop (length whole-log) old
log_holds z k l bytes old body body' n h q e =
    let w = written (whole (heading_of z k) body l.instructions) in
    let size : l.end + end_size ≡ length w = omega (arith, h.place, whole_size (heading_of z k) body l.instructions) in
    h.says ∙ ap (λ i. w ++ drop i old) size
    ∙ (λ i. let x = written (whole (heading_of z k) (q i) (e i)) in x ++ drop (length x) old)

module _ (meets : Meets) (bounded : Bounded meets) (next : List ℕ → List ℕ → Request) (after : List ℕ → List ℕ → ℕ → List ℕ) (text : List ℕ)
    (v : World) (r : traced.Recording) (s : recorded.Session) (f : traced.Faithful v r) (o : Orderly v r) (rec : recorded.Records meets (rules next after text) v r s) where
  abbrev K : Rules
  K = rules next after text

  abbrev m : Memory
  m = start s.cells s.states

  abbrev z : Sizes
  z = v.tape.book.sizes

  pub replays_as_recorded : (R : Replayer) (store cells : List ℕ) (states : List (List ℕ)) → SameStart z s v.tape.store store cells states →
      ReplaysAsRecorded next after text z s rec.arcs R store cells states
  replays_as_recorded R store cells states g =
      let a = recordings_open meets K v r s f o rec R store cells states g in
      let opened = (reopened R z (length states) (length cells) store).replayer in
      let rp = replay_agrees_with meets bounded K (λ c. c) s.cells s.states s.turns rec.tracks.accepted v.tape.numbers rec.arcs rec.tracks.recording in
      let enough = leb-true z.cores (length states) (and_parts (leb z.cores (length states)) _ (and_parts (fits (length store) z) _ g.ready).1).0 in
      let here : length s.states ≡ z.cores = sym (ap length g.same_states) ∙ length-take-le z.cores states enough in
      let size : length s.states ≡ opened.sizes.cores = here ∙ ap (λ y. y.cores) (sym a.1) in
      record {
        opens = a.0;
        replied = λ js.
            replied next after text s.cells s.states s.turns rec.arcs store rec.tracks.accepted rp js (session 0 opened cells states) [] size (record { matches = a.2; carried = omega arith })
            ∙ ap (λ P. replies P (outcomes K m s.turns) (plain K m s.turns).counts rec.arcs m.counts js) here;
        never_stuck = λ js.
            subst (λ P. (k : ℕ) → let d = dones P (outcomes K m s.turns) (plain K m s.turns).counts rec.arcs m.counts js in
            get_or d k 0 < get_or (plain K m s.turns).counts k 0 → (j : ℕ) × (get_or d j 0 < get_or (plain K m s.turns).counts j 0) × (counted (reply P (outcomes K m s.turns) (plain K m s.turns).counts rec.arcs d j) ≡ 1)) here
            (never_stuck next after text s.cells s.states s.turns rec.arcs store rec.tracks.accepted rp js (session 0 opened cells states) [] size (record { matches = a.2; carried = omega arith }));
        left_by = λ js.
            let t = walked next after text store (session 0 opened cells states) js in
            let d = dones_are next after text s.cells s.states s.turns rec.arcs store rec.tracks.accepted rp js (session 0 opened cells states) [] size (record { matches = a.2; carried = omega arith }) in
            let d' = ap (λ P. dones P (outcomes K m s.turns) (plain K m s.turns).counts rec.arcs m.counts js) (sym here) ∙ d in
            subst (λ c. ReplayState K m s.turns c t.cells t.states) (sym d') (steps_agree next after text m s.turns rec.arcs store rp opened cells states size a.2 js).leaves;
        steps = steps_agree next after text m s.turns rec.arcs store rp opened cells states size a.2;
        calls = λ b c. calls_agree next after text m s.turns rec.arcs store rp (stage opened cells states) b (record { steps = []; matches = a.2; size = size }) c;
      }

  pub logs_hold : LogsHold z r.old v.tape.store (plain K m s.turns).counts rec.arcs
  logs_hold k h =
      let counted = rec.tracks.counts k h in
      let bytes = held_bytes k h in
      let lawful = o.logs k h in
      let body = body_of k rec.arcs in (
        record {
          lawful = subst (Body (heading_of z k)) (rec.logs k) lawful.lawful;
          reached = subst (λ n. AllByRecursion (λ a. a.target ≤ n) (arcs_in body)) counted (subst (λ x. AllByRecursion (λ a. a.target ≤ (log_in v.tape.book k).instructions) (arcs_in x)) (rec.logs k) lawful.reached);
          rest = drop (length (written (whole (heading_of z k) body (get_or (plain K m s.turns).counts k 0)))) (log_of r.old z k);
          bytes = bytes;
        },
        bytes,
      )
    where
      held_bytes : (k : ℕ) → k < z.cores → let whole-log = written (whole (heading_of z k) (body_of k rec.arcs) (get_or (plain K m s.turns).counts k 0)) in
          log_of v.tape.store z k ≡ whole-log ++ drop (length whole-log) (log_of r.old z k)
      held_bytes k h = log_holds z k (log_in v.tape.book k) (log_of v.tape.store z k) (log_of r.old z k) (r.bodies k) (body_of k rec.arcs) (get_or (plain K m s.turns).counts k 0) (f.logs k h) (rec.logs k) (rec.tracks.counts k h)

pub no_dropped_ordering_was_needed : (meets : Meets) → Bounded meets → (next : List ℕ → List ℕ → Request) (after : List ℕ → List ℕ → ℕ → List ℕ) (text : List ℕ) → NoDroppedOrderingWasNeeded meets next after text
no_dropped_ordering_was_needed meets bounded next after text w v es t new =
    let K = rules next after text in
    let r₀ = traced.opened no_sizes w in
    let r = traced.recording_after t r₀ in
    let s = recorded.session_after t (recorded.opened no_sizes w) in
    let b = ap (λ (t : Tape). t.book) new in
    let h = ap (λ (t : Tape). t.history) new in
    let f₀ = new_is_faithful w b in
    let f = traces_are_faithful meets K w v es r₀ t f₀ in
    let o = traces_are_orderly meets K w v es r₀ t f₀ (new_is_orderly w b h) in
    let rec = traces_are_recorded meets K w v es r₀ (recorded.opened no_sizes w) t (new_has_recorded_nothing meets K w b h (ap (λ (t : Tape). t.numbers) new)) in
    record {
      arcs = rec.arcs;
      accepted = rec.tracks.accepted;
      recording = rec.tracks.recording;
      logged = arcs_logged meets (run_of K (start s.cells s.states) s.turns) v.tape.numbers rec.arcs rec.tracks.recording;
      decided = λ F one.
          let p = choice_is_recorded meets F one (run_of K (start s.cells s.states) s.turns) v.tape.numbers rec.arcs rec.tracks.recording in
          (p.1, p.0);
      cells = rec.tracks.cells;
      states = rec.tracks.states;
      logs = logs_hold meets bounded next after text v r s f o rec;
      turns = λ j x T. turns_go_by_the_rules meets K v r s j x f rec T;
      replays = replays_as_recorded meets bounded next after text v r s f o rec;
    }
