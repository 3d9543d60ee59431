-- Turns in a row from the begin of a new recorder, and a replay of what they left: a whole session.
use Rattle.std.proofs.Common.{◌≡◌, ℕ, ◌+◌, ◌-◌, ◌<◌, ◌≤◌, Bool, true, false, cond, ◌&&◌, leb, List, [], ◌∷◌, ◌++◌, reverse, length, take, drop, sym, refl, ap, ◌∙◌, subst, arith}
use Rattle.std.proofs.lemmas.List.{take_all, length-take-le, take-append-drop}
use Rattle.std.proofs.lemmas.Bool.{and_parts, and_from, leb-true, le-leb}
use Rattle.std.specs.List.{AllByRecursion}
use Rattle.cores.proofs.Storing.{cells_size, states_size}
use Rattle.cores.specs.Memory.{Rules, rules, Memory, plain, start, outcomes}
use Rattle.cores.specs.declared.interface.Request.{Request}
use Rattle.lawful_logs.proofs.Orderly.{traces_are_orderly, new_is_orderly}
use Rattle.lawful_logs.specs.Orderly.{Orderly}
use Rattle.logs.specs.Session.{no_counts}
use Rattle.records.proofs.Settling.{begins_settled}
use Rattle.records.specs.Settings.{fits, settled, can_begin, no_sizes}
use Rattle.records.specs.declared.settings.Sizes.{Sizes}
use Rattle.recorded_logs.specs.Held.{surplus}
use Rattle.recorder.specs.Turns.{Tape, World, world, fresh_tape, headed_from, new_arcs, asks}
use Rattle.recordings.proofs.ByTheRules.{Account, calls_with, trace_with, rows_have_accounts}
use Rattle.recordings.specs.ByTheRules.{ByTheRules, InARow, none, then}
use Rattle.recordings.specs.Sessions as recorded
use Rattle.recordings.specs.Tracks.{run_of, Tracks}
use Rattle.replayer.specs.Memories.{walked}
use Rattle.replayer.specs.Runs.{Session, one}
use Rattle.replayer.specs.Steps.{Outcome, started}
use Rattle.replays.proofs.Promise.{replays_as_recorded, logs_hold}
use Rattle.replays.specs.Promise.{NewRecorder, SameStart, ReplaysAsRecorded, LogsHold}
use Rattle.replays.specs.Replies.{steps_said, dones, carried_out}
use Rattle.reducers.specs.Numbers.{Meets}
use Rattle.runs.proofs.LoggedArcs.{arcs_logged}
use Rattle.runs.specs.Replay.{ReplayState}
use Rattle.recordings.proofs.Decided.{rules_decide}
use Rattle.recordings.proofs.Feeding.{answers_feed}
use Rattle.runs.specs.Recording.{Arc}
use Rattle.runs.specs.Theorems.{Bounded}
use Rattle.traces.proofs.Recordings.{begun_done, traces_are_faithful, new_is_faithful}
use Rattle.traces.specs.Recording as traced
use Rattle.traces.specs.Trace.{Event, Trace, began, refused}
use Rattle.traces.specs.Trace as trace
use Rattle.sessions.specs.Replaying.{first_opening, said_by_steps, behind_steps, run_behind, at_opening}
use Rattle.sessions.specs.Whole.{buffers, Answers, Whole}

-- turns keep the bytes from the begin
old_kept : {meets : Meets} {K : Rules} {w₀ w v : World} {es : List Event} {js : List ℕ} {says : List (List ℕ)} (r : traced.Recording) (t : Trace meets K w₀ es w) (c : InARow meets K w js says v) →
    (traced.recording_after (trace_with t c) r).old ≡ (traced.recording_after t r).old
old_kept r t none = refl
old_kept {K = K} r t (then {v = x} c j o f _ _ _) =
    same (refused o.says) (traced.recording_after (trace_with t c) r) (traced.extended K (traced.recording_after (trace_with t c) r) j (new_arcs x.tape j (asks K j x) f.trail)) refl ∙ old_kept r t c
  where
    same : (b : Bool) (p q : traced.Recording) → q.old ≡ p.old → (cond b p q).old ≡ p.old
    same true p q e = refl
    same false p q e = e

-- steps carry out as many as their answers tell
walked_carried : (next : List ℕ → List ℕ → Request) (after : List ℕ → List ℕ → ℕ → List ℕ) (text store : List ℕ) (s : Session) (js : List ℕ) →
    (walked next after text store s js).carried ≡ s.carried + carried_out (steps_said next after text store s js)
walked_carried next after text store s [] = omega arith
walked_carried next after text store s (j ∷ js) = let h = walked_carried next after text store (one next after text store s j) js in omega (arith, h)

-- the first part and what lies beyond it are all
parts : {A : Type 0} (n : ℕ) (xs a b : List A) → take n xs ≡ a → drop n xs ≡ b → xs ≡ a ++ b
parts n xs a b p q = sym (take-append-drop n xs) ∙ (λ i. p i ++ q i)

-- what is as long as a part of it is that part
all_of : {A : Type 0} (n : ℕ) (xs a : List A) → take n xs ≡ a → n ≤ length xs → length xs ≡ length a → xs ≡ a
all_of n xs a e h q =
    let l : length a ≡ n = ap length (sym e) ∙ length-take-le n xs h in
    sym (take_all n xs (omega (arith, l, q))) ∙ e

module _ (meets : Meets) (bounded : Bounded meets) (next : List ℕ → List ℕ → Request) (after : List ℕ → List ℕ → ℕ → List ℕ) (text : List ℕ) (z : Sizes)
    (w v : World) (new : NewRecorder w) (turns steps : List ℕ) (says : List (List ℕ))
    (ok : can_begin z (length w.states) (length w.cells) (length w.tape.store) ≡ true)
    (room : length (headed_from z z.cores 0 w.tape.store) ≡ length w.tape.store)
    (row : InARow meets (rules next after text) (world (fresh_tape z (headed_from z z.cores 0 w.tape.store)) w.cells w.states) (reverse turns) (reverse says) v)
    (octets : AllByRecursion (λ b. b < 256) v.tape.store)
    (beyond_cells : drop z.cells v.cells ≡ drop z.cells w.cells) (beyond_states : drop z.cores v.states ≡ drop z.cores w.states) where
  abbrev K : Rules
  K = rules next after text

  abbrev begun_world : World
  begun_world = world (fresh_tape z (headed_from z z.cores 0 w.tape.store)) w.cells w.states

  settles : settled z (length w.states) (length w.cells) (length w.tape.store) ≡ true
  settles = begins_settled z (length w.states) (length w.cells) (length w.tape.store) ok

  abbrev cells₁ : List ℕ
  cells₁ = take z.cells w.cells

  abbrev states₁ : List (List ℕ)
  states₁ = take z.cores w.states

  abbrev store : List ℕ
  store = v.tape.store

  abbrev first : traced.Recording
  first = traced.opened no_sizes w

  abbrev begin_event : Trace meets K w (began z (0 ∷ []) ∷ []) begun_world
  begin_event = trace.begins trace.none z (record { says = 0 ∷ []; leaves = fresh_tape z (headed_from z z.cores 0 w.tape.store) }) (sym (begun_done z (length w.states) (length w.cells) w.tape ok))

  abbrev calls : List Event
  calls = calls_with row (began z (0 ∷ []) ∷ [])

  abbrev all_calls : Trace meets K w calls v
  all_calls = trace_with begin_event row

  abbrev recording : traced.Recording
  recording = traced.recording_after all_calls first

  at_first : traced.Faithful w first
  at_first = new_is_faithful w (ap (λ (t : Tape). t.book) new)

  faithful : traced.Faithful v recording
  faithful = traces_are_faithful meets K w v calls first all_calls at_first

  orderly : Orderly v recording
  orderly = traces_are_orderly meets K w v calls first all_calls at_first (new_is_orderly w (ap (λ (t : Tape). t.book) new) (ap (λ (t : Tape). t.history) new))

  account : Account meets K z cells₁ states₁ (reverse turns) (reverse says) v recording
  account = rows_have_accounts meets K z w v first (began z (0 ∷ []) ∷ []) (reverse turns) (reverse says) at_first (ap (λ n. settled z (length w.states) (length w.cells) n) room ∙ settles) begin_event refl row

  abbrev u : List ℕ
  u = account.turns

  abbrev L : List Arc
  L = account.arcs

  abbrev m : Memory
  m = start cells₁ states₁

  abbrev own : recorded.Session
  own = record { cells = cells₁; states = states₁; turns = u }

  abbrev kept : recorded.Records meets K v recording own
  kept = record { arcs = L; tracks = subst (λ y. Tracks meets K y m u L v) (sym account.tracks.sizes) account.tracks; logs = account.logs }

  sizes : v.tape.book.sizes ≡ z
  sizes = account.tracks.sizes

  stands : (fits (length store) z ≡ true) × ((leb z.cores (length w.states) && leb z.cells (length w.cells)) ≡ true)
  stands = (
    (and_parts (fits (length store) z) _ (ap (λ y. settled y (length v.states) (length v.cells) (length store)) (sym sizes) ∙ account.settles)).0,
    (and_parts (fits (length w.tape.store) z) _ settles).1,
  )

  enough : (z.cores ≤ length w.states) × (z.cells ≤ length w.cells)
  enough =
      let a = and_parts (leb z.cores (length w.states)) (leb z.cells (length w.cells)) stands.1 in
      (leb-true z.cores (length w.states) a.0, leb-true z.cells (length w.cells) a.1)

  many : (length states₁ ≡ z.cores) × (length cells₁ ≡ z.cells)
  many = (length-take-le z.cores w.states enough.0, length-take-le z.cells w.cells enough.1)

  again : SameStart z own store store cells₁ states₁
  again = record {
    same_cells = take_all z.cells cells₁ (omega (arith, many.1));
    same_states = take_all z.cores states₁ (omega (arith, many.0));
    same_bytes = refl;
    octets = octets;
    ready = and_from (fits (length store) z) (leb z.cores (length states₁) && leb z.cells (length cells₁)) stands.0
        (and_from (leb z.cores (length states₁)) (leb z.cells (length cells₁)) (le-leb z.cores (length states₁) (omega (arith, many.0))) (le-leb z.cells (length cells₁) (omega (arith, many.1))));
  }

  replay : ReplaysAsRecorded next after text z own L (started no_sizes no_counts) store cells₁ states₁
  replay =
      subst (λ y. SameStart y own store store cells₁ states₁ → ReplaysAsRecorded next after text y own L (started no_sizes no_counts) store cells₁ states₁) sizes
      (replays_as_recorded meets bounded next after text v recording own faithful orderly kept (started no_sizes no_counts) store cells₁ states₁) again

  -- how the run behind the steps ends
  abbrev run : Outcome
  run = run_behind next after text store z cells₁ states₁ steps

  abbrev last : Memory
  last = plain K m u

  plain_sizes : (length last.states ≡ z.cores) × (length last.cells ≡ z.cells)
  plain_sizes = (states_size K m u ∙ many.0, cells_size K m u ∙ many.1)

  finish : (run.says ≡ 0 ∷ (length u - carried_out (said_by_steps next after text store z cells₁ states₁ steps)) ∷ [])
      × (length run.cells ≡ length cells₁ → run.cells ≡ last.cells) × (length run.states ≡ length states₁ → run.states ≡ last.states)
  finish =
      let f = (replay.steps steps).finishes in
      let y = run.replayer.sizes in
      let carried = walked_carried next after text store (at_opening next after text store z cells₁ states₁) steps in
      let count : (walked next after text store (at_opening next after text store z cells₁ states₁) steps).carried ≡ carried_out (said_by_steps next after text store z cells₁ states₁ steps) = omega (arith, carried) in
      let held = and_parts (leb y.cores (length run.states)) (leb y.cells (length run.cells)) (and_parts (fits (length store) y) _ f.2).1 in (
        f.0 ∙ ap (λ k. 0 ∷ (length u - k) ∷ []) count,
        (λ q. all_of y.cells run.cells last.cells (ap (λ (x : Memory). x.cells) f.1) (leb-true y.cells (length run.cells) held.1) (q ∙ many.1 ∙ sym plain_sizes.1)),
        (λ q. all_of y.cores run.states last.states (ap (λ (x : Memory). x.states) f.1) (leb-true y.cores (length run.states) held.0) (q ∙ many.0 ∙ sym plain_sizes.0)),
      )

  old_is : recording.old ≡ w.tape.store
  old_is = old_kept first begin_event row

  pub whole : (a : Answers) → a.turns ≡ says → a.numbers ≡ v.tape.numbers → a.opened ≡ (first_opening z cells₁ states₁ store).says → a.steps ≡ said_by_steps next after text store z cells₁ states₁ steps →
      a.stepped_cells ≡ (behind_steps next after text store z cells₁ states₁ steps).cells → a.stepped_states ≡ (behind_steps next after text store z cells₁ states₁ steps).states →
      length a.stepped_cells ≡ length cells₁ → length a.stepped_states ≡ length states₁ →
      a.ended ≡ run.says → a.cells ≡ run.cells → a.states ≡ run.states → length a.cells ≡ length cells₁ → length a.states ≡ length states₁ →
      Whole meets K z turns steps (buffers w.cells w.states w.tape.store) (buffers v.cells v.states store) a
  whole a turned numbered opened replied stepped_cells stepped_states many_stepped_cells many_stepped_states ended cells states cells_long states_long =
      let by_rules : ByTheRules meets K z m (reverse turns) (reverse a.turns) u a.numbers L =
      subst (λ ss. ByTheRules meets K z m (reverse turns) (reverse ss) u a.numbers L) (sym turned) (subst (λ N. ByTheRules meets K z m (reverse turns) (reverse says) u N L) (sym numbered) account.rules) in
      let feed = answers_feed meets K z m (reverse turns) (reverse a.turns) u a.numbers L by_rules in
      let logs = logs_hold meets bounded next after text v recording own faithful orderly kept in
      record {
        recorded = record {
          accepted = u;
          arcs = L;
          rules = by_rules;
          not_refused = feed.0;
          fed_answers = feed.1;
          cells = parts z.cells v.cells last.cells _ account.tracks.cells beyond_cells;
          states = parts z.cores v.states last.states _ account.tracks.states beyond_states;
          logs = subst (λ old. LogsHold z old store last.counts L) old_is (subst (λ y. LogsHold y recording.old store last.counts L) sizes logs);
          surplus = subst (λ old. surplus z store ≡ surplus z old) old_is (subst (λ y. surplus y store ≡ surplus y recording.old) sizes faithful.behind);
        };
        logged = arcs_logged meets (run_of K m u) v.tape.numbers L account.tracks.recording;
        decided = λ R one. rules_decide meets R one K z m (reverse turns) (reverse a.turns) u a.numbers L by_rules;
        replayed = record {
          opens = opened ∙ replay.opens;
          replied = replied ∙ replay.replied steps;
          never_stuck = replay.never_stuck;
          stepped = subst (λ c. ReplayState K m u (dones z.cores (outcomes K m u) (plain K m u).counts L m.counts steps) c a.stepped_states) (sym stepped_cells)
              (subst (ReplayState K m u (dones z.cores (outcomes K m u) (plain K m u).counts L m.counts steps) (behind_steps next after text store z cells₁ states₁ steps).cells) (sym stepped_states) (replay.left_by steps));
          as_many = (many_stepped_cells ∙ many.1, many_stepped_states ∙ many.0);
          finishes = ended ∙ finish.0 ∙ ap (λ l. 0 ∷ (length u - carried_out l) ∷ []) (sym replied);
          last_cells = cells ∙ finish.1 (ap length (sym cells) ∙ cells_long);
          last_states = states ∙ finish.2 (ap length (sym states) ∙ states_long);
        };
      }
