-- Turns in a row of a recorder go by the rules over the plain memory.
use Rattle.std.proofs.Common.{◌≡◌, ℕ, ◌+◌, ◌-◌, true, cond, not, ◌≢◌, List, [], ◌∷◌, length, get_or, take, set, sym, refl, ap, ◌∙◌, subst, inl, inr, arith}
use Rattle.std.proofs.lemmas.Bool.{cases_eq, ne_eqb}
use Rattle.cores.specs.Memory.{Rules, Memory, plain, start, brought, stored}
use Rattle.records.specs.Format.{LogArc}
use Rattle.records.specs.Settings.{settled}
use Rattle.records.specs.declared.settings.Sizes.{Sizes}
use Rattle.recorder.specs.Refusals.{log_in}
use Rattle.recorder.specs.Turns.{World, world, Answered, answered, Turned, asks, ready, refusal, entered, new_arcs, done_said, fresh_tape, headed_from}
use Rattle.reducers.specs.Numbers.{Meets}
use Rattle.runs.specs.Recording.{Arc, arc}
use Rattle.runs.specs.Runs.{Instr, next}
use Rattle.traces.proofs.Recordings.{traces_are_faithful}
use Rattle.traces.proofs.Steps.{refused_turn, accepted_turn}
use Rattle.traces.specs.Recording as traced
use Rattle.traces.specs.Recording.{Faithful}
use Rattle.traces.specs.Trace.{Trace, turns, took, refused}
use Rattle.traces.specs.Trace.{Event as Call}
use Rattle.recordings.specs.ByTheRules.{next_event, plainly_said, ByTheRules, TurnGoes, TurnsGoByTheRules, InARow}
use Rattle.recordings.specs.ByTheRules as rules
use Rattle.recordings.specs.Refused.{turn_refusal}
use Rattle.recordings.specs.Sessions.{Session, Records}
use Rattle.recordings.specs.Tracks.{run_of, logged, Tracks, logs_of, body_of}
use Rattle.recordings.proofs.Recording.{goes_logging, goes_tracking, count_said}
use Rattle.recordings.proofs.Refused.{refusals_are_plain}
use Rattle.recordings.proofs.Sessions.{begins_tracking, logs_step, arcs_to_next}
use Rattle.recordings.proofs.Tracking as now
use Rattle.recorder.proofs.Passing.{passed}

-- the account of turns in a row: they went by the rules, and the recorder tracks the plain memory with the arcs that they logged
pub record Account (meets : Meets) (K : Rules) (z : Sizes) (cells : List ℕ) (states : List (List ℕ)) (js : List ℕ) (says : List (List ℕ)) (v : World) (r : traced.Recording) : Type 0 where
  pub turns : List ℕ
  pub arcs : List Arc
  pub rules : ByTheRules meets K z (start cells states) js says turns v.tape.numbers arcs
  pub tracks : Tracks meets K z (start cells states) turns arcs v
  pub logs : (k : ℕ) → r.bodies k ≡ body_of k arcs
  pub settles : ready v ≡ true

-- the calls of turns in a row, on top of earlier ones
abbrev pub calls_with : {meets : Meets} {K : Rules} {w v : World} {js : List ℕ} {says : List (List ℕ)} → InARow meets K w js says v → List Call → List Call
calls_with rules.none es = es
calls_with (rules.then c j o f _ _ _) es = took j o.says ∷ calls_with c es

abbrev pub trace_with : {meets : Meets} {K : Rules} {w₀ w v : World} {es : List Call} {js : List ℕ} {says : List (List ℕ)} →
    Trace meets K w₀ es w → (c : InARow meets K w js says v) → Trace meets K w₀ (calls_with c es) v
trace_with t rules.none = t
trace_with t (rules.then c j o f _ _ _) = turns (trace_with t c) j o f

-- as many arcs more as were logged
many_logged : (y : Instr) (more : List LogArc) (L : List Arc) → length (logged y more L) ≡ length more + length L
many_logged y [] L = omega arith
many_logged y (a ∷ more) L =
    let h = many_logged y more (arc (record { core = a.source; count = a.count }) y ∷ L) in omega (arith, h)

module _ (meets : Meets) (K : Rules) (v : World) (r : traced.Recording) (s : Session) (f : Faithful v r) (rec : Records meets K v r s) (j : ℕ) where
  abbrev z : Sizes
  z = v.tape.book.sizes

  abbrev m : Memory
  m = start s.cells s.states

  abbrev u : List ℕ
  u = s.turns

  abbrev L : List Arc
  L = rec.arcs

  abbrev by_rule : ℕ
  by_rule = turn_refusal K z (ready v) (plain K m u) (logs_of j L) j

  refusal_is : refusal K j v ≡ by_rule
  refusal_is = refusals_are_plain meets K v r s j f rec

  module _ (o : Answered) (T : Turned meets K j v o) (ok : refusal K j v ≡ 0) where
    abbrev more : List LogArc
    more = new_arcs v.tape j (asks K j v) T.trail

    abbrev later : List Arc
    later = logged (next (run_of K m u) (next_event K m u j)) more L

    logs_more : rules.Logs meets (run_of K m u) (next_event K m u j) v.tape.numbers L T.last later
    logs_more = (goes_logging meets K z s.cells s.states u L v rec.tracks j (passed K j v ok) T.trail T.last (T.within ok)).0

    -- what an accepted turn says is the plain memory's
    said_plainly : done_said (asks K j v) ((log_in v.tape.book j).instructions + 1) (brought (asks K j v) v.cells) (length more) ≡ plainly_said K m u j (length later - length L)
    said_plainly =
        let p = passed K j v ok in
        let t = rec.tracks in
        let n : length more ≡ length later - length L = omega (arith, many_logged (next (run_of K m u) (next_event K m u j)) more L) in
        λ i. done_said (sym (now.request_is meets K z s.cells s.states u L v t j p) i) (count_said meets K z s.cells s.states u L v t j p i) (sym (now.number_is meets K z s.cells s.states u L v t j p) i) (n i)

  goes : (o : Answered) → Turned meets K j v o → TurnGoes meets K z (ready v) m u v.tape.numbers L v j o
  goes o T = elim (cases_eq (refusal K j v) 0) [
    | inl ok ↦
        let e = accepted_turn meets K j v o T ok in
        rules.accepts (later o T ok) (sym refusal_is ∙ ok) (subst (λ n. rules.Logs meets (run_of K m u) (next_event K m u j) v.tape.numbers L n (later o T ok)) (sym (ap (λ (x : Answered). x.leaves.tape.numbers) e)) (logs_more o T ok))
        (ap (λ (x : Answered). x.says) e ∙ said_plainly o T ok)
    | inr never ↦ rules.refuses (λ q. never (refusal_is ∙ q)) (refused_turn meets K j v o T never ∙ ap (λ n. answered (n ∷ []) v) refusal_is)
  ]

pub turns_go_by_the_rules : (meets : Meets) → TurnsGoByTheRules meets
turns_go_by_the_rules meets K w r s j o f rec T = goes meets K w r s f rec j o T

-- one turn more in an account
module _ (meets : Meets) (K : Rules) (z : Sizes) (cs : List ℕ) (ss : List (List ℕ)) (js : List ℕ) (says : List (List ℕ)) (v : World) (r : traced.Recording) (f : Faithful v r) (a : Account meets K z cs ss js says v r) (j : ℕ) where
  abbrev own : Session
  own = record { cells = cs; states = ss; turns = a.turns }

  unfoldable records : Records meets K v r own
  records = record { arcs = a.arcs; tracks = subst (λ y. Tracks meets K y (start cs ss) a.turns a.arcs v) (sym a.tracks.sizes) a.tracks; logs = a.logs }

  abbrev now_refused : ℕ
  now_refused = turn_refusal K z true (plain K (start cs ss) a.turns) (logs_of j a.arcs) j

  now_refused_is : refusal K j v ≡ now_refused
  unfolding records
  now_refused_is =
      refusals_are_plain meets K v r own j f records
      ∙ (λ i. turn_refusal K (a.tracks.sizes i) (a.settles i) (plain K (start cs ss) a.turns) (logs_of j a.arcs) j)

  module _ (o : Answered) (T : Turned meets K j v o) where
    abbrev extended_by : traced.Recording
    extended_by = traced.extended K r j (new_arcs v.tape j (asks K j v) T.trail)

    abbrev GoesOn : Answered → Type 0
    GoesOn x = Account meets K z cs ss (j ∷ js) (x.says ∷ says) x.leaves (cond (refused x.says) r extended_by)

    refused_account : refusal K j v ≢ 0 → GoesOn o
    refused_account never =
        let said : refused (refusal K j v ∷ []) ≡ true = ap not (ne_eqb (refusal K j v) 0 never) in
        subst GoesOn (sym (refused_turn meets K j v o T never))
        (record {
          turns = a.turns;
          arcs = a.arcs;
          rules = subst (λ n. ByTheRules meets K z (start cs ss) (j ∷ js) ((n ∷ []) ∷ says) a.turns v.tape.numbers a.arcs) (sym now_refused_is) (rules.refuses a.rules j (λ q. never (now_refused_is ∙ q)));
          tracks = a.tracks;
          logs = subst (λ b. (k : ℕ) → (cond b r extended_by).bodies k ≡ body_of k a.arcs) (sym said) a.logs;
          settles = a.settles;
        })

    accepted_account : ready o.leaves ≡ true → refusal K j v ≡ 0 → GoesOn o
    unfolding records
    accepted_account room ok =
        let e = accepted_turn meets K j v o T ok in
        let y = v.tape.book.sizes in
        let p = passed K j v ok in
        let t = records.tracks in
        let arcs = later meets K v r own f records j o T ok in
        let more = new_arcs v.tape j (asks K j v) T.trail in
        let at = next (run_of K (start cs ss) a.turns) (next_event K (start cs ss) a.turns j) in
        let request = asks K j v in
        let left : World = world (entered v.tape j request T.trail T.last) (stored request v.cells) (set v.states j (K.after (get_or v.states j []) (brought request v.cells))) in
        subst GoesOn (sym e)
        (record {
          turns = j ∷ a.turns;
          arcs = arcs;
          rules = subst (λ x. ByTheRules meets K z (start cs ss) (j ∷ js) (x ∷ says) (j ∷ a.turns) T.last arcs) (sym (said_plainly meets K v r own f records j o T ok)) (rules.accepts a.rules j (sym now_refused_is ∙ ok) (logs_more meets K v r own f records j o T ok));
          tracks = subst (λ x. Tracks meets K x (start cs ss) (j ∷ a.turns) arcs left) a.tracks.sizes (goes_tracking meets K y cs ss a.turns a.arcs v t j p T.trail T.last (T.within ok));
          logs = λ k. logs_step meets K j k at more (r.bodies k) a.arcs refl (arcs_to_next meets K y cs ss a.turns a.arcs v t j p T.trail) (a.logs k);
          settles = subst (λ (x : Answered). ready x.leaves ≡ true) e room;
        })

    pub goes_on : ready o.leaves ≡ true → GoesOn o
    goes_on room = elim (cases_eq (refusal K j v) 0) [ inl ok ↦ accepted_account room ok | inr never ↦ refused_account never ]

-- a turn keeps the sizes
pub turn_sizes : (meets : Meets) (K : Rules) (j : ℕ) (v : World) (o : Answered) → Turned meets K j v o → o.leaves.tape.book.sizes ≡ v.tape.book.sizes
turn_sizes meets K j v o T = elim (cases_eq (refusal K j v) 0) [
  | inl ok ↦ ap (λ (x : Answered). x.leaves.tape.book.sizes) (accepted_turn meets K j v o T ok)
  | inr never ↦ ap (λ (x : Answered). x.leaves.tape.book.sizes) (refused_turn meets K j v o T never)
]

-- what begin leaves has an account of no turns
begin_account : (meets : Meets) (K : Rules) (z : Sizes) (w : World) →
    let b : World = world (fresh_tape z (headed_from z z.cores 0 w.tape.store)) w.cells w.states in
    ready b ≡ true → Account meets K z (take z.cells w.cells) (take z.cores w.states) [] [] b (traced.opened z w)
begin_account meets K z w room =
    record { turns = []; arcs = []; rules = rules.none; tracks = begins_tracking meets K z w; logs = λ k. refl; settles = room }

-- from the begin on, turns in a row have an account
pub rows_have_accounts :
    (meets : Meets)
    (K : Rules) (z : Sizes) (w₀ v : World) (r₀ : traced.Recording) (es : List Call) (js : List ℕ) (says : List (List ℕ)) → Faithful w₀ r₀ →
    let b : World = world (fresh_tape z (headed_from z z.cores 0 w₀.tape.store)) w₀.cells w₀.states in
    ready b ≡ true → (t : Trace meets K w₀ es b) → traced.recording_after t r₀ ≡ traced.opened z w₀ → (c : InARow meets K b js says v) →
    Account meets K z (take z.cells w₀.cells) (take z.cores w₀.states) js says v (traced.recording_after (trace_with t c) r₀)
rows_have_accounts meets K z w₀ v r₀ es js says f₀ room t e rules.none =
    subst (Account meets K z (take z.cells w₀.cells) (take z.cores w₀.states) [] [] v) (sym e) (begin_account meets K z w₀ room)
rows_have_accounts meets K z w₀ v r₀ es js says f₀ room t e (rules.then {js = ks} {says = past} {v = x} c j o T cells states store) =
    let a = rows_have_accounts meets K z w₀ x r₀ es ks past f₀ room t e c in
    let f = traces_are_faithful meets K w₀ x (calls_with c es) r₀ (trace_with t c) f₀ in
    goes_on meets K z (take z.cells w₀.cells) (take z.cores w₀.states) ks past x (traced.recording_after (trace_with t c) r₀) f a j o T
    ((λ i. settled (turn_sizes meets K j x o T i) (states i) (cells i) (store i)) ∙ a.settles)
