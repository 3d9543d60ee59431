-- Where the buffers hold, begin refuses nothing, and the session is a whole one.
use Rattle.std.proofs.Common.{◌≡◌, ◌≤◌, ◌&&◌, map, reverse, length, vec_items, vec_len, vec_capacity, sym, refl, ap, ◌∙◌, subst, arith}
use Rattle.std.proofs.lemmas.List.{length-map, length-take, take-map, drop-map}
use Rattle.std.proofs.lemmas.Bool.{and_from}
use Rattle.cores.specs.Memory.{rules}
use Rattle.records.specs.Settings.{can_begin, SurplusKept}
use Rattle.recorder.specs.Turns.{Tape, tape, world, scene, said, Begun, fresh_tape, headed_from}
use Rattle.recordings.specs.ByTheRules.{InARow}
use Rattle.sessions.specs.Replaying.{first_opening, said_by_steps, behind_steps, run_behind}
use Rattle.sessions.specs.Space.{suffices}
use Rattle.traces.proofs.Recordings.{begun_done}
use Rattle.sessions.proofs.Spaces.{room_for, empty, neither, not_refused}
use Rattle.sessions.proofs.Wholes as wholes
use Rattle.sessions.proofs.session.record_and_replay.Goals as goal
use Rattle.sessions.proofs.session.record_and_replay.Goals.{then-not-can_begin-via-then-not-can_begin, then-not-can_begin-via-else-not-can_begin+then-not-suffices}

pub returns-then-not-can_begin-clause-outcome : goal.returns-then-not-can_begin-clause-outcome
returns-then-not-can_begin-clause-outcome g c =
    let a = c.args in
    let s = g.K.Core.state in
    let enough = suffices a.buffers a.sizes (length a.turns.now) (length a.steps.now) in
    let same = ap (λ k. can_begin a.sizes k (length a.cells.now) (length a.store.now) && enough) (length-map a.cores.now s) in (
      elim c.then-not-can_begin.branch [
        | then-not-can_begin-via-then-not-can_begin w ↦ same ∙ ap (λ b. b && enough) (sym w.if-not-can_begin.ensures)
        | then-not-can_begin-via-else-not-can_begin+then-not-suffices w ↦ neither _ enough (sym w.if-not-suffices.ensures)
      ],
      refl,
      refl,
      refl,
      refl,
    )

pub unwrap-requires : goal.unwrap-requires
unwrap-requires g c =
    let a = c.args in
    let n = g.R.Reducer.numbers in
    not_refused c.begin.result (ap (λ (x : Begun). x.says) (c.begin.ensures.outcome ∙ begun_done a.sizes (length a.cores.now) (length a.cells.now) (tape n c.new-recorder.result a.store.now) (sym c.if-not-can_begin.ensures)))

pub record-requires : goal.record-requires
record-requires g c =
    let a = c.args in
    let b = a.buffers in
    let fit = room_for b a.sizes (length a.turns.now) (length a.steps.now) (sym c.if-not-suffices.ensures) in
    (empty (vec_items b.room.turns) (sym b.room.turns.ok.0 ∙ b.no_turns), fit.turns_fit)

pub replay-requires : goal.replay-requires
replay-requires g c =
    let a = c.args in
    let z = a.sizes in
    let b = a.buffers in
    let fit = room_for b z (length a.turns.now) (length a.steps.now) (sym c.if-not-suffices.ensures) in
    let kept = c.record.ensures.others in
    let now = c.record.new.self in
    let cells : vec_len now.cells ≤ z.cells = let n = ap vec_len kept.3 ∙ c.fill.new.to.ok.0 ∙ ap length c.fill.ensures in let k = length-take z.cells a.cells.now in omega (arith, n, k) in
    let cores : vec_len now.cores ≤ z.cores = let n = ap vec_len kept.4 ∙ c.fill-2.new.to.ok.0 ∙ ap length c.fill-2.ensures in let k = length-take z.cores a.cores.now in omega (arith, n, k) in
    record {
      answers = (ap vec_items kept.0 ∙ empty (vec_items b.room.steps) (sym b.room.steps.ok.0 ∙ b.no_steps), (let q = ap vec_capacity kept.0 in omega (arith, fit.steps_fit, q)));
      cells = (ap vec_len kept.1 ∙ b.no_stepped_cells, (let q = ap vec_capacity kept.1 in omega (arith, fit.stepped_cells_fit, q, cells)));
      cores = (ap vec_len kept.2 ∙ b.no_stepped_cores, (let q = ap vec_capacity kept.2 in omega (arith, fit.stepped_cores_fit, q, cores)));
    }

pub returns : goal.returns
returns g c =
    let a = c.args in
    let n = g.R.Reducer.numbers in
    let s = g.K.Core.state in
    let meets = g.R.Reducer.meets in
    let next = g.K.Core.next in
    let after = g.K.Core.after in
    let text = a.text.now in
    let z = a.sizes in
    let cores = a.cores.now in
    let cells = a.cells.now in
    let store = a.store.now in
    let turns = a.turns.now in
    let steps = a.steps.now in
    let t = c.record.new in
    let w = scene n s c.new-recorder.result cores cells store in
    let v = scene n s t.recorder t.cores t.cells t.store in
    let answers = map said (vec_items t.self.turns) in
    let ok = ap (λ k. can_begin z k (length cells) (length store)) (length-map cores s) ∙ sym c.if-not-can_begin.ensures in
    let new = ap (λ (x : Tape). record { store = store; book = x.book; history = x.history; numbers = x.numbers }) c.new-recorder.ensures in
    let began : tape n c.begin.new.self c.begin.new.store ≡ fresh_tape z (headed_from z z.cores 0 store) =
    ap (λ (x : Begun). x.leaves) (c.begin.ensures.outcome ∙ begun_done z (length cores) (length cells) w.tape (sym c.if-not-can_begin.ensures)) in
    let long : length (headed_from z z.cores 0 store) ≡ length store =
    ap (λ (x : Tape). length x.store) (sym began) ∙ (let k : length c.begin.new.store ≡ length store = omega arith in k) in
    let row = subst (λ (x : Tape). InARow meets (rules next after text) (world x cells (map s cores)) (reverse turns) (reverse answers) v) began c.record.ensures.row in
    let e = c.replay.ensures in
    let sizes = ap (λ (x : Tape). x.book.sizes) began in
    let beyond = subst (λ y. SurplusKept y cores t.cores cells t.cells) sizes c.record.ensures.surplus in
    let states = drop-map s z.cores t.cores ∙ ap (map s) beyond.0 ∙ sym (drop-map s z.cores cores) in
    let kept = c.record.ensures.others in
    let first_cells = ap vec_items kept.3 ∙ c.fill.ensures in
    let first_states = ap (λ y. map s (vec_items y)) kept.4 ∙ ap (map s) c.fill-2.ensures ∙ sym (take-map s z.cores cores) in
    let many_states = sym (length-map _ s) ∙ ap length first_states in
    record {
      outcome = (
        and_from _ _ ok (sym c.if-not-suffices.ensures),
        wholes.whole meets g.met.R.Reducer.bounded next after text z w v new turns steps answers ok long row e.octets beyond.1 states _ (ap (λ y. map said (vec_items y)) e.turns.0)
            (ap n e.turns.1 ∙ c.into_reducer.ensures)
            (e.opened ∙ (λ i. (first_opening z (first_cells i) (first_states i) t.store).says))
            (e.said ∙ (λ i. said_by_steps next after text t.store z (first_cells i) (first_states i) steps))
            (e.stepped_cells ∙ (λ i. (behind_steps next after text t.store z (first_cells i) (first_states i) steps).cells))
            (e.stepped_states ∙ (λ i. (behind_steps next after text t.store z (first_cells i) (first_states i) steps).states))
            (e.stepped_lengths.0 ∙ ap length first_cells)
            (length-map _ s ∙ e.stepped_lengths.1 ∙ many_states)
            (e.ended ∙ (λ i. (run_behind next after text t.store z (first_cells i) (first_states i) steps).says))
            (e.cells ∙ (λ i. (run_behind next after text t.store z (first_cells i) (first_states i) steps).cells))
            (e.states ∙ (λ i. (run_behind next after text t.store z (first_cells i) (first_states i) steps).states))
            (e.lengths.0 ∙ ap length first_cells)
            (length-map _ s ∙ e.lengths.1 ∙ many_states),
      );
      others = beyond.0;
    }
