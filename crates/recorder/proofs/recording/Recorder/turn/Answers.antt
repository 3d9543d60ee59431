-- Each way of a turn gives the outcome that is defined, and touches no other core.
use Rattle.std.proofs.Common.{◌+◌, ◌<◌, drop, length, set, sym, ap, ◌∙◌, arith}
use Rattle.std.proofs.lemmas.Result.{err_from_is_err_and}
use Rattle.cores.proofs.OneCore.{here, tells, others_kept}
use Rattle.cores.proofs.Requests.{same_request}
use Rattle.cores.proofs.Surplus.{stored_surplus, drop_further}
use Rattle.records.proofs.Settling.{cores_of}
use Rattle.recorder.specs.Refusals.{book}
use Rattle.recorder.specs.Turns.{tape}
use Rattle.recorder.proofs.Passing.{settled_parts, unbarred}
use Rattle.recorder.proofs.Ways.{unsettled, no_core, barred_out, done}
use Rattle.recorder.proofs.recording.Recorder.turn.Goals as goal

pub returns-then-not-held_by-clause-outcome : goal.returns-then-not-held_by-clause-outcome
returns-then-not-held_by-clause-outcome g c =
    unsettled g.K.Core.state g.R.Reducer.meets g.K.Core.next g.K.Core.after c.args.text.now c.args.cores.now c.args.cells.now
    (tape g.R.Reducer.numbers c.args.self.now c.args.store.now) c.args.j c.if-not-held_by.ensures

pub returns-then-j-get-clause-outcome : goal.returns-then-j-get-clause-outcome
returns-then-j-get-clause-outcome g c =
    no_core g.K.Core.state g.R.Reducer.meets g.K.Core.next g.K.Core.after c.args.text.now c.args.cores.now c.args.cells.now
    (tape g.R.Reducer.numbers c.args.self.now c.args.store.now) c.args.j c.if-not-held_by.ensures (omega (arith, c.if-j-get.true, cores_of c.get.ensures.same))

pub returns-in_err-admit-clause-outcome : goal.returns-in_err-admit-clause-outcome
returns-in_err-admit-clause-outcome g c =
    let a = c.args in
    let inside = settled_parts a.self.now.ledger.sizes (length a.cores.now) (length a.cells.now) (length a.store.now) (sym c.if-not-held_by.ensures) in
    let at = here g.K.Core.state a.text.now a.cores.now a.j (omega (arith, c.if-j-get.false, cores_of c.get.ensures.same, inside.1)) c.index-cores-j.result c.index-cores-j.is in
    let p = err_from_is_err_and c.from_residual.result c.from_residual.ensures.1 in
    rw (p.1, p.2) (barred_out g.K.Core.state g.R.Reducer.meets g.K.Core.next g.K.Core.after a.text.now a.cores.now a.cells.now
    (tape g.R.Reducer.numbers a.self.now a.store.now) a.j c.if-not-held_by.ensures (omega (arith, c.if-j-get.false, cores_of c.get.ensures.same))
    c.ask-request.result (same_request _ _ c.ask-request.ensures ∙ ap (g.K.Core.next a.text.now) (sym at)) c.in_err-admit.field-0.0 c.in_err-admit.ensures)

pub returns-clause-outcome : goal.returns-clause-outcome
returns-clause-outcome g c =
    let a = c.args in
    let parts = settled_parts a.self.now.ledger.sizes (length a.cores.now) (length a.cells.now) (length a.store.now) (sym c.if-not-held_by.ensures) in
    let inside : a.j < length a.cores.now = omega (arith, c.if-j-get.false, cores_of c.get.ensures.same, parts.1) in
    let at = here g.K.Core.state a.text.now a.cores.now a.j inside c.index-cores-j.result c.index-cores-j.is in
    done g.K.Core.state g.R.Reducer.meets g.K.Core.next g.K.Core.after a.text.now a.cores.now a.cells.now
    (tape g.R.Reducer.numbers a.self.now a.store.now) a.j c.if-not-held_by.ensures (omega (arith, c.if-j-get.false, cores_of c.get.ensures.same))
    c.ask-request.result (same_request _ _ c.ask-request.ensures ∙ ap (g.K.Core.next a.text.now) (sym at)) c.in_ok-admit.ensures
    c.enter-count.result.0 c.enter-count.ensures.count c.enter-count.result.1 (tape g.R.Reducer.numbers c.enter-count.new.self c.enter-count.new.store) c.enter-count.ensures.entered
    c.carry_out-number.result c.carry_out-number.new.cells c.carry_out-number.ensures.brings c.carry_out-number.ensures.stores
    (set a.cores.now a.j c.carry_out-number.new.core) (tells g.K.Core.state a.text.now a.cores.now a.j g.K.Core.after c.carry_out-number.result inside c.index-cores-j.result c.index-cores-j.is c.carry_out-number.new.core c.carry_out-number.ensures.tells)

pub returns-clause-others : goal.returns-clause-others
returns-clause-others g c = others_kept c.args.cores.now c.args.j c.carry_out-number.new.core

pub returns-clause-surplus : goal.returns-clause-surplus
returns-clause-surplus g c =
    let a = c.args in
    let z = a.self.now.ledger.sizes in
    let inside = (unbarred (book a.self.now.ledger) a.j c.ask-request.result (sym c.in_ok-admit.ensures)).inside in (
      drop_further (a.j + 1) z.cores (set a.cores.now a.j c.carry_out-number.new.core) a.cores.now (omega (arith, c.if-j-get.false, cores_of c.get.ensures.same)) (others_kept a.cores.now a.j c.carry_out-number.new.core).1,
      ap (drop z.cells) c.carry_out-number.ensures.stores ∙ stored_surplus c.ask-request.result z.cells a.cells.now inside,
    )
