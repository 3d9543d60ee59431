-- In each round, the walk from where the reader stands gives what the whole walk gives.
use Rattle.std.proofs.Common.{Ok, Err, refl, ap, ◌∙◌}
use Rattle.std.proofs.lemmas.Result.{err_from_is_err_and}
use Rattle.records.specs.Faults.{session_fault}
use Rattle.records.specs.Format.{entry}
use Rattle.records.specs.Reading.{view, held_said}
use Rattle.logs.specs.Walk.{look_held, held_as}
use Rattle.logs.proofs.Going.{holding_starts, held_look_fits, round_less, round_again, round_fault, round_none}
use Rattle.logs.proofs.session.hold_through.Goals as goal

pub loop-init : goal.loop-init
loop-init c = holding_starts (λ x. x.verdict) c.args.counts.now (view c.args.from)

pub returns-in_err-next_held : goal.returns-in_err-next_held
returns-in_err-next_held c =
    let p = err_from_is_err_and c.from_residual.result c.from_residual.ensures.1 in
    ap held_as (p.1 ∙ ap Err p.2)
    ∙ round_fault (look_held c.args.counts.now) (held_look_fits c.args.counts.now) (view c.loop.reader) (view c.next_held.new.self) (held_said c.next_held.result) c.next_held.ensures
    (λ x. x.verdict) _ c.loop.invariant (session_fault c.in_err-next_held.field-0.0) (ap held_said c.in_err-next_held.was)

pub loop-smaller : goal.loop-smaller
loop-smaller c =
    round_less (look_held c.args.counts.now) (held_look_fits c.args.counts.now) (view c.loop.reader) (view c.next_held.new.self) (held_said c.next_held.result) c.next_held.ensures
    (entry c.in-Some.field-0) (ap held_said (c.in_ok-next_held.was ∙ ap Ok c.in-Some.is))

pub loop-preserved : goal.loop-preserved
loop-preserved c =
    round_again (look_held c.args.counts.now) (held_look_fits c.args.counts.now) (view c.loop.reader) (view c.next_held.new.self) (held_said c.next_held.result) c.next_held.ensures
    (λ x. x.verdict) _ c.loop.invariant (entry c.in-Some.field-0) (ap held_said (c.in_ok-next_held.was ∙ ap Ok c.in-Some.is)) (λ x. x.verdict) (λ x. refl)

pub returns : goal.returns
returns c =
    ap Ok c.instructions.ensures
    ∙ round_none (look_held c.args.counts.now) (held_look_fits c.args.counts.now) (view c.loop.reader) (view c.next_held.new.self) (held_said c.next_held.result) c.next_held.ensures
    (λ x. x.verdict) _ c.loop.invariant (ap held_said (c.in_ok-next_held.was ∙ ap Ok c.in_default.is))
