-- In each round, the walk from where the reader stands, with the counts kept so far, gives what the whole walk gives.
use Rattle.std.proofs.Common.{Ok, Err, sym, ap, ◌∙◌}
use Rattle.std.proofs.lemmas.Result.{err_from_is_err_and}
use Rattle.records.specs.Faults.{record_fault}
use Rattle.records.specs.Format.{entry}
use Rattle.records.specs.Reading.{view, said}
use Rattle.logs.specs.Walk.{look, held_as}
use Rattle.logs.proofs.Going.{reading_starts, look_fits, round_less, round_again, round_fault, round_none}
use Rattle.logs.proofs.Sources.{gives}
use Rattle.logs.proofs.session.read_through.Goals as goal

pub loop-record-init : goal.loop-record-init
loop-record-init c = reading_starts (gives c.args.largest.now) (view c.args.from)

pub returns-in_err-record : goal.returns-in_err-record
returns-in_err-record c =
    let p = err_from_is_err_and c.from_residual.result c.from_residual.ensures.1 in
    let q =
    round_fault look look_fits (view c.loop-record.reader) (view c.next_record.new.self) (said c.next_record.result) c.next_record.ensures
    (gives c.loop-record.largest) _ c.loop-record.invariant (record_fault c.in_err-record.field-0.0) (ap said c.in_err-record.was) in
    record { verdict = ap held_as (p.1 ∙ ap Err p.2) ∙ ap (λ x. x.0) q; kept = ap (λ x. x.1) q }

pub loop-record-smaller : goal.loop-record-smaller
loop-record-smaller c =
    round_less look look_fits (view c.loop-record.reader) (view c.next_record.new.self) (said c.next_record.result) c.next_record.ensures
    (entry c.in-Some.record) (ap said (c.in_ok-record.was ∙ ap Ok c.in-Some.is))

pub loop-record-preserved : goal.loop-record-preserved
loop-record-preserved c =
    round_again look look_fits (view c.loop-record.reader) (view c.next_record.new.self) (said c.next_record.result) c.next_record.ensures
    (gives c.loop-record.largest) _ c.loop-record.invariant (entry c.in-Some.record) (ap said (c.in_ok-record.was ∙ ap Ok c.in-Some.is))
    (gives c.keep_largest.new.largest) (λ x. ap (λ l. gives l x) (sym c.keep_largest.ensures))

pub returns : goal.returns
returns c =
    let q =
    round_none look look_fits (view c.loop-record.reader) (view c.next_record.new.self) (said c.next_record.result) c.next_record.ensures
    (gives c.loop-record.largest) _ c.loop-record.invariant (ap said (c.in_ok-record.was ∙ ap Ok c.in_default.is)) in
    record { verdict = ap Ok c.instructions.ensures ∙ ap (λ x. x.0) q; kept = ap (λ x. x.1) q }
