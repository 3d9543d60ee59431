use Rattle.std.proofs.Common.{◌≡◌, Err, ap, ◌∙◌}
use Rattle.std.proofs.lemmas.Result.{err_from_is_err_and}
use Rattle.records.specs.Format.{entry}
use Rattle.records.specs.Reading.{passed, follows, seen, seen_as}
use Rattle.records.proofs.Looking.{bytes_bad, record_good}
use Rattle.records.proofs.reading.Reader.peek.Goals as goal
use Rattle.records.proofs.reading.Reader.peek.Goals.{In_ok-record}

-- the record that was read, judged, is what is seen
good : (c : In_ok-record) →
    passed (entry c.in_ok-record.record) (follows c.args.self.now.heading c.args.self.now.state c.args.self.now.cursor (entry c.in_ok-record.record))
    ≡ seen c.args.self.now.heading c.args.self.now.log.now c.args.self.now.cursor c.args.self.now.state
good c =
    let s = c.args.self.now in
    record_good s.heading s.log.now s.cursor s.state c.min-from.result c.in_default.not-After c.min-from.ensures c.in_ok-record.record c.in_ok-record.ensures

pub returns-in_err-record : goal.returns-in_err-record
returns-in_err-record c =
    let s = c.args.self.now in
    let p = err_from_is_err_and c.from_residual.result c.from_residual.ensures.1 in
    ap seen_as (p.1 ∙ ap Err p.2)
    ∙ bytes_bad s.heading s.log.now s.cursor s.state c.min-from.result c.in_default.not-After c.min-from.ensures c.in_err-record.field-0.0 c.in_err-record.ensures

pub returns-in_err-state : goal.returns-in_err-state
returns-in_err-state c =
    let p = err_from_is_err_and c.from_residual-in_err-state.result c.from_residual-in_err-state.ensures.1 in
    ap seen_as (p.1 ∙ ap Err p.2) ∙ ap (passed (entry c.in_ok-record.record)) c.in_err-state.ensures ∙ good (goal.at.returns-in_err-state c).In_ok-record

pub returns : goal.returns
returns c = ap (passed (entry c.in_ok-record.record)) c.in_ok-state.ensures ∙ good (goal.at.returns c).In_ok-record
