use Rattle.std.proofs.Common.{Ok, Err, sym, ap, ◌∙◌, arith}
use Rattle.std.proofs.lemmas.Result.{err_from_is_err_and}
use Rattle.records.specs.Faults.{session_fault}
use Rattle.logs.specs.Session.{done, done_as}
use Rattle.logs.specs.Walk.{holding_from}
use Rattle.logs.proofs.Cores.{read_here, tested_more, tested_fault, tested_all}
use Rattle.logs.proofs.session.hold_logs.Goals as goal

pub returns-in_err-hold_through : goal.returns-in_err-hold_through
returns-in_err-hold_through c =
    let l = c.args.logs in
    let j = c.loop-core.core in
    let p = err_from_is_err_and c.from_residual-in_err-hold_through.result c.from_residual-in_err-hold_through.ensures.1 in
    let f = session_fault c.in_err-hold_through.field-0.0 in
    let q = read_here l.store.now l.sizes j c.in_ok-reader.field-0 c.in_ok-reader.ensures (holding_from c.args.counts.now) (Err f) c.in_err-hold_through.ensures in
    ap done_as (p.1 ∙ ap Err p.2)
    ∙ ap done (sym (tested_fault l.store.now l.sizes j c.args.counts.now f (omega (arith, c.cores-core-end.ensures)) q) ∙ c.loop-core.invariant)

pub loop-core-preserved : goal.loop-core-preserved
loop-core-preserved c =
    let l = c.args.logs in
    let j = c.loop-core.core in
    let n = c.in_ok-hold_through.field-0 in
    let q = read_here l.store.now l.sizes j c.in_ok-reader.field-0 c.in_ok-reader.ensures (holding_from c.args.counts.now) (Ok n) c.in_ok-hold_through.ensures in
    sym (tested_more l.store.now l.sizes j c.args.counts.now n (omega (arith, c.cores-core-end.ensures)) q) ∙ c.loop-core.invariant

pub returns : goal.returns
returns c =
    ap done (sym (tested_all c.args.logs.store.now c.args.logs.sizes c.loop-core.core c.args.counts.now (omega (arith, c.cores-core-end.ensures))) ∙ c.loop-core.invariant)
