-- What is read and what is still to be read make the whole.
use Rattle.std.proofs.Common.{◌<◌, Ok, Err, sym, ap, ◌∙◌, arith}
use Rattle.std.proofs.lemmas.Result.{err_from_is_err_and}
use Rattle.std.proofs.lemmas.List.{length-set}
use Rattle.records.specs.Faults.{session_fault}
use Rattle.logs.specs.Session.{counted_as, outcome, largest_in, all_largest}
use Rattle.logs.specs.Walk.{reading_from}
use Rattle.logs.proofs.Cores.{new_reader, read_here, gathered_more, gathered_fault, gathered_all, largest_more, largest_all}
use Rattle.logs.proofs.session.read_counts.Goals as goal

pub returns-in_err-counts-clause-counts : goal.returns-in_err-counts-clause-counts
returns-in_err-counts-clause-counts c =
    let l = c.args.logs in
    let j = c.loop-core.core in
    let p = err_from_is_err_and c.from_residual-in_err-counts.result c.from_residual-in_err-counts.ensures.1 in
    let f = session_fault c.in_err-counts.field-0.0 in
    let q = read_here l.store.now l.sizes j c.in_ok-reader.field-0 c.in_ok-reader.ensures reading_from (Err f) c.in_err-counts.ensures.verdict in
    ap counted_as (p.1 ∙ ap Err p.2)
    ∙ ap outcome (sym (gathered_fault l.store.now l.sizes j c.loop-core.counts f (omega (arith, c.cores-core-end.ensures)) q) ∙ c.loop-core.invariant.1)

pub loop-core-preserved : goal.loop-core-preserved
loop-core-preserved c =
    let store = c.args.logs.store.now in
    let z = c.args.logs.sizes in
    let j = c.loop-core.core in
    let n = c.in_ok-counts.field-0 in
    let low : j < z.cores = omega (arith, c.cores-core-end.ensures) in
    let r = c.in_ok-reader.field-0 in
    let q = read_here store z j r c.in_ok-reader.ensures reading_from (Ok n) c.in_ok-counts.ensures.verdict in
    let kept = c.in_ok-counts.ensures.kept ∙ ap (λ v. largest_in c.loop-core.largest (reading_from v).entries) (new_reader store z j r c.in_ok-reader.ensures) in (
      length-set c.loop-core.counts j n ∙ c.loop-core.invariant.0,
      sym (gathered_more store z j c.loop-core.counts n low q) ∙ c.loop-core.invariant.1,
      ap (all_largest store z _ _) kept ∙ sym (largest_more store z j c.loop-core.largest low) ∙ c.loop-core.invariant.2,
    )

pub returns-clause-counts : goal.returns-clause-counts
returns-clause-counts c =
    ap outcome (sym (gathered_all c.args.logs.store.now c.args.logs.sizes c.loop-core.core c.loop-core.counts (omega (arith, c.cores-core-end.ensures))) ∙ c.loop-core.invariant.1)

pub returns-clause-largest : goal.returns-clause-largest
returns-clause-largest c =
    sym (largest_all c.args.logs.store.now c.args.logs.sizes c.loop-core.core c.loop-core.largest (omega (arith, c.cores-core-end.ensures))) ∙ c.loop-core.invariant.2
