-- What is copied and what is still to be copied make the whole.
use Rattle.std.proofs.Common.{◌≡◌, sym, ap, ◌∙◌, arith}
use Rattle.logs.specs.Walk.{reading_from}
use Rattle.logs.specs.WriteOut.{copied, all_copied}
use Rattle.logs.proofs.Cores.{new_reader}
use Rattle.logs.proofs.WritingOut.{copied_more, copied_all}
use Rattle.logs.proofs.write_out.copy_logs.Goals as goal

pub loop-core-preserved : goal.loop-core-preserved
loop-core-preserved c =
    let store = c.args.logs.store.now in
    let z = c.args.logs.sizes in
    let j = c.loop-core.core in
    let v = new_reader store z j c.in-Ok.reader c.in-Ok.ensures in
    let here : c.copy_records.new.out ≡ copied z j 0 (reading_from _).entries c.loop-core.out =
    c.copy_records.ensures ∙ ap (λ v. copied z j v.cursor (reading_from v).entries c.loop-core.out) v in
    ap (all_copied store z _ _) here ∙ sym (copied_more store z j c.loop-core.out (omega (arith, c.cores-core-end.ensures))) ∙ c.loop-core.invariant

pub returns : goal.returns
returns c =
    sym (copied_all c.args.logs.store.now c.args.logs.sizes c.loop-core.core c.loop-core.out (omega (arith, c.cores-core-end.ensures))) ∙ c.loop-core.invariant
