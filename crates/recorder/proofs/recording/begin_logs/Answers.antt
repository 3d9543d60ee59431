-- One log more.
use Rattle.std.proofs.Common.{◌+◌, ◌-◌, sym, ap, ◌∙◌}
use Rattle.recorder.specs.Turns.{headed_from}
use Rattle.recorder.proofs.Rooms.{headed_more, headed_all}
use Rattle.recorder.proofs.recording.begin_logs.Goals as goal

pub loop-core-preserved : goal.loop-core-preserved
loop-core-preserved c =
    let z = c.args.sizes in
    let i = c.loop-core.core in
    ap (headed_from z (z.cores - (i + 1)) (i + 1)) c.begin_log.ensures
    ∙ sym (headed_more z z.cores i c.loop-core.store c.loop-core-test.true)
    ∙ c.loop-core.invariant

pub returns : goal.returns
returns c =
    let z = c.args.sizes in
    sym (headed_all z z.cores c.loop-core.core c.loop-core.store c.loop-core-test.false) ∙ c.loop-core.invariant
