-- One step more.
use Rattle.std.proofs.Common.{map, vec_items, arith}
use Rattle.replayer.specs.Runs.{session}
use Rattle.sessions.proofs.Walks.{goes_on}
use Rattle.sessions.proofs.buffers.Room.replay.Goals as goal

pub loop-j-preserved : goal.loop-j-preserved
loop-j-preserved g c =
    let a = c.args in
    let s = g.K.Core.state in
    let l = c.loop-j in
    let t = c.step.new in (
      omega (arith, l.invariant.0, c.push_reserved.ensures.len),
      omega (arith, l.invariant.1, c.push_reserved.ensures.capacity),
      goes_on g.K.Core.next g.K.Core.after a.text.now a.store.now (session 0 c.open-opened.new.self c.as_mut_slice-cells.result.now (map s c.as_mut_slice-cores.result.now)) a.steps.now
          l.j-index (vec_items l.self.1.0) (vec_items c.push_reserved.new.self) c.step.result l.replayer t.self l.cells t.cells (map s l.cores) (map s t.cores)
          c.loop-j-test.true l.invariant.2 c.step.ensures.outcome c.push_reserved.ensures.items,
    )
