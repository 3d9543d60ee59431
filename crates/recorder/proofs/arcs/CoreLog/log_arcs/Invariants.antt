-- The candidates so far were judged, and there is room for those to come.
use Rattle.std.proofs.Common.{◌+◌, ◌*◌, ◌≤◌, take, drop}
use Rattle.accesses.specs.Histories.{present}
use Rattle.recorder.specs.CoreLogs.{Same}
use Rattle.recorder.specs.Judged.{Logged}
use Rattle.recorder.proofs.arcs.CoreLog.log_arcs.Given as goal

abbrev pub invariant-loop-candidate : goal.invariant-loop-candidate
invariant-loop-candidate g l =
    let m = g.R.Reducer in
    let a = l.initial.self in
    Same a l.self
    × (l.self.tail.offset + 7 * present (drop l.candidate-index l.candidate-items) ≤ a.tail.offset + 7 * present l.candidate-items)
    × (l.self.tail.arcs ≤ a.tail.arcs + l.candidate-index)
    × Logged m.meets a.sizes l.cell a.by (m.numbers l.initial.reducer) (take l.candidate-index l.candidate-items) (m.numbers l.reducer) a.tail a.store.now l.self.tail l.self.store.now
