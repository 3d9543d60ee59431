-- The circles from here on give the whole run; no core and no cell beyond the sizes was touched.
use Rattle.std.proofs.Common.{map, length}
use Rattle.replayer.specs.Runs.{session, left, AllAwait}
use Rattle.records.specs.Settings.{SurplusKept}
use Rattle.replayer.proofs.Runs.{Running}
use Rattle.replayer.proofs.replay.Replayer.run.Given as goal

abbrev pub invariant-loop-steps : goal.invariant-loop-steps
invariant-loop-steps g l =
    Running g.K.Core.next g.K.Core.after l.text l.store l.initial.self l.initial.cells (map g.K.Core.state l.initial.cores)
    (session l.steps l.self l.cells (map g.K.Core.state l.cores))
    × SurplusKept l.initial.self.sizes l.initial.cores l.cores l.initial.cells l.cells
    × AllAwait l.store l.self (length l.initial.cores) (length l.initial.cells) l.known

abbrev pub decreases-loop-steps : goal.decreases-loop-steps
decreases-loop-steps g l = left l.self
