-- The steps from core j on give the whole circle; no core and no cell beyond the sizes was touched.
use Rattle.std.proofs.Common.{◌≡◌, ◌-◌, ◌≤◌, map, length}
use Rattle.replayer.specs.Runs.{session, circled, AllAwait}
use Rattle.records.specs.Settings.{SurplusKept}
use Rattle.replayer.proofs.Runs.{Moves}
use Rattle.replayer.proofs.replay.Replayer.circle.Given as goal

abbrev pub invariant-loop-j : goal.invariant-loop-j
invariant-loop-j g l =
    (l.carried ≤ l.j)
    × (circled g.K.Core.next g.K.Core.after l.text l.store (l.initial.self.sizes.cores - l.j) l.j (session l.carried l.self l.cells (map g.K.Core.state l.cores))
    ≡ circled g.K.Core.next g.K.Core.after l.text l.store l.initial.self.sizes.cores 0 (session 0 l.initial.self l.initial.cells (map g.K.Core.state l.initial.cores)))
    × SurplusKept l.initial.self.sizes l.initial.cores l.cores l.initial.cells l.cells
    × Moves l.initial.self l.self l.carried
    × AllAwait l.store l.self (length l.initial.cores) (length l.initial.cells) l.known
