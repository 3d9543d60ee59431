use Rattle.std.proofs.Common.{◌≡◌, ◌-◌}
use Rattle.logs.specs.Session.{tested}
use Rattle.logs.proofs.session.hold_logs.Given as goal

abbrev pub invariant-loop-core : goal.invariant-loop-core
invariant-loop-core l =
    tested l.logs.store.now l.logs.sizes l.counts (l.logs.sizes.cores - l.core) l.core ≡ tested l.logs.store.now l.logs.sizes l.counts l.logs.sizes.cores 0
