use Rattle.std.proofs.Common.{◌≡◌, ◌-◌, length}
use Rattle.logs.specs.Session.{gathered, all_largest, no_counts}
use Rattle.logs.proofs.session.read_counts.Given as goal

abbrev pub invariant-loop-core : goal.invariant-loop-core
invariant-loop-core l =
    let store = l.logs.store.now in
    let z = l.logs.sizes in
    (length l.counts ≡ 4)
    × (gathered store z (z.cores - l.core) l.core l.counts ≡ gathered store z z.cores 0 no_counts)
    × (all_largest store z (z.cores - l.core) l.core l.largest ≡ all_largest store z z.cores 0 no_counts)
