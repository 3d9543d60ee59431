use Rattle.std.proofs.Common.{◌≡◌, ◌-◌}
use Rattle.logs.specs.WriteOut.{all_copied}
use Rattle.logs.proofs.write_out.copy_logs.Given as goal

abbrev pub invariant-loop-core : goal.invariant-loop-core
invariant-loop-core l =
    all_copied l.logs.store.now l.logs.sizes (l.logs.sizes.cores - l.core) l.core l.out ≡ all_copied l.logs.store.now l.logs.sizes l.logs.sizes.cores 0 l.initial.out
