-- What is left to begin makes the store into the begun one.
use Rattle.std.proofs.Common.{◌≡◌, ◌-◌}
use Rattle.recorder.specs.Turns.{headed_from}
use Rattle.recorder.proofs.recording.begin_logs.Given as goal

abbrev pub invariant-loop-core : goal.invariant-loop-core
invariant-loop-core l = headed_from l.sizes (l.sizes.cores - l.core) l.core l.store ≡ headed_from l.sizes l.sizes.cores 0 l.initial.store
