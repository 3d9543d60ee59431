-- The theorems, each by its proof.
use Rattle.replayer.proofs.Following.{opening_follows, step_reads, step_waits, steps_follow, runs_follow}
use Rattle.replayer.proofs.laws.replays_follow_their_logs.Goals as goal

pub returns : goal.returns
returns c = record { opening = opening_follows; reads = step_reads; waits = step_waits; steps = steps_follow; runs = runs_follow }
