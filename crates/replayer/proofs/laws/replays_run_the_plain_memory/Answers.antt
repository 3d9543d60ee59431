-- The theorems, each by its proof.
use Rattle.replayer.proofs.Memories.{steps_alike, steps_play, runs_play}
use Rattle.replayer.proofs.laws.replays_run_the_plain_memory.Goals as goal

pub returns : goal.returns
returns c = record { alike = steps_alike; steps = steps_play; runs = runs_play }
