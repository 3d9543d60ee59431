-- The run counts as the memory: by the theorem of that name.
use Rattle.runs.proofs.the_run_counts_as_the_memory.Goals as goal
use Rattle.runs.proofs.ReplayAgrees.{run_counts_agree}

pub returns : goal.returns
returns c = run_counts_agree
