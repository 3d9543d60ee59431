-- Exact logs the reduction: by the theorem of that name.
use Rattle.runs.proofs.exact_logs_the_reduction.Goals as goal
use Rattle.runs.proofs.ExactIsReduction.{exact_logs_the_reduction}

pub returns : goal.returns
returns c = exact_logs_the_reduction
