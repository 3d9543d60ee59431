-- Exact is least: by the theorem of that name.
use Rattle.runs.proofs.exact_is_least.Goals as goal
use Rattle.runs.proofs.ExactIsLeast.{exact_is_least}

pub returns : goal.returns
returns c = exact_is_least
