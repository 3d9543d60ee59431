-- Exact records the reduction.
use Rattle.recordings.proofs.Exact as exact
use Rattle.recordings.proofs.laws.exact_records_the_reduction.Goals as goal

pub returns : goal.returns
returns c = exact.exact_records_the_reduction
