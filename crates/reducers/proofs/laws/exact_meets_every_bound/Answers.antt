-- Each bound grows with the numbers before the call.
use Rattle.reducers.proofs.CallLaws.{exact_meets_every_bound, none_knows_more_than_exact}
use Rattle.reducers.proofs.laws.exact_meets_every_bound.Goals as goal

pub returns : goal.returns
returns c = record { equal = exact_meets_every_bound; greatest = none_knows_more_than_exact }
