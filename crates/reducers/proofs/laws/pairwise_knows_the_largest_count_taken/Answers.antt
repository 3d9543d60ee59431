-- Each call takes the larger count.
use Rattle.reducers.proofs.CallLaws.{pairwise_knows_the_largest}
use Rattle.reducers.proofs.laws.pairwise_knows_the_largest_count_taken.Goals as goal

pub returns : goal.returns
returns c = pairwise_knows_the_largest
