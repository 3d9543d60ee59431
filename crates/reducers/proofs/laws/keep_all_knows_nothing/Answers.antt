-- Each call leaves no number.
use Rattle.reducers.proofs.CallLaws.{keep_all_knows_nothing}
use Rattle.reducers.proofs.laws.keep_all_knows_nothing.Goals as goal

pub returns : goal.returns
returns c = keep_all_knows_nothing
