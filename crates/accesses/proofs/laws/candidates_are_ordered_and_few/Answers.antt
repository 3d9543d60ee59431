-- The laws of candidates.
use Rattle.accesses.proofs.Order.{ordered}
use Rattle.accesses.proofs.Few.{candidates_few}
use Rattle.accesses.proofs.laws.candidates_are_ordered_and_few.Goals as goal

pub returns : goal.returns
returns c = record { ordered = ordered; few = candidates_few }
