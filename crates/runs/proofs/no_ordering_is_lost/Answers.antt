-- No ordering is lost: by the theorem of that name.
use Rattle.runs.proofs.no_ordering_is_lost.Goals as goal
use Rattle.runs.proofs.NoOrderingLost.{no_ordering_lost}

pub returns : goal.returns
returns c = no_ordering_lost
