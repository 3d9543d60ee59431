-- Dropping an arc loses an ordering: by the theorem of that name.
use Rattle.runs.proofs.dropping_an_arc_loses_an_ordering.Goals as goal
use Rattle.runs.proofs.ExactIsLeast.{dropping_loses_an_ordering}

pub returns : goal.returns
returns c = dropping_loses_an_ordering
