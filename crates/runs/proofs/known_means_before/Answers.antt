-- Known means before: by the theorem of that name.
use Rattle.runs.proofs.known_means_before.Goals as goal
use Rattle.runs.proofs.KnownMeansBefore.{known_means_before}

pub returns : goal.returns
returns c = known_means_before
