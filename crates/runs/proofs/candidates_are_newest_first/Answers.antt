-- Candidates are newest first: by the theorem of that name.
use Rattle.runs.proofs.candidates_are_newest_first.Goals as goal
use Rattle.runs.proofs.NewestFirst.{newest_first}

pub returns : goal.returns
returns c = newest_first
