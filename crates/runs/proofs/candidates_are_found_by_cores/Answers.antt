-- Candidates are found by cores: by the theorem of that name.
use Rattle.runs.proofs.candidates_are_found_by_cores.Goals as goal
use Rattle.runs.proofs.NewestFirst.{candidates_by_cores}

pub returns : goal.returns
returns c = candidates_by_cores
