-- Three reducers are bounded: by the theorem of that name.
use Rattle.runs.proofs.three_reducers_are_bounded.Goals as goal
use Rattle.runs.proofs.RecordingsExist.{three_reducers_are_bounded}

pub returns : goal.returns
returns c = three_reducers_are_bounded
