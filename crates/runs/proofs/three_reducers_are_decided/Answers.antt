-- Three reducers are decided: by the theorem of that name.
use Rattle.runs.proofs.three_reducers_are_decided.Goals as goal
use Rattle.runs.proofs.Decided.{three_reducers_are_decided}

pub returns : goal.returns
returns c = three_reducers_are_decided
