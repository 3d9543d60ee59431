-- Current knowledge in place of a stamp loses an ordering: by the theorem of that name.
use Rattle.runs.proofs.current_knowledge_loses_an_ordering.Goals as goal
use Rattle.runs.proofs.WorkedRuns.{ordering_lost}

pub returns : goal.returns
returns c = ordering_lost
