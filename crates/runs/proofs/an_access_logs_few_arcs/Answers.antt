-- An access logs few arcs: by the theorem of that name.
use Rattle.runs.proofs.an_access_logs_few_arcs.Goals as goal
use Rattle.runs.proofs.LawfulLogs.{logs_few}

pub returns : goal.returns
returns c = logs_few
