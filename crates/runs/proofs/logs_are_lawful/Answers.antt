-- Logs are lawful: by the theorem of that name.
use Rattle.runs.proofs.logs_are_lawful.Goals as goal
use Rattle.runs.proofs.LawfulLogs.{logs_are_lawful}

pub returns : goal.returns
returns c = logs_are_lawful
