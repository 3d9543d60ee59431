-- Keep-all logs every candidate: by the theorem of that name.
use Rattle.runs.proofs.keep_all_logs_every_candidate.Goals as goal
use Rattle.runs.proofs.LoggedCandidates.{keep_all_logs_every_candidate}

pub returns : goal.returns
returns c = keep_all_logs_every_candidate
