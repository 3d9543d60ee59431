-- Pairwise logs what is newer: by the theorem of that name.
use Rattle.runs.proofs.pairwise_logs_what_is_newer.Goals as goal
use Rattle.runs.proofs.LoggedCandidates.{pairwise_logs_what_is_newer}

pub returns : goal.returns
returns c = pairwise_logs_what_is_newer
