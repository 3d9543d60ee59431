-- Recordings exist: by the theorem of that name.
use Rattle.runs.proofs.recordings_exist.Goals as goal
use Rattle.runs.proofs.RecordingsExist.{recordings_exist}

pub returns : goal.returns
returns c = recordings_exist
