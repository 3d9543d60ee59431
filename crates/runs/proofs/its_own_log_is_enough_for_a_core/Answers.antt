-- Its own log is enough for a core: by the theorem of that name.
use Rattle.runs.proofs.its_own_log_is_enough_for_a_core.Goals as goal
use Rattle.runs.proofs.Waiting.{own_log_is_enough}

pub returns : goal.returns
returns c = own_log_is_enough
