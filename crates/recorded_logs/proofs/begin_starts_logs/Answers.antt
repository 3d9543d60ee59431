-- Begin starts every log.
use Rattle.recorded_logs.proofs.Held.{begin_holds}
use Rattle.recorded_logs.proofs.begin_starts_logs.Goals as goal

pub returns : goal.returns
returns c = begin_holds
