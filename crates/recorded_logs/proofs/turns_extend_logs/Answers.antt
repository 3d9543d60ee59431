-- A turn extends its core's log, and no other byte changes.
use Rattle.recorded_logs.proofs.Held.{turn_holds, surplus_stays}
use Rattle.recorded_logs.proofs.turns_extend_logs.Goals as goal

pub returns : goal.returns
returns c = record { logs = turn_holds; surplus = surplus_stays }
