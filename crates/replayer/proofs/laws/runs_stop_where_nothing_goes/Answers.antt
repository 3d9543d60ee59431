-- The law, by its proof.
use Rattle.replayer.proofs.Stopping.{runs_stop_exactly}
use Rattle.replayer.proofs.laws.runs_stop_where_nothing_goes.Goals as goal

pub returns : goal.returns
returns c = runs_stop_exactly
