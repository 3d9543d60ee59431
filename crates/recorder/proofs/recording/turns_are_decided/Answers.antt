-- One choice, one outcome.
use Rattle.recorder.proofs.Decided.{one_outcome}
use Rattle.recorder.proofs.recording.turns_are_decided.Goals as goal

pub returns : goal.returns
returns g c = one_outcome g.R.Reducer.meets
