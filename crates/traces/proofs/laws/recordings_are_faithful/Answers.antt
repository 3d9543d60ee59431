-- Recordings are faithful.
use Rattle.traces.proofs.Recordings.{traces_are_faithful, new_is_faithful}
use Rattle.traces.proofs.laws.recordings_are_faithful.Goals as goal

pub returns : goal.returns
returns g c = record { traces = traces_are_faithful g.R.Reducer.meets; new = new_is_faithful }
