-- Every recording's logs are accepted.
use Rattle.lawful_logs.proofs.Orderly.{traces_are_orderly, new_is_orderly, orderly_is_accepted}
use Rattle.lawful_logs.proofs.recordings_are_accepted.Goals as goal

pub returns : goal.returns
returns g c = record { orderly = traces_are_orderly g.R.Reducer.meets; new = new_is_orderly; accepted = orderly_is_accepted }
