-- No ordering is lost with: by the theorem of that name.
use Rattle.runs.proofs.no_ordering_is_lost_with.Goals as goal
use Rattle.runs.proofs.AnyReducer.{no_ordering_lost_with}

pub returns : goal.returns
returns g c = no_ordering_lost_with g.R.Reducer.meets g.met.R.Reducer.bounded
