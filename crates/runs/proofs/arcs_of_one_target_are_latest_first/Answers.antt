-- Arcs of one target are latest first: by the theorem of that name.
use Rattle.runs.proofs.arcs_of_one_target_are_latest_first.Goals as goal
use Rattle.runs.proofs.LatestFirst.{targets_are_latest_first}

pub returns : goal.returns
returns g c = targets_are_latest_first g.R.Reducer.meets
