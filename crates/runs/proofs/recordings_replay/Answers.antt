-- Recordings replay: by the theorem of that name.
use Rattle.runs.proofs.recordings_replay.Goals as goal
use Rattle.cores.specs.Memory.{rules}
use Rattle.runs.proofs.AnyReducer.{replay_agrees_with}

pub returns : goal.returns
returns g c = λ text. replay_agrees_with g.R.Reducer.meets g.met.R.Reducer.bounded (rules g.K.Core.next g.K.Core.after text)
