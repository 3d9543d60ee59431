-- Replay agrees: by the theorem of that name.
use Rattle.runs.proofs.replay_agrees.Goals as goal
use Rattle.runs.proofs.ReplayAgrees.{replay_agrees}

pub returns : goal.returns
returns c = replay_agrees
