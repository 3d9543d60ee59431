-- Replay of a recording agrees: by the theorem of that name.
use Rattle.runs.proofs.replay_of_a_recording_agrees.Goals as goal
use Rattle.runs.proofs.ReplayAgrees.{replay_of_a_recording_agrees}

pub returns : goal.returns
returns c = replay_of_a_recording_agrees
