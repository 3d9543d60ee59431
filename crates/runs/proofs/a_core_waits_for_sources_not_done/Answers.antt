-- A core waits for sources not done: by the theorem of that name.
use Rattle.runs.proofs.a_core_waits_for_sources_not_done.Goals as goal
use Rattle.runs.proofs.Waiting.{waits_for_sources}

pub returns : goal.returns
returns c = waits_for_sources
