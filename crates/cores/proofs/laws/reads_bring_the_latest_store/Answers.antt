-- Both laws are proved in LatestStore.
use Rattle.cores.proofs.LatestStore.{reads_bring_the_latest_store, refused_turns_change_nothing}
use Rattle.cores.proofs.laws.reads_bring_the_latest_store.Goals as goal

pub returns : goal.returns
returns c = record { latest = reads_bring_the_latest_store; refusals = refused_turns_change_nothing }
