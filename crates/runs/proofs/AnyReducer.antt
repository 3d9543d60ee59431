-- What holds of any recording within the bounds holds of one with a reducer that meets them in its own way.
use Rattle.cores.specs.Memory.{Rules}
use Rattle.reducers.specs.Numbers.{Meets, ◌⊑◌}
use Rattle.runs.specs.Theorems.{Bounded, NoOrderingLost, ReplayOfARecordingAgrees}
use Rattle.runs.proofs.NoOrderingLost.{no_ordering_lost}
use Rattle.runs.proofs.ReplayAgrees.{replay_of_a_recording_agrees}
use Rattle.runs.proofs.RecordingsExist.{weakened}

module _ (meets : Meets) (bounded : Bounded meets) where
  pub no_ordering_lost_with : NoOrderingLost meets
  no_ordering_lost_with r N L rec = no_ordering_lost r N L (weakened meets ◌⊑◌ bounded rec)

  pub replay_agrees_with : (K : Rules) → ReplayOfARecordingAgrees meets K
  replay_agrees_with K place cells states u a N L rec = replay_of_a_recording_agrees K place cells states u a N L (weakened meets ◌⊑◌ bounded rec)
