-- The laws, each by its proof.
use Rattle.replayer.proofs.Damaged.{group_faults_are_first, steps_name_the_logs_first_faults}
use Rattle.replayer.proofs.FirstFaults.{groups_read_exactly, steps_name_first_faults}
use Rattle.replayer.proofs.laws.steps_name_first_faults.Goals as goal

pub returns : goal.returns
returns c = record { groups = groups_read_exactly; steps = steps_name_first_faults; first = group_faults_are_first; log = steps_name_the_logs_first_faults }
