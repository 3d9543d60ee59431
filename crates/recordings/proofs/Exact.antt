-- The exact reducer's logs are the reduction of the run.
use Rattle.cores.specs.Memory.{start}
use Rattle.runs.proofs.ExactIsReduction.{exact_logs_the_reduction}
use Rattle.recordings.specs.Exact.{ExactRecordsTheReduction}
use Rattle.recordings.specs.Tracks.{run_of}

pub exact_records_the_reduction : ExactRecordsTheReduction
exact_records_the_reduction K w r s rec = exact_logs_the_reduction (run_of K (start s.cells s.states) s.turns) w.tape.numbers rec.arcs rec.tracks.recording
