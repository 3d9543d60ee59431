-- What a recording logs: its order, and what it is with each way of meeting the bounds.
use Rattle.std.proofs.Common.{◌≡◌, List}
use Rattle.reducers.specs.Numbers.{Numbers, Meets, zeros}
use Rattle.reducers.specs.Rows.{KnownOnly}
use Rattle.runs.specs.Runs.{Run}
use Rattle.runs.specs.Recording.{Arc, Recording}
use Rattle.runs.specs.Logged.{ArcsLogged}
use Rattle.runs.proofs.ExactIsReduction.{exact_logs_the_reduction}
use Rattle.runs.proofs.LatestFirst.{targets_are_latest_first}
use Rattle.runs.proofs.LoggedCandidates.{keep_all_logs_every_candidate, pairwise_logs_what_is_newer}
use Rattle.runs.proofs.RecordingsExist.{weakened}

pub arcs_logged : (meets : Meets) (r : Run) (N : Numbers) (L : List Arc) → Recording meets r N L → ArcsLogged meets r L
arcs_logged meets r N L rec = record {
  latest_first = targets_are_latest_first meets r N L rec;
  exact = λ h. exact_logs_the_reduction r N L (weakened meets ◌≡◌ h rec);
  keep_all = λ h. keep_all_logs_every_candidate r N L (weakened meets (λ n _. n ≡ zeros) h rec);
  pairwise = λ h. pairwise_logs_what_is_newer r N L (weakened meets KnownOnly h rec);
}
