-- What is remembered and what it gives: by the theorems of those names.
use Rattle.access_laws.proofs.Recalling.{nothing_is_recalled_at_first, remembering_recalls_the_run}
use Rattle.access_laws.proofs.Giving.{candidates_are_the_runs}
use Rattle.access_laws.proofs.the_history_recalls_the_run.Goals as goal

pub returns : goal.returns
returns c = record { first = nothing_is_recalled_at_first; kept = remembering_recalls_the_run; candidates = candidates_are_the_runs }
