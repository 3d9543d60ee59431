-- Calls record the run.
use Rattle.recordings.proofs.ByTheRules.{turns_go_by_the_rules}
use Rattle.recordings.proofs.Decided.{arcs_decide, rules_decide}
use Rattle.recordings.proofs.Feeding.{answers_feed}
use Rattle.recordings.proofs.Sessions.{traces_are_recorded, new_has_recorded_nothing}
use Rattle.recordings.proofs.Refused.{refusals_are_plain}
use Rattle.recordings.proofs.Surplus.{turns_keep_the_surplus}
use Rattle.recordings.proofs.laws.calls_record_the_run.Goals as goal

pub returns : goal.returns
returns g c = record { traces = traces_are_recorded g.R.Reducer.meets; turns = turns_go_by_the_rules g.R.Reducer.meets; arcs = arcs_decide g.R.Reducer.meets; decided = rules_decide g.R.Reducer.meets; surplus = turns_keep_the_surplus g.R.Reducer.meets; refusals = refusals_are_plain g.R.Reducer.meets; fed = answers_feed g.R.Reducer.meets; new = new_has_recorded_nothing g.R.Reducer.meets }
