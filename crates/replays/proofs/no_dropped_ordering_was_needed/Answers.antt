-- No dropped ordering was needed: by the theorem of that name, with the reducer's own bounds.
use Rattle.replays.proofs.Promise as promise
use Rattle.replays.proofs.no_dropped_ordering_was_needed.Goals as goal

pub returns : goal.returns
returns g c = λ text. promise.no_dropped_ordering_was_needed g.R.Reducer.meets g.met.R.Reducer.bounded g.K.Core.next g.K.Core.after text
