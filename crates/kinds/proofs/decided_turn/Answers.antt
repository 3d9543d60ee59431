-- The turn that any reducer has, at this reducer's one choice.
use Rattle.recorder.proofs.Decided.{one_outcome}
use Rattle.kinds.proofs.decided_turn.Goals as goal

pub returns-clause-outcome : goal.returns-clause-outcome
returns-clause-outcome g c = one_outcome _ _ g.met.R.Decided.decides _ _ _ _ c.turn.ensures.outcome
