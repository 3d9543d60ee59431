-- Begin is refused with nothing changed, or starts all afresh.
use Rattle.std.proofs.Common.{sym, ap, ◌∙◌}
use Rattle.records.proofs.Settling.{let_through, held_back}
use Rattle.recorder.specs.Refusals.{started}
use Rattle.recorder.proofs.Begins.{begun_refused, begun_done}
use Rattle.recorder.proofs.recording.Recorder.begin.Goals as goal

pub returns-in_default-clause-outcome : goal.returns-in_default-clause-outcome
returns-in_default-clause-outcome g c = begun_refused _ _ _ _ (held_back _ _ (sym c.in_default.is ∙ c.to_begin.ensures))

pub returns-clause-outcome : goal.returns-clause-outcome
returns-clause-outcome g c =
    let through = let_through _ _ _ (sym c.in-Some.is ∙ c.to_begin.ensures) in
    begun_done _ _ _ _ _ _ _ _ through.0 c.begin_logs.ensures (c.new-self.ensures ∙ ap started through.1) c.forget.ensures c.reset.ensures
