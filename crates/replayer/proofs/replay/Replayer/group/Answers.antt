-- What was read is what stands ahead of the core.
use Rattle.std.proofs.Common.{◌≡◌, ◌<◌, length, Err, sym, subst, rules}
use Rattle.records.specs.Faults.{refusal}
use Rattle.replayer.specs.Answers.{step_refusal_from}
use Rattle.replayer.specs.Steps.{Grouped}
use Rattle.replayer.proofs.Steps.{ahead_is, barred_out, faulty, read}
use Rattle.replayer.proofs.replay.Replayer.group.Goals as goal

pub returns-in_err-bars : goal.returns-in_err-bars
returns-in_err-bars c =
    let a = c.args in
    let is : c.from_residual.result ≡ Err c.in_err-bars.field-0.0 = search rules in
    subst (λ x. Grouped x a.self.now a.cores a.cells a.store.now a.j) (sym is) (barred_out _ _ _ _ _ c.in_err-bars.field-0.0 c.in_err-bars.ensures)

pub returns-in_err-read_group : goal.returns-in_err-read_group
returns-in_err-read_group c =
    let a = c.args in
    let e = c.in_err-read_group.field-0.0 in
    let is : c.from_residual-in_err-read_group.result ≡ Err (step_refusal_from e) = search rules in
    let inside : a.j < length a.self.now.places = search rules in
    subst (λ x. Grouped x a.self.now a.cores a.cells a.store.now a.j) (sym is)
    (faulty _ _ _ _ _ c.in_ok-bars.ensures.0 c.in_ok-bars.ensures.1 c.in_ok-bars.ensures.2
    e (ahead_is a.self.now a.store.now a.j inside (Err (refusal e)) (rw c.get.ensures.same at c.in_err-read_group.ensures.answer)))

pub returns : goal.returns
returns c =
    let a = c.args in
    let inside : a.j < length a.self.now.places = search rules in
    let more = c.in_ok-bars.ensures in (
      read _ _ _ _ _ more.0 more.1 more.2 _ (ahead_is a.self.now a.store.now a.j inside _ (rw c.get.ensures.same at c.in_ok-read_group.ensures.answer)),
      search rules,
    )
