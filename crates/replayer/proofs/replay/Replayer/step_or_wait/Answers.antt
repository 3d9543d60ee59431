-- A core that waits for the source that is known gives that answer, and one that says that it waits is known to wait.
use Rattle.std.proofs.Common.{◌≡◌, map, Err, get_or, sym, arith, rules}
use Rattle.std.proofs.lemmas.Bool.{lt-leb}
use Rattle.std.proofs.lemmas.List.{length-map}
use Rattle.replayer.specs.declared.answers.StepRefusal.TheVariants.{Waits}
use Rattle.replayer.specs.Answers.{wait_numbers, step_numbers}
use Rattle.replayer.specs.Steps.{Outcome}
use Rattle.replayer.proofs.Steps.{barred}
use Rattle.replayer.proofs.Waiting.{itself_waits}
use Rattle.replayer.proofs.replay.Replayer.step_or_wait.Goals as goal

pub returns-then-number_of-source-clause-outcome : goal.returns-then-number_of-source-clause-outcome
returns-then-number_of-source-clause-outcome g c =
    let a = c.args in
    let s = c.in-Some.source in
    let waits = rw c.in-Some.is at c.requires in
    barred g.K.Core.state g.K.Core.next g.K.Core.after a.text.now a.self.now a.cores.now a.cells.now a.store.now a.j (wait_numbers s)
    (sym (waits (lt-leb s.count (get_or a.self.now.done s.core 0) (omega (arith, c.number_of.ensures, c.if-number_of-source.true)))))

pub returns-in-Err-Waits-clause-waits : goal.returns-in-Err-Waits-clause-waits
returns-in-Err-Waits-clause-waits g c =
    let a = c.args in
    let r = c.step-step in
    let s = c.in-Err-Waits.source in
    let is : r.result ≡ Err (Waits s) = search rules in
    let o : Outcome = record { says = step_numbers r.result; replayer = r.new.self; cells = r.new.cells; states = map g.K.Core.state r.new.cores } in
    rw length-map at
    (itself_waits g.K.Core.next g.K.Core.after a.text.now a.self.now a.cells.now (map g.K.Core.state a.cores.now) a.store.now a.j o s r.ensures.outcome (rw is))
