-- Each step of the circle is counted where it was carried out, and leaves what is beyond the sizes.
use Rattle.std.proofs.Common.{◌≡◌, ◌+◌, ◌≤◌, cond, map, length, sym, ap, ◌∙◌, subst, arith}
use Rattle.records.proofs.Settling.{cores_of}
use Rattle.replayer.specs.Answers.{step_numbers}
use Rattle.replayer.specs.Runs.{session, counted}
use Rattle.records.specs.Settings.{SurplusKept}
use Rattle.replayer.specs.Steps.{Outcome}
use Rattle.replayer.proofs.Runs.{counted_step, circled_more, circled_all, stepped_moves, step_few, Moves, moves_on}
use Rattle.replayer.proofs.Waiting.{all_wait}
use Rattle.replayer.proofs.replay.Replayer.circle.Goals as goal
use Rattle.replayer.proofs.replay.Replayer.circle.Goals.{then-is_ok, else-is_ok}

pub loop-j-preserved : goal.loop-j-preserved
loop-j-preserved g c =
    let r = c.step_or_wait-step.result in
    let a = c.args in
    let l = c.loop-j in
    let more : c.if-is_ok.carried ≡ l.carried + counted (step_numbers r) = elim c.if-is_ok.branch [
      | then-is_ok w ↦ omega (arith, w.carried-is, counted_step r ∙ ap (λ b. cond b 1 0) (sym w.if-is_ok.ensures.value))
      | else-is_ok w ↦ omega (arith, w.carried-is, counted_step r ∙ ap (λ b. cond b 1 0) (sym w.if-is_ok.ensures.value))
    ] in
    let few : c.if-is_ok.carried ≤ l.j + 1 = elim c.if-is_ok.branch [ then-is_ok w ↦ omega (arith, w.carried-is, l.invariant.0) | else-is_ok w ↦ omega (arith, w.carried-is, l.invariant.0) ] in
    let m = stepped_moves g.K.Core.next g.K.Core.after a.text.now a.store.now l.self l.cells (map g.K.Core.state l.cores) l.j l.invariant.3.four in
    let kept = subst (λ z. SurplusKept z l.cores c.step_or_wait-step.new.cores l.cells c.step_or_wait-step.new.cells) l.invariant.3.sizes c.step_or_wait-step.ensures.surplus in
    let o : Outcome = record { says = step_numbers r; replayer = c.step_or_wait-step.new.self; cells = c.step_or_wait-step.new.cells; states = map g.K.Core.state c.step_or_wait-step.new.cores } in (
      few,
      circled_more _ _ _ _ a.self.now.sizes.cores l.j (session l.carried l.self l.cells (map g.K.Core.state l.cores))
          (omega (arith, c.loop-j-test.true, cores_of c.get-j-end.ensures.same)) o c.step_or_wait-step.ensures.outcome _ more
          ∙ l.invariant.1,
      (kept.0 ∙ l.invariant.2.0, kept.1 ∙ l.invariant.2.1),
      moves_on a.self.now l.self c.step_or_wait-step.new.self l.carried (counted (step_numbers r)) c.if-is_ok.carried l.invariant.3
          (subst (λ o. Moves l.self o.replayer (counted o.says)) (sym c.step_or_wait-step.ensures.outcome) m) more,
      all_wait g.K.Core.next g.K.Core.after a.text.now l.self l.cells (map g.K.Core.state l.cores) a.store.now l.j o c.step_or_wait-step.ensures.outcome
          (length a.cores.now) (length a.cells.now) l.known c.step_or_wait-step.new.known l.invariant.4
          (rw (l.auto.cores, l.auto.cells) at c.step_or_wait-step.ensures.waits),
    )

pub returns-clause-circled : goal.returns-clause-circled
returns-clause-circled g c = sym (circled_all _ _ _ _ c.args.self.now.sizes.cores c.loop-j.j _ (omega (arith, c.loop-j-test.false, cores_of c.get-j-end.ensures.same))) ∙ c.loop-j.invariant.1

pub step_or_wait-step-requires : goal.step_or_wait-step-requires
step_or_wait-step-requires g c = let l = c.loop-j in rw (l.auto.cores, l.auto.cells) (l.invariant.4 l.j)

pub returns-clause-wait : goal.returns-clause-wait
returns-clause-wait g c = c.loop-j.invariant.4

pub overflow_add-carried : goal.overflow_add-carried
overflow_add-carried g c =
    let l = c.loop-j in
    let few = step_few g.K.Core.next g.K.Core.after c.args.text.now c.args.store.now l.self l.cells (map g.K.Core.state l.cores) l.j
    (ap (λ o. counted o.says) (sym c.step_or_wait-step.ensures.outcome) ∙ counted_step c.step_or_wait-step.result ∙ ap (λ b. cond b 1 0) (sym c.if-is_ok.ensures.value)) in
    omega (arith, few, l.invariant.0, cores_of l.invariant.3.sizes, cores_of c.get-j-end.ensures.same, c.loop-j-test.true)
