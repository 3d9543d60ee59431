-- Each circle that carries something out leaves fewer instructions, and what a run says is what its circles come to.
use Rattle.std.proofs.Common.{◌≡◌, ℕ, List, map, length, Ok, Result, sym, refl, ap, ◌∙◌, subst, arith, rules}
use Rattle.std.proofs.lemmas.List.{length-map}
use Rattle.replayer.specs.Runs.{session}
use Rattle.records.specs.Settings.{SurplusKept}
use Rattle.replayer.proofs.Runs.{run_unsettled, running_start, running_over, running_stop, running_more, Moves, around_moves}
use Rattle.replayer.proofs.Waiting.{none_known}
use Rattle.records.specs.declared.faults.Refusal.{Refusal}
use Rattle.replayer.specs.Answers.{run_numbers}
use Rattle.replayer.specs.Steps.{Outcome}
use Rattle.replayer.specs.declared.answers.Ended.{Ended}
use Rattle.replayer.specs.declared.replay.Replayer.{Replayer}
use Rattle.replayer.proofs.replay.Replayer.run.Goals as goal

-- what a run says, with what is there then
abbrev outcome : Result Ended Refusal → Replayer → List ℕ → List (List ℕ) → Outcome
outcome says R cells states = record { says = run_numbers says; replayer = R; cells = cells; states = states }

pub returns-then-not-held_by-clause-outcome : goal.returns-then-not-held_by-clause-outcome
returns-then-not-held_by-clause-outcome g c =
    run_unsettled _ _ _ _ c.args.self.now c.args.cells.now (map g.K.Core.state c.args.cores.now) (simp length-map c.if-not-held_by.ensures)

pub loop-steps-init : goal.loop-steps-init
loop-steps-init g c =
    let a = c.args in
    let four : length a.self.now.done ≡ 4 = search rules in (
      running_start _ _ _ _ a.self.now a.cells.now (map g.K.Core.state a.cores.now) (simp length-map c.if-not-held_by.ensures) four,
      (refl, refl),
      none_known a.store.now a.self.now (length a.cores.now) (length a.cells.now),
    )

pub circle-moved-requires : goal.circle-moved-requires
circle-moved-requires g c = let l = c.loop-steps in rw (l.auto.cores, l.auto.cells) l.invariant.2

pub overflow_add-steps : goal.overflow_add-steps
overflow_add-steps g c =
    let a = c.args in
    let l = c.loop-steps in
    let s = session l.steps l.self l.cells (map g.K.Core.state l.cores) in
    let m = around_moves g.K.Core.next g.K.Core.after a.text.now a.store.now s l.invariant.0.moves.four in
    let n = subst (λ t. Moves l.self t.replayer t.carried) (sym c.circle-moved.ensures.circled) m in
    omega (arith, l.invariant.0.moves.fewer, n.fewer, c.left-total.ensures, c.left-total.type_inv)

pub returns-then-moved-eq0-clause-outcome : goal.returns-then-moved-eq0-clause-outcome
returns-then-moved-eq0-clause-outcome g c =
    let a = c.args in
    let l = c.loop-steps in
    let q = c.circle-moved.new in
    ap (λ e. outcome (Ok e) q.self q.cells (map g.K.Core.state q.cores)) (c.of.ensures.stopped c.loop-steps-test.true)
    ∙ running_stop _ _ _ _ a.self.now a.cells.now (map g.K.Core.state a.cores.now) (session l.steps l.self l.cells (map g.K.Core.state l.cores)) l.invariant.0
    (omega (arith, l.invariant.0.moves.fewer, c.left-total.ensures, c.loop-steps-test.true))
    (session c.circle-moved.result q.self q.cells (map g.K.Core.state q.cores)) c.circle-moved.ensures.circled c.if-moved-eq0.true

pub loop-steps-preserved : goal.loop-steps-preserved
loop-steps-preserved g c =
    let a = c.args in
    let l = c.loop-steps in
    let q = c.circle-moved.new in
    let kept = subst (λ z. SurplusKept z l.cores q.cores l.cells q.cells) l.invariant.0.moves.sizes c.circle-moved.ensures.surplus in (
      running_more _ _ _ _ a.self.now a.cells.now (map g.K.Core.state a.cores.now) (session l.steps l.self l.cells (map g.K.Core.state l.cores)) l.invariant.0
          (omega (arith, l.invariant.0.moves.fewer, c.left-total.ensures, c.loop-steps-test.true))
          (session c.circle-moved.result q.self q.cells (map g.K.Core.state q.cores)) c.circle-moved.ensures.circled c.if-moved-eq0.false,
      (kept.0 ∙ l.invariant.1.0, kept.1 ∙ l.invariant.1.1),
      rw (l.auto.cores, l.auto.cells) at c.circle-moved.ensures.wait,
    )

pub loop-steps-smaller : goal.loop-steps-smaller
loop-steps-smaller g c =
    let a = c.args in
    let l = c.loop-steps in
    let s = session l.steps l.self l.cells (map g.K.Core.state l.cores) in
    let m = around_moves g.K.Core.next g.K.Core.after a.text.now a.store.now s l.invariant.0.moves.four in
    let n = subst (λ t. Moves l.self t.replayer t.carried) (sym c.circle-moved.ensures.circled) m in
    omega (arith, n.fewer, c.if-moved-eq0.false)

pub returns-clause-outcome : goal.returns-clause-outcome
returns-clause-outcome g c =
    let a = c.args in
    let l = c.loop-steps in
    ap (λ e. outcome (Ok e) l.self l.cells (map g.K.Core.state l.cores)) (c.of-2.ensures.finished (omega (arith, c.loop-steps-test.false)))
    ∙ running_over _ _ _ _ a.self.now a.cells.now (map g.K.Core.state a.cores.now) (session l.steps l.self l.cells (map g.K.Core.state l.cores)) l.invariant.0
    (omega (arith, l.invariant.0.moves.fewer, c.left-total.ensures, c.loop-steps-test.false))
