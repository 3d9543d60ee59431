-- Each way out of a step is what the step comes to.
use Rattle.std.proofs.Common.{◌≡◌, ◌+◌, ◌<◌, map, length, drop, set, Ok, Err, sym, ap, ◌∙◌, arith, rules}
use Rattle.cores.proofs.OneCore.{here, tells, others_kept}
use Rattle.cores.proofs.Requests.{same_request}
use Rattle.cores.proofs.Surplus.{stored_surplus, drop_further}
use Rattle.replayer.specs.Answers.{step_refusal, step_numbers}
use Rattle.replayer.specs.Steps.{refused}
use Rattle.replayer.proofs.FirstFaults.{step_says_exactly}
use Rattle.replayer.proofs.Steps.{barred, stays, done}
use Rattle.replayer.proofs.replay.Replayer.step.Goals as goal

pub returns-in_err-group-clause-outcome : goal.returns-in_err-group-clause-outcome
returns-in_err-group-clause-outcome g c =
    let a = c.args in
    let e = c.in_err-group.field-0.0 in
    let is : c.from_residual.result ≡ Err e = search rules in
    ap (λ r. refused g.K.Core.next g.K.Core.after a.text.now a.self.now a.cells.now (map g.K.Core.state a.cores.now) (step_numbers r)) is
    ∙ barred _ _ _ _ _ _ _ _ _ (step_refusal e) c.in_err-group.ensures

pub returns-in_err-count-clause-outcome : goal.returns-in_err-count-clause-outcome
returns-in_err-count-clause-outcome g c =
    let a = c.args in
    let e = c.in_err-count.field-0.0 in
    let may = c.in_ok-group.ensures.1 in
    let inside : a.j < length a.cores.now = omega (arith, may.known, may.enough) in
    let at = here g.K.Core.state a.text.now a.cores.now a.j inside c.index-cores-j.result c.index-cores-j.is in
    let is : c.from_residual-in_err-count.result ≡ Err e = search rules in
    ap (λ r. record { says = step_numbers r; replayer = c.go_on.new.self; cells = a.cells.now; states = map g.K.Core.state a.cores.now }) is
    ∙ stays _ _ _ _ _ _ _ _ _ c.in_ok-group.group c.in_ok-group.ensures.0 may
    c.ask-request.result (same_request _ _ c.ask-request.ensures ∙ ap (g.K.Core.next a.text.now) (sym at)) e c.go_on.new.self c.in_err-count.ensures

pub returns-clause-outcome : goal.returns-clause-outcome
returns-clause-outcome g c =
    let a = c.args in
    let went = c.in_ok-count.ensures in
    let may = c.in_ok-group.ensures.1 in
    let inside : a.j < length a.cores.now = omega (arith, may.known, may.enough) in
    let at = here g.K.Core.state a.text.now a.cores.now a.j inside c.index-cores-j.result c.index-cores-j.is in
    (λ i. record { says = step_numbers (Ok (record { request = c.ask-request.result; count = went.3 i; number = c.carry_out-number.result })); replayer = went.4 i; cells = c.carry_out-number.new.cells; states = map g.K.Core.state (set a.cores.now a.j c.carry_out-number.new.core) })
    ∙ done _ _ _ _ _ _ _ _ _ c.in_ok-group.group c.in_ok-group.ensures.0 may went.0
    c.ask-request.result (same_request _ _ c.ask-request.ensures ∙ ap (g.K.Core.next a.text.now) (sym at)) went.1 went.2
    _ c.carry_out-number.ensures.brings _ c.carry_out-number.ensures.stores _
    (tells g.K.Core.state a.text.now a.cores.now a.j g.K.Core.after c.carry_out-number.result inside c.index-cores-j.result c.index-cores-j.is c.carry_out-number.new.core c.carry_out-number.ensures.tells)

pub returns-clause-others : goal.returns-clause-others
returns-clause-others g c = others_kept c.args.cores.now c.args.j c.carry_out-number.new.core

pub returns-clause-surplus : goal.returns-clause-surplus
returns-clause-surplus g c =
    let a = c.args in (
      drop_further (a.j + 1) a.self.now.sizes.cores (set a.cores.now a.j c.carry_out-number.new.core) a.cores.now (omega (arith, c.in_ok-group.ensures.1.known)) (others_kept a.cores.now a.j c.carry_out-number.new.core).1,
      ap (drop a.self.now.sizes.cells) c.carry_out-number.ensures.stores ∙ stored_surplus c.ask-request.result a.self.now.sizes.cells a.cells.now (sym c.in_ok-count.ensures.2),
    )

-- each in words
pub returns-in_err-group-clause-exactly : goal.returns-in_err-group-clause-exactly
returns-in_err-group-clause-exactly g c = step_says_exactly g.K.Core.state g.K.Core.next g.K.Core.after c.args.text.now c.args.self.now c.args.cells.now c.args.cores.now c.args.store.now c.args.j _ c.type_inv.store (ap (λ o. o.says) (returns-in_err-group-clause-outcome g c))

pub returns-in_err-count-clause-exactly : goal.returns-in_err-count-clause-exactly
returns-in_err-count-clause-exactly g c = step_says_exactly g.K.Core.state g.K.Core.next g.K.Core.after c.args.text.now c.args.self.now c.args.cells.now c.args.cores.now c.args.store.now c.args.j _ c.type_inv.store (ap (λ o. o.says) (returns-in_err-count-clause-outcome g c))

pub returns-clause-exactly : goal.returns-clause-exactly
returns-clause-exactly g c = step_says_exactly g.K.Core.state g.K.Core.next g.K.Core.after c.args.text.now c.args.self.now c.args.cells.now c.args.cores.now c.args.store.now c.args.j _ c.type_inv.store (ap (λ o. o.says) (returns-clause-outcome g c))
