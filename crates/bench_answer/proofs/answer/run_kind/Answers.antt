-- Each of the three reducers has one choice.
use Rattle.std.proofs.Common.{◌≡◌, map, replicate, string_bytes, refl}
use Rattle.bench_input.specs.declared.input.Reduction.TheVariants.{KeepAll, Pairwise, Exact}
use Rattle.cores.specs.Memory.{rules, start}
use Rattle.reducers.specs.Numbers.{zeros}
use Rattle.reducers.specs.Rows.{known_only, KnownOnly}
use Rattle.runs.proofs.Decided.{only_known}
use Rattle.reducers.specs.Decided.{exactly, nothing}
use Rattle.bench_answer.specs.Answer.{sizes_for}
use Rattle.std.proofs.lemmas.Result.{IfOk-weaker}
use Rattle.bench_answer.proofs.Telling.{told_reduced}
use Rattle.bench_answer.proofs.answer.run_kind.Goals as goal

pub returns-in-KeepAll : goal.returns-in-KeepAll
returns-in-KeepAll g c =
    let a = c.args.input.now in
    IfOk-weaker c.run_session.result _ _
    (λ s h. told_reduced (λ n _. n ≡ zeros) a.reduction KeepAll c.in-KeepAll.is nothing (λ n b q. q) refl (rules g.K.Core.next g.K.Core.after a.text.items)
    (sizes_for a.cores a.cells) (start (replicate a.cells 0) (map g.K.StartingCore.first a.starts.items)) a.turns.items (string_bytes s) h)
    c.run_session.ensures

pub returns-in-Pairwise : goal.returns-in-Pairwise
returns-in-Pairwise g c =
    let a = c.args.input.now in
    IfOk-weaker c.run_session-in-Pairwise.result _ _
    (λ s h. told_reduced KnownOnly a.reduction Pairwise c.in-Pairwise.is known_only only_known refl (rules g.K.Core.next g.K.Core.after a.text.items)
    (sizes_for a.cores a.cells) (start (replicate a.cells 0) (map g.K.StartingCore.first a.starts.items)) a.turns.items (string_bytes s) h)
    c.run_session-in-Pairwise.ensures

pub returns-in-Exact : goal.returns-in-Exact
returns-in-Exact g c =
    let a = c.args.input.now in
    IfOk-weaker c.run_session-in-Exact.result _ _
    (λ s h. told_reduced ◌≡◌ a.reduction Exact c.in-Exact.is exactly (λ n b q. q) refl (rules g.K.Core.next g.K.Core.after a.text.items)
    (sizes_for a.cores a.cells) (start (replicate a.cells 0) (map g.K.StartingCore.first a.starts.items)) a.turns.items (string_bytes s) h)
    c.run_session-in-Exact.ensures
