-- The parts are cut one after another.
use Rattle.std.proofs.Common.{rules, tests, get_or, refl, ◌∙◌, arith}
use Rattle.std.specs.Int.{IsInRange}
use Rattle.bench_input.proofs.Laying.{text_laid, starts_laid, turns_laid, laid, not_laid}
use Rattle.bench_input.proofs.reading.Layout.of.Goals as goal

pub returns-in_err-turns : goal.returns-in_err-turns
returns-in_err-turns c =
    rw c.from_residual-in_err-turns.ensures (not_laid c.args.numbers.now _ _ _ c.in_ok-starts.rest.now _ _ c.from.ensures c.from-2.ensures c.in-len5-up.len_at_least
    c.in_ok-text.ensures.cases c.in_ok-starts.ensures.cases c.in_err-turns.ensures)

pub returns : goal.returns
returns c =
    let ns = c.args.numbers.now in
    let rest = c.in_ok-starts.rest.now in
    let a = c.in_ok-text.ensures.cases in
    let b = c.in_ok-starts.ensures.cases in
    let k = c.from.ensures in
    let p = c.from-2.ensures in
    let five = c.in-len5-up.len_at_least in
    let cores : IsInRange 1 4 (get_or ns 2 0) = search (rules, tests) in
    let cells : IsInRange 1 256 (get_or ns 3 0) = search (rules, tests) in
    record {
      sizes = laid ns _ _ _ rest _ _ k p five a b cores cells (omega arith) c.in_ok-turns.ensures.0;
      kind = refl;
      reduction = refl;
      cores = refl;
      cells = refl;
      text = text_laid ns _ _ _ rest _ _ k p five a b;
      starts = starts_laid ns _ _ _ rest _ _ k p five a b;
      turns = c.in_ok-turns.ensures.1 ∙ turns_laid ns _ _ _ rest _ _ k p five a b;
    }
