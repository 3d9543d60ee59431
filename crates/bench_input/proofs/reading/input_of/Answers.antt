-- Each part is tested, and together they are the session of the numbers.
use Rattle.std.proofs.Common.{ℕ, length, vec_items, ap, arith}
use Rattle.std.specs.declared.alloc.Global.{Global}
use Rattle.std.proofs.lemmas.Result.{err_from_is_err_and}
use Rattle.bench_input.specs.Session.{session_of}
use Rattle.bench_input.proofs.Fitting.{fits_sizes, starts_length}
use Rattle.bench_input.proofs.Refusals.{handed_on, answered}
use Rattle.bench_input.proofs.Sessions.{not_laid_out, none_kind, none_reduction, none_text, read_whole}
use Rattle.bench_input.proofs.reading.input_of.Goals as goal

pub returns-in_err-parts : goal.returns-in_err-parts
returns-in_err-parts c =
    let p = err_from_is_err_and c.from_residual.result c.from_residual.ensures.1 in
    rw (p.1, p.2) (not_laid_out c.args.numbers.now c.in_err-parts.field-0.0 c.in_err-parts.ensures)

pub returns-in_err-try_from : goal.returns-in_err-try_from
returns-in_err-try_from c =
    let p = err_from_is_err_and c.from_residual-in_err-try_from.result c.from_residual-in_err-try_from.ensures.1 in
    let laid = c.in_ok-parts.ensures in
    rw (p.1, p.2) (handed_on (λ k. k) session_of _ _ _ (none_kind c.args.numbers.now c.in_ok-parts.parts laid) (answered _ _ c.in_err-try_from.ensures))

pub returns-in_err-try_from-2 : goal.returns-in_err-try_from-2
returns-in_err-try_from-2 c =
    let p = err_from_is_err_and c.from_residual-in_err-try_from-2.result c.from_residual-in_err-try_from-2.ensures.1 in
    let laid = c.in_ok-parts.ensures in
    rw (p.1, p.2) (handed_on (λ k. k) session_of _ _ _ (none_reduction c.args.numbers.now c.in_ok-parts.parts laid) (answered _ _ c.in_err-try_from-2.ensures))

pub returns-in_err-bytes_of : goal.returns-in_err-bytes_of
returns-in_err-bytes_of c =
    let p = err_from_is_err_and c.from_residual-in_err-bytes_of.result c.from_residual-in_err-bytes_of.ensures.1 in
    let laid = c.in_ok-parts.ensures in
    rw (p.1, p.2) (handed_on (vec_items {X = ℕ} {Z = Global}) session_of _ _ _ (none_text c.args.numbers.now c.in_ok-parts.parts laid) c.in_err-bytes_of.ensures)

pub invariant_of-result : goal.invariant_of-result
invariant_of-result c =
    let laid = c.in_ok-parts.ensures in
    let sizes = fits_sizes c.args.numbers.now laid.sizes in
    record {
      some_cores = (omega (arith, sizes.cores, laid.cores, c.from.ensures), omega (arith, sizes.cores, laid.cores, c.from.ensures));
      some_cells = (omega (arith, sizes.cells, laid.cells, c.from-2.ensures), omega (arith, sizes.cells, laid.cells, c.from-2.ensures));
      each_starts = omega (arith, c.in_ok-from_slice.ensures.len, ap length laid.starts, starts_length c.args.numbers.now sizes, laid.cores, c.from.ensures);
    }

pub returns : goal.returns
returns c =
    let laid = c.in_ok-parts.ensures in
    read_whole c.args.numbers.now c.in_ok-parts.parts laid _ (answered _ _ c.in_ok-try_from.ensures) (answered _ _ c.in_ok-try_from-2.ensures) c.from.ensures c.from-2.ensures
    c.in_ok-bytes_of.ensures c.in_ok-from_slice.ensures.items c.in_ok-cores_of.ensures
