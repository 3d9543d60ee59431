-- The buffers are as long as the sizes say, and the cores stand at their starting items.
use Rattle.std.proofs.Common.{◌≡◌, ◌*◌, vec_len, vec_items, refl, arith}
use Rattle.bench_answer.proofs.Fitting.{settles}
use Rattle.bench_answer.proofs.Telling.{as_many}
use Rattle.bench_answer.proofs.buffers.Space.reserve.Goals as goal

pub invariant_of-result : goal.invariant_of-result
invariant_of-result g c =
    let input = c.args.input.now in
    let made = c.in_ok-cores_at.field-0 in
    let many = as_many g.K.Core.state g.K.StartingCore.first (vec_items made) (vec_items made) c.as_slice.result.now refl c.in_ok-cores_at.ensures in
    let cores : vec_len made ≡ input.cores = omega (arith, many, made.ok, c.as_slice.ensures.len, input.each_starts) in
    let cells : vec_len c.in_ok-vec.field-0 ≡ input.cells = c.in_ok-vec.ensures.len in
    let store : vec_len c.in_ok-vec-2.field-0 ≡ input.cores * 4096 = c.in_ok-vec-2.ensures.len in
    record {
      each_core = cores;
      each_cell = cells;
      fitting = settles input.cores input.cells _ _ _ input.some_cores.0 input.some_cores.1 input.some_cells.0 input.some_cells.1 cores cells store;
    }
