-- The sizes fit and the space suffices, so that there is a whole session; what it leaves is in the buffers.
use Rattle.std.proofs.Common.{◌≡◌, ℕ, true, List, ◌++◌, map, length, take, drop, sym, ap, ◌∙◌, arith}
use Rattle.std.proofs.lemmas.List.{take_all, drop_all, append-nil, length-map}
use Rattle.std.proofs.lemmas.Bool.{and_parts}
use Rattle.cores.specs.Memory.{rules, start}
use Rattle.records.proofs.Settling.{begins_settled}
use Rattle.records.specs.Settings.{fits}
use Rattle.bench_answer.proofs.Telling.{keeps, kept_as}
use Rattle.bench_answer.proofs.answer.record.Goals as goal

-- a slice that is written back whole
back : {X : Type 0} (n : ℕ) (now old : List X) → length now ≡ length old → n ≡ length old → now ≡ take n (now ++ drop (length now) old)
back n now old long many =
    sym (ap (λ l. take n (now ++ l)) (drop_all (length now) old (omega (arith, long))) ∙ ap (take n) (append-nil now) ∙ take_all n now (omega (arith, long, many)))

pub returns-clause-kept : goal.returns-clause-kept
returns-clause-kept g c =
    let s = c.args.space in
    let t = c.record_and_replay.new in
    let cores_are = c.as_mut_slice.ensures.value in
    let cells_are = c.as_mut_slice-2.ensures.value in
    let store_is = c.as_mut_slice-3.ensures.value in
    let K = rules g.K.Core.next g.K.Core.after c.args.text.now in
    let meets = g.R.Reducer.meets in
    let many_cores : length c.as_mut_slice.result.now ≡ s.sizes.cores = omega (arith, c.as_mut_slice.ensures.len, s.each_core) in
    let many_cells : length c.as_mut_slice-2.result.now ≡ s.sizes.cells = omega (arith, c.as_mut_slice-2.ensures.len, s.each_cell) in
    let long : length t.store ≡ length c.as_mut_slice-3.result.now = omega arith in
    let wide : length t.cells ≡ length c.as_mut_slice-2.result.now = omega arith in
    let begun = and_parts (fits s.store.len s.sizes) _ (begins_settled s.sizes s.cores.len s.cells.len s.store.len s.fitting) in
    let fit : fits (length t.store) s.sizes ≡ true = ap (λ n. fits n s.sizes) (long ∙ c.as_mut_slice-3.ensures.len) ∙ begun.0 in
    let kept = keeps meets K s.sizes c.args.turns.now _ _ _ c.in-Ok.ensures.outcome.1
    (length-map c.as_mut_slice.result.now g.K.Core.state ∙ many_cores) many_cells fit c.finished_steps.result c.finished_steps.ensures in
    kept_as meets K s.sizes c.args.turns.now c.finished_steps.result _ _ _ _ _ _ (λ i. start (cells_are i) (map g.K.Core.state (cores_are i)))
    (back s.store.len t.store s.store.items (long ∙ ap length store_is) (sym c.as_mut_slice-3.ensures.len ∙ ap length store_is))
    (back s.cells.len t.cells s.cells.items (wide ∙ ap length cells_are) (sym c.as_mut_slice-2.ensures.len ∙ ap length cells_are)) kept
