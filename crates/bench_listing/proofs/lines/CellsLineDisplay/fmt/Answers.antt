-- The loop writes each cell's number with a space before it.
use Rattle.std.proofs.Common.{codes, rules}
use Rattle.std.proofs.Output.{has_written_append, has_written_of_eq}
use Rattle.bench_listing.proofs.Texts.{number_more}
use Rattle.bench_listing.proofs.lines.CellsLineDisplay.fmt.Goals as goal

pub loop-cell-preserved : goal.loop-cell-preserved
loop-cell-preserved g c = λ plain.
    has_written_of_eq _ _ _ _ _ (number_more (codes "cells") c.args.self.now.cells.now c.loop-cell.cell-index 0 c.loop-cell-test.true)
    (has_written_append _ _ _ _ _ _ (c.loop-cell.invariant plain) (search rules))
