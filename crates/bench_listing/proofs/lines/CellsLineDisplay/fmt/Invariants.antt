-- The word and the numbers so far are written.
use Rattle.std.proofs.Common.{take}
use Rattle.std.specs.Fmt.{HasWritten, IsPlainFormatter}
use Rattle.bench_listing.specs.Lines.{joined}
use Rattle.bench_listing.specs.Runs.{cells_line}
use Rattle.bench_listing.proofs.lines.CellsLineDisplay.fmt.Given as goal

abbrev pub invariant-loop-cell : goal.invariant-loop-cell
invariant-loop-cell g l =
    IsPlainFormatter l.fn.f → HasWritten g.W.Write.write_str_gives l.fn.f (joined (cells_line (take l.cell-index l.cell-items))) l.f
