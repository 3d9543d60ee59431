-- The next record goes where the reader stands, the log is no longer than any, and what is copied and still to be copied make the whole.
use Rattle.std.proofs.Common.{◌≡◌, ◌-◌, ◌≤◌, length}
use Rattle.records.specs.Reading.{view}
use Rattle.logs.specs.Walk.{look, reading_from}
use Rattle.logs.specs.WriteOut.{copied}
use Rattle.logs.proofs.Going.{Going}
use Rattle.logs.proofs.write_out.copy_records.Given as goal

abbrev pub invariant-loop-record : goal.invariant-loop-record
invariant-loop-record l =
    (l.offset ≡ l.reader.cursor)
    × (length l.reader.log.now ≤ l.sizes.log_bytes)
    × Going (λ x. copied l.sizes l.core l.reader.cursor x.entries l.out) look
    (copied l.sizes l.core l.initial.reader.cursor (reading_from (view l.initial.reader)).entries l.initial.out) (view l.reader)

abbrev pub decreases-loop-record : goal.decreases-loop-record
decreases-loop-record l = length l.reader.log.now - l.reader.cursor
