-- What is written with the lines of the records to come, and the verdict on them, are those of the whole log.
use Rattle.std.proofs.Common.{◌-◌, length, string_bytes}
use Rattle.records.specs.Reading.{view}
use Rattle.logs.specs.Walk.{look, reading_from}
use Rattle.logs.proofs.Going.{Going}
use Rattle.listing.proofs.Records.{listed}
use Rattle.listing.proofs.listing.write_records.Given as goal

abbrev pub invariant-loop-line : goal.invariant-loop-line
invariant-loop-line l =
    Going (listed (string_bytes l.out) l.core l.reader.cursor) look
    (listed (string_bytes l.initial.out) l.core l.initial.reader.cursor (reading_from (view l.initial.reader))) (view l.reader)

abbrev pub decreases-loop-line : goal.decreases-loop-line
decreases-loop-line l = length l.reader.log.now - l.reader.cursor
