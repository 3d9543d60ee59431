-- What is written, with the lines of the arcs to come, is the text of all arcs of the log.
use Rattle.std.proofs.Common.{◌-◌, ◌++◌, length, string_bytes}
use Rattle.records.specs.Reading.{view}
use Rattle.logs.specs.Walk.{look, reading_from}
use Rattle.logs.proofs.Going.{Going}
use Rattle.bench_listing.specs.Runs.{log_text}
use Rattle.bench_listing.proofs.listing.write_arcs.Given as goal

abbrev pub invariant-loop-record : goal.invariant-loop-record
invariant-loop-record l =
    Going (λ x. string_bytes l.out ++ log_text l.core x.entries) look
    (string_bytes l.initial.out ++ log_text l.core (reading_from (view l.initial.reader)).entries) (view l.reader)

abbrev pub decreases-loop-record : goal.decreases-loop-record
decreases-loop-record l = length l.reader.log.now - l.reader.cursor
