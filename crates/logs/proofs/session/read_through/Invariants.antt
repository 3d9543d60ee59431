use Rattle.std.proofs.Common.{◌-◌, length}
use Rattle.records.specs.Reading.{view}
use Rattle.logs.specs.Walk.{look, reading_from}
use Rattle.logs.proofs.Going.{Going}
use Rattle.logs.proofs.Sources.{gives}
use Rattle.logs.proofs.session.read_through.Given as goal

abbrev pub invariant-loop-record : goal.invariant-loop-record
invariant-loop-record l =
    Going (gives l.largest) look (gives l.initial.largest (reading_from (view l.initial.reader))) (view l.reader)

abbrev pub decreases-loop-record : goal.decreases-loop-record
decreases-loop-record l = length l.reader.log.now - l.reader.cursor
