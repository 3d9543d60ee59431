use Rattle.std.proofs.Common.{◌-◌, length}
use Rattle.records.specs.Reading.{view}
use Rattle.logs.specs.Walk.{look_held, holding_from}
use Rattle.logs.proofs.Going.{Going}
use Rattle.logs.proofs.session.hold_through.Given as goal

abbrev pub invariant-loop : goal.invariant-loop
invariant-loop l = Going (λ x. x.verdict) (look_held l.counts) (holding_from l.counts (view l.initial.reader)).verdict (view l.reader)

abbrev pub decreases-loop : goal.decreases-loop
decreases-loop l = length l.reader.log.now - l.reader.cursor
