-- What is read from where the reader stands on gives the whole, and the reader stands at the place behind the arcs so far.
use Rattle.std.proofs.Common.{◌≡◌, ◌-◌, length, None}
use Rattle.records.specs.Reading.{view}
use Rattle.replayer.specs.Groups.{at_place, group_at, held_up}
use Rattle.replayer.proofs.Readings.{Reading}
use Rattle.replayer.proofs.group.read_group.Given as goal

abbrev pub invariant-loop-read : goal.invariant-loop-read
invariant-loop-read l =
    let g = l.initial.reader.heading in
    let log = l.initial.reader.log.now in
    Reading l.counts g log l.done l.next (held_up l.done None (group_at l.counts g log l.next l.initial.behind)) l.behind l.waits
    × (view l.reader ≡ at_place g log l.behind)

abbrev pub decreases-loop-read : goal.decreases-loop-read
decreases-loop-read l = length l.reader.log.now - l.reader.cursor
