-- A head, and an end behind it, are a log with no arcs.
use Rattle.std.proofs.Common.{◌≡◌, ◌*◌, ◌≤◌, length, arith, rules}
use Rattle.recorder.specs.Turns.{headed}
use Rattle.recorder.proofs.Rooms.{log_room, head_is}
use Rattle.recorder.proofs.recording.begin_log.Goals as goal

pub returns : goal.returns
returns c =
    let z = c.args.sizes in
    let core = c.args.core in
    let inside = log_room (length c.args.store.now) z core c.requires.fitting c.requires.inside in
    let room : core * z.log_bytes ≤ length c.args.store.now = omega (arith, inside) in
    let log = c.append.new.self in
    let e = c.append.ensures in
    let all : c.end.new.self.store.now ≡ headed z core c.args.store.now =
    head_is z log.sizes core log.tail.offset log.tail.arcs log.by c.args.store.now log.store.now c.end.new.self.store.now room
    e.same.1 e.same.2 e.offset e.arcs e.bytes c.end.ensures.bytes in
    search rules
