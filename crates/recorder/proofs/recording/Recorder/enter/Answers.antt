-- What a turn that is not refused appends fits, and comes to the entered tape.
use Rattle.std.proofs.Common.{◌≡◌, ◌+◌, ◌-◌, ◌*◌, ◌≤◌, length, refl, ap, ◌∙◌, arith, rules}
use Rattle.accesses.specs.Histories.{present}
use Rattle.records.specs.Format.{end as end_entry, bytes_of, end_size, splice}
use Rattle.records.specs.declared.settings.Sizes.{Sizes}
use Rattle.recorder.specs.Refusals.{book, log_in, touched}
use Rattle.recorder.specs.Turns.{tape, candidates_for}
use Rattle.recorder.proofs.Counts.{position_fits}
use Rattle.recorder.proofs.Enters.{behind_fits, entered_from}
use Rattle.recorder.proofs.Rooms.{log_room, turn_fits}
use Rattle.recorder.proofs.recording.Recorder.enter.Goals as goal
use Rattle.recorder.proofs.recording.Recorder.enter.Given.{Over}
use Rattle.recorder.proofs.recording.Recorder.enter.Goals.{After-log_access}

pub overflow_add-by-2 : goal.overflow_add-by-2
overflow_add-by-2 g c =
    let l = c.args.self.now.ledger in
    let four : length l.logs ≡ 4 = search rules in
    let few : l.position ≤ 262140 = position_fits l.sizes l.logs l.position four l.sound in
    search rules

pub log_access-requires-clause-room : goal.log_access-requires-clause-room
log_access-requires-clause-room g c =
    let l = c.args.self.now.ledger in
    let h = c.args.self.now.history.cells in
    let j = c.args.j in
    let p = c.requires in
    let roomy = l.sound.2 j p.inside in
    let fit = turn_fits (book l) j c.args.request p.unbarred h (length c.args.store.now) p.fitting p.inside roomy.0 roomy.1
    (present (candidates_for l.sizes.cores h j (touched c.args.request))) (omega arith) in
    rw c.get.ensures.same (omega (arith, fit.0))

-- the end record fits behind the arcs, and they behind the head
fit : (g : Over) (c : After-log_access g) →
    let log = c.log_access.new.self in (log.tail.offset + end_size ≤ c.args.self.now.ledger.sizes.log_bytes) × (6 + 7 * log.tail.arcs ≤ log.tail.offset)
fit g c =
    let m = g.R.Reducer in
    let l = c.args.self.now.ledger in
    let p = c.requires in
    let log = c.log_access.new.self in
    let roomy = l.sound.2 c.args.j p.inside in
    behind_fits m.meets (tape m.numbers c.args.self.now c.args.store.now) c.args.j c.args.request
    (m.numbers c.log_access.new.reducer) log.tail log.store.now (length c.args.store.now)
    p.unbarred p.fitting p.inside roomy.0 roomy.1 (rw c.get.ensures.same at c.log_access.ensures.logged)

pub end-requires : goal.end-requires
end-requires g c =
    let bytes = ap (λ (z : Sizes). z.log_bytes) (c.log_access.ensures.same.1 ∙ c.get.ensures.same) in
    let f = fit g (goal.at.end-requires g c).After-log_access in
    record { room = omega (arith, f.0, bytes) }

pub count-requires-clause-behind : goal.count-requires-clause-behind
count-requires-clause-behind g c = (fit g (goal.at.count-requires-clause-behind g c).After-log_access).1

pub count-requires-clause-room : goal.count-requires-clause-room
count-requires-clause-room g c = (fit g (goal.at.count-requires-clause-room g c).After-log_access).0

pub returns-clause-entered : goal.returns-clause-entered
returns-clause-entered g c =
    let m = g.R.Reducer in
    let l = c.args.self.now.ledger in
    let j = c.args.j in
    let log = c.log_access.new.self in
    let same = c.log_access.ensures.same in
    let sizes = same.1 ∙ c.get.ensures.same in
    let roomy = l.sound.2 j c.requires.inside in
    let inside = log_room (length c.args.store.now) l.sizes j c.requires.fitting c.requires.inside in
    let room : j * l.sizes.log_bytes + (log_in (book l) j).end ≤ length c.args.store.now = omega (arith, roomy.1, inside) in
    let last : c.end.new.self.store.now
    ≡ splice (j * l.sizes.log_bytes + log.tail.offset) (bytes_of (end_entry ((log_in (book l) j).instructions + 1) log.tail.arcs)) log.store.now =
    c.end.ensures.bytes
    ∙ (λ i. splice ((same.2 i).core * (sizes i).log_bytes + log.tail.offset) (bytes_of (end_entry (same.2 i).count log.tail.arcs)) log.store.now)
    in
    entered_from m.meets (tape m.numbers c.args.self.now c.args.store.now) j c.args.request
    (m.numbers c.log_access.new.reducer) log.tail log.store.now _
    (log.tail.arcs - (log_in (book l) j).arcs) (book c.count.new.self) c.log_access.new.history.cells
    room (rw c.get.ensures.same at c.log_access.ensures.logged) (search rules) refl c.count.ensures c.log_access.ensures.remembered
