-- One candidate more: it is judged by the rule, and its arc has room.
use Rattle.std.proofs.Common.{◌≡◌, ◌+◌, ◌*◌, ◌<◌, ◌≤◌, length, get_or, None, refl, ap, ◌∙◌, arith, rules}
use Rattle.std.proofs.lemmas.List.{at_drop_more}
use Rattle.accesses.proofs.Few.{one_le}
use Rattle.accesses.specs.Histories.{present}
use Rattle.recorder.specs.declared.arcs.Tail.{Tail}
use Rattle.recorder.proofs.Rooms.{log_room}
use Rattle.recorder.proofs.Trails.{logged_none, logged_more, fresh_few}
use Rattle.recorder.proofs.arcs.CoreLog.log_arcs.Goals as goal

pub loop-candidate-init : goal.loop-candidate-init
loop-candidate-init g c =
    let m = g.R.Reducer in
    let a = c.args.self.now in
    ((refl, refl, refl), omega arith, omega arith, logged_none m.meets a.sizes c.args.cell a.by (m.numbers c.args.reducer.now) a.tail a.store.now)

pub loop-candidate-preserved : goal.loop-candidate-preserved
loop-candidate-preserved g c =
    let m = g.R.Reducer in
    let a = c.args.self.now in
    let l = c.loop-candidate in
    let e = c.log_one.ensures in
    let xs = c.args.candidates in
    let i = l.candidate-index in
    let three : length xs ≡ 3 = search rules in
    let within : i < length xs = omega arith in
    let more = at_drop_more present xs i None within in
    let few = fresh_few l.self.by (m.numbers l.reducer) (get_or xs i None) in
    let offset = ap (λ (t : Tail). t.offset) e.tail in
    let arcs = ap (λ (t : Tail). t.arcs) e.tail in
    let single = one_le (get_or xs i None) in
    let inside = log_room (length a.store.now) a.sizes a.by.core a.fitting a.inside in
    let room : a.by.core * a.sizes.log_bytes + a.tail.offset ≤ length a.store.now = omega (arith, inside, c.requires.room) in (
      (e.same.0 ∙ l.invariant.0.0, e.same.1 ∙ l.invariant.0.1, e.same.2 ∙ l.invariant.0.2),
      omega (arith, l.invariant.1, more, offset, few.0, few.1),
      omega (arith, l.invariant.2, arcs, few.1, single),
      logged_more m.meets a.sizes c.args.cell a.by (m.numbers c.args.reducer.now) (m.numbers l.reducer) (m.numbers c.log_one.new.reducer)
          xs i None a.tail l.self.tail c.log_one.new.self.tail a.store.now l.self.store.now c.log_one.new.self.store.now l.self.sizes l.self.by
          within room l.invariant.3 l.invariant.0.1 l.invariant.0.2 e.judged e.bytes e.tail,
    )
