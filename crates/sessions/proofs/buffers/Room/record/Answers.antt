-- One turn more in the row.
use Rattle.std.proofs.Common.{◌≡◌, length, vec_items, sym, refl, ap, ◌∙◌, subst, arith}
use Rattle.std.proofs.lemmas.List.{length-map}
use Rattle.cores.specs.Memory.{rules}
use Rattle.records.specs.Settings.{SurplusKept}
use Rattle.recorder.specs.Turns.{scene, said, answered}
use Rattle.recordings.proofs.ByTheRules.{turn_sizes}
use Rattle.sessions.proofs.Rows.{row_starts, row_goes}
use Rattle.sessions.proofs.buffers.Room.record.Goals as goal

pub loop-j-init : goal.loop-j-init
loop-j-init g c =
    let n = g.R.Reducer.numbers in
    let s = g.K.Core.state in
    let a = c.args in (
      a.self.now.turns.ok.0 ∙ ap length c.requires.0,
      c.requires.1,
      refl,
      (refl, refl),
      row_starts g.R.Reducer.meets (rules g.K.Core.next g.K.Core.after a.text.now) (scene n s a.recorder.now a.cores.now a.cells.now a.store.now) (vec_items a.self.now.turns) c.requires.0,
      (refl, refl, refl, refl, refl),
    )

pub loop-j-preserved : goal.loop-j-preserved
loop-j-preserved g c =
    let n = g.R.Reducer.numbers in
    let s = g.K.Core.state in
    let a = c.args in
    let K = rules g.K.Core.next g.K.Core.after a.text.now in
    let l = c.loop-j in
    let t = c.turn.new in
    let v = scene n s l.recorder l.cores l.cells l.store in
    let v' = scene n s t.self t.cores t.cells t.store in
    let T = c.turn.ensures.outcome in
    let r = c.turn.result in
    let sizes : t.self.ledger.sizes ≡ l.recorder.ledger.sizes = turn_sizes g.R.Reducer.meets K _ v (answered (said r) v') T in
    let kept = subst (λ y. SurplusKept y l.cores t.cores l.cells t.cells) l.invariant.2 c.turn.ensures.surplus in
    let cells : length t.cells ≡ length l.cells = omega arith in
    let cores : length t.cores ≡ length l.cores = omega arith in
    let store : length t.store ≡ length l.store = omega arith in (
      omega (arith, l.invariant.0, c.push_reserved.ensures.len),
      omega (arith, l.invariant.1, c.push_reserved.ensures.capacity),
      sizes ∙ l.invariant.2,
      (kept.0 ∙ l.invariant.3.0, kept.1 ∙ l.invariant.3.1),
      row_goes g.R.Reducer.meets K (scene n s a.recorder.now a.cores.now a.cells.now a.store.now) a.turns.now l.j-index
          (vec_items l.self.turns) (vec_items c.push_reserved.new.self) v v' r c.loop-j-test.true l.invariant.4 T
          cells (length-map t.cores s ∙ cores ∙ sym (length-map l.cores s)) store c.push_reserved.ensures.items,
      l.invariant.5,
    )
