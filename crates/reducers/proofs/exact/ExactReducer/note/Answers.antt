-- The cell's stamps take what the core knows.
use Rattle.std.proofs.Common.{◌<◌, length, rules, sym}
use Rattle.std.proofs.lemmas.Bool.{and_from, lt-ltb}
use Rattle.reducers.proofs.Exacts.{stamps_noted}
use Rattle.reducers.proofs.exact.ExactReducer.note.Goals as goal

pub returns-then-cell-lt256 : goal.returns-then-cell-lt256
returns-then-cell-lt256 c =
    let inside : c.args.cell < length c.args.self.now.cells = search rules in
    rw (and_from _ _ (lt-ltb _ _ c.if-j-lt4.true) (lt-ltb _ _ c.if-cell-lt256.true), c.note.ensures.noted)
    (stamps_noted c.args.self.now c.args.j c.args.cell c.args.kind c.row-row.result inside c.if-j-lt4.true (rw (sym c.note.ensures.noted) c.note.ensures.four) c.row-row.ensures)
