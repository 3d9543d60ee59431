-- The row of the target takes what the source tells, and so the numbers are the most that they may be.
use Rattle.std.proofs.Common.{◌<◌, length, rules, sym, ◌∙◌, refl}
use Rattle.reducers.proofs.Exacts.{told_is, exact_taken}
use Rattle.reducers.proofs.exact.ExactReducer.take.Goals as goal

pub returns-then-in_range : goal.returns-then-in_range
returns-then-in_range c =
    let within : c.args.j < length c.args.self.now.known.rows = search rules in
    let yes = sym c.in_range.ensures ∙ c.if-in_range.true in
    let told = told_is c.args.self.now c.args.source.core c.args.source.count c.args.cell c.args.kind c.told_by-told.result _ yes c.told_by-told.ensures in
    rw yes
    (exact_taken c.args.self.now _ c.args.source.core c.args.source.count c.args.cell c.args.j c.args.kind c.told_by-told.result c.row.result c.max-row.result within told c.row.ensures c.max-row.ensures c.set.ensures refl)
