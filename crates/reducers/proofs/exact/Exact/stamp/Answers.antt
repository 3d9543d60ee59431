-- A cell that there is not has no stamp.
use Rattle.std.proofs.Common.{◌≤◌, length, rules}
use Rattle.reducers.proofs.Exacts.{no_stamp}
use Rattle.reducers.proofs.exact.Exact.stamp.Goals as goal

pub returns-in-None : goal.returns-in-None
returns-in-None c =
    let past : length c.args.self.now.cells ≤ c.args.cell = search rules in
    no_stamp c.args.self.now.cells c.args.cell c.args.i c.args.kind c.default.result past c.default.ensures
