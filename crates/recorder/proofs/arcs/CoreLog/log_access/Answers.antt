-- A request that touches no cell logs nothing.
use Rattle.std.proofs.Common.{sym}
use Rattle.recorder.specs.Refusals.{touched}
use Rattle.recorder.proofs.Enters.{accessed_none}
use Rattle.recorder.proofs.arcs.CoreLog.log_access.Goals as goal

pub returns-in_default-clause-logged : goal.returns-in_default-clause-logged
returns-in_default-clause-logged g c =
    let m = g.R.Reducer in
    let a = c.args.self.now in
    accessed_none m.meets a.sizes c.args.history.now.cells a.by (touched c.args.request) (m.numbers c.args.reducer.now) a.tail a.store.now (sym c.in_default.ensures)
