-- A new reducer knows nothing.
use Rattle.reducers.proofs.Exacts.{cells_blank}
use Rattle.reducers.proofs.exact.Exact.new.Goals as goal

pub returns : goal.returns
returns c = cells_blank c.default.result c.default.ensures.0 c.default.ensures.1 c.new.result.rows c.new.ensures
