-- Where no source count is too large, the logs need not be read once more.
use Rattle.std.proofs.Common.{rules}
use Rattle.logs.proofs.Sources.{read_once}
use Rattle.logs.proofs.session.read_all.Goals as goal

pub returns-else-any_above : goal.returns-else-any_above
returns-else-any_above c =
    let found = c.in_ok-counts.field-0 in
    read_once c.args.logs.store.now c.args.logs.sizes found.counts found.largest c.args.logs.fitting (search rules) (search rules)
    c.in_ok-counts.ensures.counts c.in_ok-counts.ensures.largest (search rules)
