use Rattle.std.proofs.Common.{rules}
use Rattle.logs.proofs.WritingOut.{says_restored}
use Rattle.logs.proofs.write_out.write_logs.Goals as goal

pub returns-clause-restored : goal.returns-clause-restored
returns-clause-restored c = says_restored c.args.store.now c.args.sizes c.args.out.now _ _ c.type_inv.store (search rules)
