use Rattle.std.proofs.Common.{rules}
use Rattle.logs.proofs.Sessions.{says_exactly}
use Rattle.logs.proofs.session.read_logs.Goals as goal

pub returns-clause-exactly : goal.returns-clause-exactly
returns-clause-exactly c = says_exactly c.args.store.now c.args.sizes _ c.type_inv.store (search rules)
