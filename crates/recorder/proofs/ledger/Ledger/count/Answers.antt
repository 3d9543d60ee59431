-- The position stays in its type.
use Rattle.std.proofs.Common.{◌≡◌, ◌≤◌, length, rules}
use Rattle.recorder.proofs.Counts.{position_fits}
use Rattle.recorder.proofs.ledger.Ledger.count.Goals as goal

pub overflow_add-self : goal.overflow_add-self
overflow_add-self c =
    let self = c.args.self.now in
    let four : length self.logs ≡ 4 = search rules in
    let few : self.position ≤ 262140 = position_fits self.sizes self.logs self.position four self.sound in
    search rules
