-- What was said of the error is a line that says why.
use Rattle.std.proofs.Common.{refl}
use Rattle.anyhow.specs.Error.{error_message}
use Rattle.commands.specs.Inspect.{inspect_line}
use Rattle.commands.proofs.Failing.{said_why}
use Rattle.commands.proofs.inspection.inspect.Goals as goal

pub returns-in-Err : goal.returns-in-Err
returns-in-Err g c =
    rw c.new-in-Err.ensures (said_why inspect_line (error_message c.in-Err.e) _ refl _ _ _ c.in-Err.ensures c.complain.ensures)
