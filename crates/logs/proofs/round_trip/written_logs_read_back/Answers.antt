-- A log that is written by the rules holds, and a log that holds is read as it says.
use Rattle.std.proofs.Common.{◌++◌, refl}
use Rattle.logs.proofs.Paths.{holds_read}
use Rattle.logs.specs.Lawful.{whole}
use Rattle.records.specs.Format.{written}
use Rattle.logs.proofs.round_trip.written_logs_read_back.Goals as goal

pub returns : goal.returns
returns c = λ g arcs n behind four few l r.
    holds_read g (written (whole g arcs n) ++ behind) arcs n four few (record { lawful = l; reached = r; rest = behind; bytes = refl })
