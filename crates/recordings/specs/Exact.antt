-- What a recorder logs with the exact reducer: the transitive reduction of program order and conflict order, between cores, each arc once.
use Rattle.std.specs.Prelude.{◌≡◌}
use Rattle.cores.specs.Memory.{Rules, start}
use Rattle.recorder.specs.Turns.{World}
use Rattle.runs.specs.Logged.{ReductionLogged}
use Rattle.traces.specs.Recording.{Recording}
use Rattle.recordings.specs.Sessions.{Session, Records}
use Rattle.recordings.specs.Tracks.{run_of}

abbrev pub ExactRecordsTheReduction : Type 0
ExactRecordsTheReduction =
    (K : Rules) (w : World) (r : Recording) (s : Session) (rec : Records ◌≡◌ K w r s) → ReductionLogged (run_of K (start s.cells s.states) s.turns) rec.arcs
