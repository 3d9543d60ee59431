-- The logs below this core are written.
use Rattle.std.proofs.Common.{◌≡◌, ◌++◌, string_bytes}
use Rattle.logs.specs.Arcs.{arcs_by_core, logged}
use Rattle.bench_listing.specs.Runs.{arcs_text}
use Rattle.bench_listing.proofs.listing.write_logs.Given as goal

abbrev pub invariant-loop-core : goal.invariant-loop-core
invariant-loop-core l = string_bytes l.out ≡ string_bytes l.initial.out ++ arcs_text (arcs_by_core (logged l.logs.store.now l.logs.sizes) l.core)
