-- What is written, with the logs to come, is what is listed of all logs.
use Rattle.std.proofs.Common.{◌≡◌, ◌-◌, ◌++◌, string_bytes}
use Rattle.listing.specs.Listing.{logs_from}
use Rattle.listing.proofs.listing.write_logs.Given as goal

abbrev pub invariant-loop-core : goal.invariant-loop-core
invariant-loop-core l =
    string_bytes l.out ++ logs_from l.logs.store.now l.logs.sizes (l.logs.sizes.cores - l.core-counter) l.core-counter
    ≡ string_bytes l.initial.out ++ logs_from l.logs.store.now l.logs.sizes l.logs.sizes.cores 0
