-- The loop writes log by log.
use Rattle.std.proofs.Common.{string_bytes}
use Rattle.logs.specs.Arcs.{logged}
use Rattle.bench_listing.proofs.Arcs.{none_written, log_written}
use Rattle.bench_listing.proofs.listing.write_logs.Goals as goal

pub loop-core-init : goal.loop-core-init
loop-core-init c = none_written (logged c.in-Ok.logs.store.now c.in-Ok.logs.sizes) (string_bytes c.args.out.now)

pub loop-core-preserved : goal.loop-core-preserved
loop-core-preserved c =
    log_written c.in-Ok.logs.store.now c.in-Ok.logs.sizes c.loop-core.core c.in-Ok-reader.reader c.in-Ok-reader.ensures
    (string_bytes c.args.out.now) (string_bytes c.loop-core.out) (string_bytes c.write_arcs.new.out) c.loop-core.invariant c.in_ok-write_arcs.ensures
