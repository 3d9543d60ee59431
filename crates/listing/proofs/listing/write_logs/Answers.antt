-- The loop lists log by log, and stops behind one that is not read to its end.
use Rattle.std.proofs.Common.{true, false, string_bytes, sym, ◌∙◌, append-nil, rules}
use Rattle.listing.proofs.Logs.{log_written, logs_written}
use Rattle.listing.proofs.listing.write_logs.Goals as goal

pub returns-then-not-branch : goal.returns-then-not-branch
returns-then-not-branch c =
    sym (append-nil (string_bytes c.write_records.new.out))
    ∙ log_written c.args.logs.store.now c.args.logs.sizes c.loop-core.core-counter _ _ c.loop-core.invariant c.in-Ok.reader c.in-Ok.ensures
    (string_bytes c.writeln.new.self) (string_bytes c.write_records.new.out) c.in_ok-write_records.field-0 false (search rules)
    c.in_ok-writeln.ensures.bytes c.in_ok-write_records.ensures c.if-not-branch.true

pub loop-core-preserved : goal.loop-core-preserved
loop-core-preserved c =
    log_written c.args.logs.store.now c.args.logs.sizes c.loop-core.core-counter _ _ c.loop-core.invariant c.in-Ok.reader c.in-Ok.ensures
    (string_bytes c.writeln.new.self) (string_bytes c.write_records.new.out) c.in_ok-write_records.field-0 true (search rules)
    c.in_ok-writeln.ensures.bytes c.in_ok-write_records.ensures c.if-not-branch.false

pub returns : goal.returns
returns c = logs_written c.args.logs.store.now c.args.logs.sizes c.loop-core.core-counter _ _ c.loop-core.invariant (search rules)
