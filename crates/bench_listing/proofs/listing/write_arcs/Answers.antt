-- The loop writes a line for each arc that is read.
use Rattle.std.proofs.Common.{◌++◌, string_bytes, rules}
use Rattle.records.specs.Reading.{view}
use Rattle.logs.proofs.Going.{reading_starts}
use Rattle.bench_listing.specs.Runs.{log_text}
use Rattle.bench_listing.proofs.Records.{record_less, record_again, no_record}
use Rattle.bench_listing.proofs.listing.write_arcs.Goals as goal

pub loop-record-init : goal.loop-record-init
loop-record-init c = reading_starts (λ x. string_bytes c.args.out.now ++ log_text c.args.core x.entries) (view c.args.from)

pub loop-record-smaller : goal.loop-record-smaller
loop-record-smaller c =
    record_less (view c.loop-record.reader) (view c.next_record.new.self) c.next_record.result c.next_record.ensures
    (string_bytes c.loop-record.out) c.args.core _ c.loop-record.invariant c.in-Ok-Some.record (search rules)

pub loop-record-preserved : goal.loop-record-preserved
loop-record-preserved c =
    record_again (view c.loop-record.reader) (view c.next_record.new.self) c.next_record.result c.next_record.ensures
    (string_bytes c.loop-record.out) c.args.core _ c.loop-record.invariant c.in-Ok-Some.record (search rules)
    (string_bytes c.write_record.new.out) c.in_ok-write_record.ensures

pub returns-in_default-2 : goal.returns-in_default-2
returns-in_default-2 c =
    no_record (view c.loop-record.reader) (view c.next_record.new.self) c.next_record.result c.next_record.ensures
    (string_bytes c.loop-record.out) c.args.core _ c.loop-record.invariant c.in_default.field-0 c.in_default.is
