-- The loop lists the records from where the reader stands on.
use Rattle.std.proofs.Common.{string_bytes, rules}
use Rattle.records.specs.Reading.{view}
use Rattle.logs.proofs.Going.{reading_starts}
use Rattle.listing.proofs.Records.{listed, line_less, line_again, fault_told}
use Rattle.listing.proofs.listing.write_records.Goals as goal

pub loop-line-init : goal.loop-line-init
loop-line-init c = reading_starts (listed (string_bytes c.args.out.now) c.args.core c.args.from.cursor) (view c.args.from)

pub loop-line-smaller : goal.loop-line-smaller
loop-line-smaller c =
    line_less (view c.loop-line.reader) (view c.next_line.new.reader) c.next_line.ensures.after (string_bytes c.loop-line.out) c.args.core _ c.loop-line.invariant
    c.in-Ok-Some.line (search rules)

pub loop-line-preserved : goal.loop-line-preserved
loop-line-preserved c =
    line_again (view c.loop-line.reader) (view c.next_line.new.reader) c.next_line.ensures.after (string_bytes c.loop-line.out) c.args.core _ c.loop-line.invariant
    c.in-Ok-Some.line (search rules) (string_bytes c.writeln.new.self) (search rules)

pub returns-in-Err : goal.returns-in-Err
returns-in-Err c =
    fault_told (view c.loop-line.reader) (view c.next_line.new.reader) c.next_line.ensures.after (string_bytes c.loop-line.out) c.args.core _ c.loop-line.invariant
    c.in-Err.field-0 c.in-Err.ensures.says
