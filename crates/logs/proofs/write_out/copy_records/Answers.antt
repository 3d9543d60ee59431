-- In each round the record that was read has room at its place, and what is copied and what is still to be copied make the whole.
use Rattle.std.proofs.Common.{◌≡◌, ◌≤◌, true, length, Some, Ok, sym, ap, ◌∙◌, arith}
use Rattle.records.specs.Faults.{record_fault}
use Rattle.records.specs.Format.{Entry, entry, record_numbers}
use Rattle.records.specs.Reading.{View, view, said}
use Rattle.records.specs.Settings.{fits}
use Rattle.records.specs.Writing.{behind, write_at}
use Rattle.logs.specs.Walk.{look}
use Rattle.logs.specs.WriteOut.{copied}
use Rattle.logs.proofs.Going.{reading_starts, look_fits, round_cursor, round_log, round_inside, round_less, round_again, round_fault}
use Rattle.logs.proofs.WritingOut.{written_at}
use Rattle.logs.proofs.write_out.copy_records.Goals as goal
use Rattle.logs.proofs.write_out.copy_records.Goals.{In-Ok-Some}

-- a round in which a record was read
module _ (c : In-Ok-Some) where
  abbrev read : Entry
  read = entry c.in-Ok-Some.record

  abbrev now : View
  now = view c.next_record.new.self

  said_so : said c.next_record.result ≡ Ok (Some (record_numbers read))
  said_so = ap said (c.in-Ok-Some.is ∙ ap Ok c.in-Ok-Some.field-0-is)

  fitting : fits (length c.loop-record.out) c.args.sizes ≡ true
  fitting = ap (λ n. fits n c.args.sizes) c.loop-record.auto.out ∙ c.requires.fitting

  -- it ends inside its log, and so inside the output's
  room : behind c.loop-record.offset read ≤ c.args.sizes.log_bytes
  room =
      let inside = round_inside look look_fits (view c.loop-record.reader) now _ c.next_record.ensures read said_so in
      omega (arith, inside, c.loop-record.invariant.0, c.loop-record.invariant.1)

pub loop-record-init : goal.loop-record-init
loop-record-init c = (
  c.offset-offset.ensures,
  c.requires.short,
  reading_starts (λ x. copied c.args.sizes c.args.core c.args.from.cursor x.entries c.args.out.now) (view c.args.from),
)

pub invariant_of-placement-clause-room : goal.invariant_of-placement-clause-room
invariant_of-placement-clause-room c = room (goal.at.invariant_of-placement-clause-room c).In-Ok-Some

pub loop-record-smaller : goal.loop-record-smaller
loop-record-smaller c =
    let round = (goal.at.loop-record-smaller c).In-Ok-Some in
    round_less look look_fits (view c.loop-record.reader) (now round) _ c.next_record.ensures (read round) (said_so round)

pub loop-record-preserved : goal.loop-record-preserved
loop-record-preserved c =
    let round = (goal.at.loop-record-preserved c).In-Ok-Some in
    let z = c.args.sizes in
    let j = c.args.core in
    let l = c.loop-record in
    let e = read round in
    let v = view l.reader in
    let w = now round in
    let s = c.next_record.ensures in
    let log = ap length (round_log look look_fits v w _ s e (said_so round)) in
    let cursor = round_cursor look look_fits v w _ s e (said_so round) in
    let put = c.put-offset.ensures in
    let wrote : c.put-offset.new.self.0 ≡ (write_at l.out z j v.cursor e).store =
    put.bytes ∙ sym (written_at z j l.out l.offset e (fitting round) c.requires.inside (room round))
    ∙ ap (λ at. (write_at l.out z j at e).store) l.invariant.0 in (
      put.behind ∙ ap (λ at. behind at e) l.invariant.0 ∙ sym cursor,
      omega (arith, log, l.invariant.1),
      round_again look look_fits v w _ s (λ x. copied z j v.cursor x.entries l.out) _ l.invariant.2 e (said_so round)
          (λ x. copied z j w.cursor x.entries c.put-offset.new.self.0)
          (λ x. (λ i. copied z j (sym cursor i) x.entries (sym wrote i))),
    )

pub returns-in_default-2 : goal.returns-in_default-2
returns-in_default-2 c =
    let l = c.loop-record in
    round_fault look look_fits (view l.reader) (view c.next_record.new.self) (said c.next_record.result) c.next_record.ensures
    (λ x. copied c.args.sizes c.args.core l.reader.cursor x.entries l.out) _ l.invariant.2 (record_fault c.in_default.field-0) (ap said c.in_default.is)
