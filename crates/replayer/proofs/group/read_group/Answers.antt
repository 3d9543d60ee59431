-- Each round reads one arc more; the first record that is none, and a fault, give what the whole gives.
use Rattle.std.proofs.Common.{◌≡◌, ◌+◌, true, ◌&&◌, ltb, length, get_or, Some, None, Ok, Err, sym, ap, ◌∙◌, subst, arith, rules}
use Rattle.records.specs.declared.faults.Refusal.TheVariants.{LogFault}
use Rattle.records.specs.Faults.{refusal, session_fault}
use Rattle.records.specs.Reading.{view}
use Rattle.records.specs.Settings.{fits, log_of, heading_of}
use Rattle.replayer.specs.Groups.{arc_seen, arc_as, at_place, group_at, held_up, read_group, group_as, log_arc, StandsBehind}
use Rattle.replayer.proofs.FirstFaults.{group_says_exactly}
use Rattle.replayer.proofs.Readings.{Reading, arc_fits, reading_fault, reading_none, reading_other, reading_more, reading_starts, refused_if, resumes, whole_group}
use Rattle.replayer.proofs.group.read_group.Goals as goal
use Rattle.replayer.proofs.group.read_group.Goals.{In_ok-reader, In-Some}

-- the reader stands at the place
placed : (c : In_ok-reader) → (fits (length c.args.store.now) c.args.sizes && ltb c.args.core c.args.sizes.cores ≡ true)
    × (view c.in_ok-reader.reader ≡ at_place (heading_of c.args.sizes c.args.core) (log_of c.args.store.now c.args.sizes c.args.core) c.args.place)
placed c = resumes c.args.store.now c.args.sizes c.args.core c.args.place c.in_ok-reader.reader c.in_ok-reader.ensures

-- what its log gives is what the core's log gives
whole : (c : In_ok-reader) →
    held_up c.args.done.now None (group_at c.args.counts.now c.in_ok-reader.reader.heading c.in_ok-reader.reader.log.now (get_or c.args.done.now c.args.core 0 + 1) c.args.place)
    ≡ read_group c.args.store.now c.args.sizes c.args.core c.args.place c.args.counts.now c.args.done.now
whole c =
    whole_group c.args.store.now c.args.sizes c.args.core c.args.place c.args.counts.now c.args.done.now
    (view c.in_ok-reader.reader) (placed c).0 (placed c).1

-- what stood at the place behind the arcs so far
saw : (c : In-Some) → arc_seen c.args.counts.now (at_place c.in_ok-reader.reader.heading c.in_ok-reader.reader.log.now c.loop-read.behind) ≡ Ok (Some (log_arc c.in-Some.read, c.in-Some.read.behind))
saw c = ap (arc_seen c.args.counts.now) (sym c.loop-read.invariant.1) ∙ sym c.next_arc.ensures.arc ∙ ap arc_as (c.in_ok-read.was ∙ ap Ok c.in-Some.is)

pub returns-in_err-reader-clause-answer : goal.returns-in_err-reader-clause-answer
unfolding read_group
returns-in_err-reader-clause-answer c =
    let a = c.args in
    let is : c.from_residual.result ≡ Err c.in_err-reader.field-0.0 = search rules in
    ap group_as is
    ∙ refused_if a.store.now a.sizes a.core a.place (fits (length a.store.now) a.sizes && ltb a.core a.sizes.cores)
    (refusal c.in_err-reader.field-0.0) (at_place (heading_of a.sizes a.core) (log_of a.store.now a.sizes a.core) a.place) _ c.in_err-reader.ensures

pub loop-read-init : goal.loop-read-init
loop-read-init c =
    let q = (placed (goal.at.loop-read-init c).In_ok-reader).1 in
    let r = c.in_ok-reader.reader in (
      reading_starts c.args.counts.now r.heading r.log.now c.args.done.now (get_or c.args.done.now c.args.core 0 + 1) c.args.place,
      (λ i. record { heading = r.heading; log = r.log.now; cursor = (q i).cursor; state = (q i).state }),
    )

pub returns-in_err-read-clause-answer : goal.returns-in_err-read-clause-answer
returns-in_err-read-clause-answer c =
    let a = c.args in
    let r = c.in_ok-reader.reader in
    let is : c.from_residual-in_err-read.result ≡ Err (LogFault c.in_err-read.field-0.0) = search rules in
    ap group_as is
    ∙ reading_fault a.counts.now r.heading r.log.now a.done.now _ _ c.loop-read.behind c.loop-read.waits c.loop-read.invariant.0
    (session_fault c.in_err-read.field-0.0) (ap (arc_seen a.counts.now) (sym c.loop-read.invariant.1) ∙ sym c.in_err-read.ensures.arc)
    ∙ whole (goal.at.returns-in_err-read-clause-answer c).In_ok-reader

-- the reader that read an arc stands behind it
on : (c : In-Some) → view c.next_arc.new.reader ≡ at_place c.in_ok-reader.reader.heading c.in_ok-reader.reader.log.now c.in-Some.read.behind
on c =
    subst (λ r. StandsBehind r (view c.loop-read.reader) (view c.next_arc.new.reader)) (c.in_ok-read.was ∙ ap Ok c.in-Some.is) c.next_arc.ensures.behind
    ∙ ap (λ v. at_place v.heading v.log c.in-Some.read.behind) c.loop-read.invariant.1

pub loop-read-smaller : goal.loop-read-smaller
loop-read-smaller c =
    let w = (goal.at.loop-read-smaller c).In-Some in
    let q = saw w in
    let f = arc_fits c.args.counts.now (at_place c.in_ok-reader.reader.heading c.in_ok-reader.reader.log.now c.loop-read.behind) (log_arc c.in-Some.read) c.in-Some.read.behind q in
    let old = c.loop-read.invariant.1 in
    let log : length c.loop-read.reader.log.now ≡ length c.in_ok-reader.reader.log.now = ap (λ v. length v.log) old in
    let at : c.loop-read.reader.cursor ≡ c.loop-read.behind.offset = ap (λ v. v.cursor) old in
    let log' : length c.next_arc.new.reader.log.now ≡ length c.in_ok-reader.reader.log.now = ap (λ v. length v.log) (on w) in
    let at' : c.next_arc.new.reader.cursor ≡ c.in-Some.read.behind.offset = ap (λ v. v.cursor) (on w) in
    omega (arith, f.0, f.1)

pub loop-read-preserved : goal.loop-read-preserved
loop-read-preserved c =
    let w = (goal.at.loop-read-preserved c).In-Some in
    let a = c.args in
    let r = c.in_ok-reader.reader in (
      subst (Reading a.counts.now r.heading r.log.now a.done.now _ _ c.in-Some.read.behind) (sym c.first_wait-waits.ensures)
          (reading_more a.counts.now r.heading r.log.now a.done.now _ _ c.loop-read.behind c.loop-read.waits c.loop-read.invariant.0
          (log_arc c.in-Some.read) c.in-Some.read.behind (saw w) c.if-read-next.false),
      on w,
    )

pub returns-then-read-next-clause-answer : goal.returns-then-read-next-clause-answer
returns-then-read-next-clause-answer c =
    let a = c.args in
    let r = c.in_ok-reader.reader in
    reading_other a.counts.now r.heading r.log.now a.done.now _ _ c.loop-read.behind c.loop-read.waits c.loop-read.invariant.0
    (log_arc c.in-Some.read) c.in-Some.read.behind (saw (goal.at.returns-then-read-next-clause-answer c).In-Some) c.if-read-next.true
    ∙ whole (goal.at.returns-then-read-next-clause-answer c).In_ok-reader

pub returns-in_default-clause-answer : goal.returns-in_default-clause-answer
returns-in_default-clause-answer c =
    let a = c.args in
    let r = c.in_ok-reader.reader in
    reading_none a.counts.now r.heading r.log.now a.done.now _ _ c.loop-read.behind c.loop-read.waits c.loop-read.invariant.0
    (ap (arc_seen a.counts.now) (sym c.loop-read.invariant.1) ∙ sym c.next_arc.ensures.arc ∙ ap arc_as (c.in_ok-read.was ∙ ap Ok c.in_default.is))
    ∙ whole (goal.at.returns-in_default-clause-answer c).In_ok-reader

-- each in words
pub returns-in_err-reader-clause-exactly : goal.returns-in_err-reader-clause-exactly
returns-in_err-reader-clause-exactly c = group_says_exactly c.args.store.now c.args.sizes c.args.core c.args.place c.args.counts.now c.args.done.now _ c.type_inv.store (returns-in_err-reader-clause-answer c)

pub returns-in_err-read-clause-exactly : goal.returns-in_err-read-clause-exactly
returns-in_err-read-clause-exactly c = group_says_exactly c.args.store.now c.args.sizes c.args.core c.args.place c.args.counts.now c.args.done.now _ c.type_inv.store (returns-in_err-read-clause-answer c)

pub returns-then-read-next-clause-exactly : goal.returns-then-read-next-clause-exactly
returns-then-read-next-clause-exactly c = group_says_exactly c.args.store.now c.args.sizes c.args.core c.args.place c.args.counts.now c.args.done.now _ c.type_inv.store (returns-then-read-next-clause-answer c)

pub returns-in_default-clause-exactly : goal.returns-in_default-clause-exactly
returns-in_default-clause-exactly c = group_says_exactly c.args.store.now c.args.sizes c.args.core c.args.place c.args.counts.now c.args.done.now _ c.type_inv.store (returns-in_default-clause-answer c)
