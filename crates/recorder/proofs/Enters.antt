-- A turn that is not refused, on the recorder's side: its arcs, its end record and its count.
use Rattle.std.proofs.Common.{◌≡◌, ℕ, ◌+◌, ◌-◌, ◌*◌, ◌<◌, ◌≤◌, true, List, [], ◌∷◌, ◌++◌, map, length, None, Option, sym, refl, ap, ◌∙◌, subst, arith}
use Rattle.accesses.specs.declared.access.Access.{Access}
use Rattle.accesses.specs.declared.history.CellHistory.{CellHistory}
use Rattle.cores.specs.declared.interface.Request.{Request}
use Rattle.logs.proofs.Judging.{written_append}
use Rattle.records.proofs.Splices.{splice_none}
use Rattle.records.specs.Format.{Entry, arc, end, bytes_of, end_size, written, splice}
use Rattle.records.specs.Settings.{fits}
use Rattle.records.specs.declared.settings.Sizes.{Sizes}
use Rattle.reducers.specs.Numbers.{Numbers, Meets}
use Rattle.recorder.specs.Judged.{moved}
use Rattle.recorder.specs.Refusals.{Book, log_in, touched, barred, counted_in}
use Rattle.recorder.specs.Turns.{candidates_for, remembered_as, Accessed, Tape, new_arcs, next_access, Entered}
use Rattle.recorder.specs.declared.arcs.Tail.{Tail}
use Rattle.recorder.specs.declared.rules.Touch.{Touch}
use Rattle.recorder.proofs.Rooms.{arcs_size, turn_fits}
use Rattle.recorder.proofs.Trails.{moved_none, put_put}

-- what touches no cell leaves all as it was
pub accessed_none : (meets : Meets) (z : Sizes) (history : List CellHistory) (by : Access) (touch : Option Touch) (n : Numbers) (t : Tail) (store : List ℕ) →
    touch ≡ None → Accessed meets z history by touch n n t store t store
accessed_none meets z history by touch n t store e =
    let a : Accessed meets z history by None n n t store t store =
    record { trail = []; within = (refl, refl); bytes = sym (splice_none (by.core * z.log_bytes + t.offset) store); tail = moved_none t }
    in
    subst (λ o. Accessed meets z history by o n n t store t store) (sym e) a

module _ (meets : Meets) (t : Tape) (j : ℕ) (request : Request) where
  abbrev base : ℕ
  base = j * t.book.sizes.log_bytes

  abbrev pub before : Tail
  before = record { offset = (log_in t.book j).end; arcs = (log_in t.book j).arcs }

  -- the end record fits behind the arcs, and they behind the head
  pub behind_fits : (n' : Numbers) (behind : Tail) (store2 : List ℕ) (bytes : ℕ) → barred t.book j request ≡ 0 → fits bytes t.book.sizes ≡ true → j < t.book.sizes.cores →
      6 + 7 * (log_in t.book j).arcs ≤ (log_in t.book j).end → (log_in t.book j).end + end_size ≤ t.book.sizes.log_bytes →
      Accessed meets t.book.sizes t.history (next_access t.book j) (touched request) t.numbers n' before t.store behind store2 →
      (behind.offset + end_size ≤ t.book.sizes.log_bytes) × (6 + 7 * behind.arcs ≤ behind.offset)
  behind_fits n' behind store2 bytes e q here under inside f =
      let xs = candidates_for t.book.sizes.cores t.history j (touched request) in
      let size = arcs_size (next_access t.book j) t.numbers xs f.trail in
      let offset = ap (λ (x : Tail). x.offset) f.tail in
      let arcs = ap (λ (x : Tail). x.arcs) f.tail in
      let fit = turn_fits t.book j request e t.history bytes q here under inside (length (new_arcs t j request f.trail)) size.1 in
      (omega (arith, offset, size.0, fit.0), omega (arith, offset, arcs, size.0))

  pub entered_from : (n' : Numbers) (behind : Tail) (store2 store3 : List ℕ) (arcs : ℕ) (book' : Book) (history' : List CellHistory) →
      base + (log_in t.book j).end ≤ length t.store →
      Accessed meets t.book.sizes t.history (next_access t.book j) (touched request) t.numbers n' before t.store behind store2 →
      store3 ≡ splice (base + behind.offset) (bytes_of (end ((log_in t.book j).instructions + 1) behind.arcs)) store2 →
      arcs ≡ behind.arcs - (log_in t.book j).arcs →
      book' ≡ counted_in t.book j behind.arcs behind.offset →
      history' ≡ remembered_as t.history (next_access t.book j) (touched request) →
      Entered meets t j request arcs (record { store = store3; book = book'; history = history'; numbers = n' })
  entered_from n' behind store2 store3 arcs book' history' room f s k b h =
      let new = new_arcs t j request f.trail in
      let log = log_in t.book j in
      let many : behind.arcs ≡ log.arcs + length new = ap (λ (x : Tail). x.arcs) f.tail in
      let last : ℕ → Entry = λ i. end (log.instructions + 1) i in
      let store : store3 ≡ splice (base + log.end) (written (map arc new ++ (last (log.arcs + length new) ∷ []))) t.store =
      s
      ∙ ap (λ (x : Tail). splice (base + x.offset) (bytes_of (last x.arcs)) store2) f.tail
      ∙ ap (splice (base + (moved before new).offset) (bytes_of (last (log.arcs + length new)))) f.bytes
      ∙ put_put base before new (bytes_of (last (log.arcs + length new))) t.store room
      ∙ ap (λ bs. splice (base + log.end) bs t.store) (sym (written_append (map arc new) (last (log.arcs + length new) ∷ [])))
      in
      record {
        trail = f.trail;
        last = n';
        within = f.within;
        counts = omega (arith, k, many);
        same = λ i. record { store = store i; book = (b ∙ ap (λ (x : Tail). counted_in t.book j x.arcs x.offset) f.tail) i; history = h i; numbers = n' };
      }
