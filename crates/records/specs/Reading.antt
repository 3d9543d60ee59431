-- Reading one record of a log, from the bytes that are left and by how far the log was read.
use Rattle.std.specs.Prelude.{ℕ, ◌+◌, ◌*◌, min, Bool, cond, not, ◌&&◌, List, [], ◌∷◌, length, drop, Some, None, Ok, Err, Option, Result, ◌==◌, nat_le, nat_lt, slice_index, slice_set}
use Rattle.records.specs.declared.faults.Refusal.{Refusal}
use Rattle.records.specs.declared.faults.ByteFault.{ByteFault}
use Rattle.records.specs.declared.faults.RecordFault.{RecordFault}
use Rattle.records.specs.declared.faults.SessionFault.{SessionFault}
use Rattle.records.specs.declared.format.Record.{Record}
use Rattle.records.specs.declared.reading.State.{State}
use Rattle.records.specs.declared.reading.State.TheVariants.{Before, Among, After}
use Rattle.records.specs.declared.reading.SavedPlace.{SavedPlace}
use Rattle.records.specs.declared.store.Logs.{Logs}
use Rattle.records.specs.declared.reading.Reader.{Reader}
use Rattle.records.specs.declared.settings.Sizes.{Sizes}
use Rattle.records.specs.declared.settings.Heading.{Heading}
use Rattle.records.specs.Format.{Entry, head, arc, end, entry, bytes_of, record_numbers}
use Rattle.records.specs.Faults.{Fault, byte_fault, record_fault, session_fault, bad_setting, refusal}
use Rattle.records.specs.Settings.{heading_of, fits, log_of}

-- a fault in the log of a core at an offset
abbrev pub broken : ℕ → ℕ → ℕ → ℕ → Fault
broken layer core at cause = record { layer = layer; core = core; offset = at; cause = cause }

-- what follows each mark, where the record may be cut
abbrev pub count_of : ℕ → ℕ → ℕ
count_of high low = 256 * high + low

abbrev pub head_after : List ℕ → Fault → Result Entry Fault
head_after (core ∷ cores ∷ high ∷ low ∷ _) cut = Ok (head core cores (count_of high low))
head_after (_ ∷ _ ∷ _ ∷ []) cut = Err cut
head_after (_ ∷ _ ∷ []) cut = Err cut
head_after (_ ∷ []) cut = Err cut
head_after [] cut = Err cut

abbrev pub arc_after : List ℕ → Fault → Result Entry Fault
arc_after (source ∷ a ∷ b ∷ c ∷ d ∷ _) cut = Ok (arc (record { source = source; count = count_of a b; target = count_of c d }))
arc_after (_ ∷ _ ∷ _ ∷ _ ∷ []) cut = Err cut
arc_after (_ ∷ _ ∷ _ ∷ []) cut = Err cut
arc_after (_ ∷ _ ∷ []) cut = Err cut
arc_after (_ ∷ []) cut = Err cut
arc_after [] cut = Err cut

abbrev pub end_after : List ℕ → Fault → Result Entry Fault
end_after (a ∷ b ∷ c ∷ d ∷ _) cut = Ok (end (count_of a b) (count_of c d))
end_after (_ ∷ _ ∷ _ ∷ []) cut = Err cut
end_after (_ ∷ _ ∷ []) cut = Err cut
end_after (_ ∷ []) cut = Err cut
end_after [] cut = Err cut

-- the bytes x y are the mark m n
abbrev pub marked : ℕ → ℕ → ℕ → ℕ → Bool
marked m n x y = x == m && y == n

-- the record at the front of the bytes that are left of a core's log
abbrev pub entry_at : ℕ → ℕ → List ℕ → Result Entry Fault
entry_at core at [] = Err (broken 1 core at 1)
entry_at core at (x ∷ []) = Err (broken 1 core at 1)
entry_at core at (x ∷ y ∷ rest) =
    cond (marked 0x48 0x43 x y) (head_after rest (broken 1 core at 1))
    (cond (marked 0x41 0x52 x y) (arc_after rest (broken 1 core at 1))
    (cond (marked 0x45 0x44 x y) (end_after rest (broken 1 core at 1)) (Err (broken 1 core at 2))))

-- an arc behind the target last, where latest has each source core's latest target (0: none)
abbrev pub arc_stands : Heading → ℕ → List ℕ → ℕ → ℕ → ℕ → Bool
arc_stands g last latest i a t =
    nat_lt i g.cores && (not (i == g.core) && (nat_lt 0 a && (nat_lt 0 t && (nat_le last t && not (slice_index latest i == t)))))

-- one arc more, counted up to 65,536, which no end record can say
abbrev pub one_more : ℕ → ℕ
one_more m = min m 65535 + 1

abbrev pub no_targets : List ℕ
no_targets = 0 ∷ 0 ∷ 0 ∷ 0 ∷ []

-- the state after a record, or the rule that it breaks
abbrev pub follows : Heading → State → ℕ → Entry → Result State Fault
follows g Before at (head core cores cells) =
    cond (core == g.core && (cores == g.cores && cells == g.cells)) (Ok (Among 0 no_targets 0)) (Err (broken 2 g.core at 3))
follows g Before at (arc _) = Err (broken 2 g.core at 3)
follows g Before at (end _ _) = Err (broken 2 g.core at 3)
follows g (Among last latest m) at (head _ _ _) = Err (broken 2 g.core at 3)
follows g (Among last latest m) at (arc a) =
    cond (arc_stands g last latest a.source a.count a.target)
    (Ok (Among a.target (slice_set latest a.source a.target) (one_more m))) (Err (broken 2 g.core at 4))
follows g (Among last latest m) at (end n k) =
    cond (m == k && nat_le last n) (Ok (After n)) (Err (broken 2 g.core at 5))
follows g (After n) at _ = Ok (After n)

-- what is seen at a place: a record with the state behind it, nothing after the end, or a fault
abbrev pub Sight : Type 0
Sight = Result (Option (Entry × State)) Fault

abbrev pub passed : Entry → Result State Fault → Sight
passed e (Ok t) = Ok (Some (e, t))
passed e (Err f) = Err f

abbrev pub judged : Heading → State → ℕ → Result Entry Fault → Sight
judged g s at (Ok e) = passed e (follows g s at e)
judged g s at (Err f) = Err f

abbrev pub seen : Heading → List ℕ → ℕ → State → Sight
seen g log at Before = judged g Before at (entry_at g.core at (drop at log))
seen g log at (Among last latest m) = judged g (Among last latest m) at (entry_at g.core at (drop at log))
seen g log at (After n) = Ok None

-- the same, an arc's source count held to the instructions of its source core
abbrev pub sourced : List ℕ → Heading → ℕ → Entry → State → Sight
sourced counts g at (head c p n) t = Ok (Some (head c p n, t))
sourced counts g at (arc a) t = cond (nat_lt (slice_index counts a.source) a.count) (Err (broken 3 g.core at 6)) (Ok (Some (arc a, t)))
sourced counts g at (end n k) t = Ok (Some (end n k, t))

abbrev pub held_at : List ℕ → Heading → ℕ → Sight → Sight
held_at counts g at (Ok (Some (e, t))) = sourced counts g at e t
held_at counts g at (Ok None) = Ok None
held_at counts g at (Err f) = Err f

abbrev pub held : List ℕ → Heading → List ℕ → ℕ → State → Sight
held counts g log at s = held_at counts g at (seen g log at s)

-- a reader by what it reads and how far it has come
pub record View : Type 0 where
  pub heading : Heading
  pub log : List ℕ
  pub cursor : ℕ
  pub state : State

abbrev pub view : Reader → View
view r = record { heading = r.heading; log = r.log.now; cursor = r.cursor; state = r.state }

-- the record that is read next, by its mark and fields, and the reader behind it; a fault, and the end, leave the reader where it is
pub record Next : Type 0 where
  pub says : Result (Option (List ℕ)) Fault
  pub reader : View

abbrev pub moved : View → Entry → State → View
moved v e t = record { heading = v.heading; log = v.log; cursor = v.cursor + length (bytes_of e); state = t }

abbrev pub advanced : View → Sight → Next
advanced v (Ok (Some (e, t))) = record { says = Ok (Some (record_numbers e)); reader = moved v e t }
advanced v (Ok None) = record { says = Ok None; reader = v }
advanced v (Err f) = record { says = Err f; reader = v }

abbrev pub next_record : View → Next
next_record v = advanced v (seen v.heading v.log v.cursor v.state)

abbrev pub next_held : List ℕ → View → Next
next_held counts v = advanced v (held counts v.heading v.log v.cursor v.state)

-- what the calls answer, by the meaning of the code's records, faults and refusals
abbrev pub read_as : Result Record ByteFault → Result Entry Fault
read_as (Ok r) = Ok (entry r)
read_as (Err e) = Err (byte_fault e)

abbrev pub judged_as : Result State RecordFault → Result State Fault
judged_as (Ok s) = Ok s
judged_as (Err e) = Err (record_fault e)

abbrev pub seen_as : Result (Option (Record × State)) RecordFault → Sight
seen_as (Ok (Some (r, t))) = Ok (Some (entry r, t))
seen_as (Ok None) = Ok None
seen_as (Err e) = Err (record_fault e)

abbrev pub held_as : Result (Option (Record × State)) SessionFault → Sight
held_as (Ok (Some (r, t))) = Ok (Some (entry r, t))
held_as (Ok None) = Ok None
held_as (Err e) = Err (session_fault e)

-- the record read next, by its mark and fields
abbrev pub said : Result (Option Record) RecordFault → Result (Option (List ℕ)) Fault
said (Ok (Some r)) = Ok (Some (record_numbers (entry r)))
said (Ok None) = Ok None
said (Err e) = Err (record_fault e)

abbrev pub held_said : Result (Option Record) SessionFault → Result (Option (List ℕ)) Fault
held_said (Ok (Some r)) = Ok (Some (record_numbers (entry r)))
held_said (Ok None) = Ok None
held_said (Err e) = Err (session_fault e)

-- the logs of a session, by the store that holds them and their sizes
pub record Held : Type 0 where
  pub store : List ℕ
  pub sizes : Sizes

abbrev pub logs_in : List ℕ → Sizes → Result Held (List ℕ)
logs_in store z = cond (fits (length store) z) (Ok (record { store = store; sizes = z })) (Err bad_setting)

abbrev pub logs_as : Result Logs Refusal → Result Held (List ℕ)
logs_as (Ok l) = Ok (record { store = l.store.now; sizes = l.sizes })
logs_as (Err e) = Err (refusal e)

-- a reader at the front of a core's log, or behind a saved place in it
abbrev pub resumed : SavedPlace → State
resumed p = Among p.last p.latest p.arcs

abbrev pub reader_at : List ℕ → Sizes → ℕ → ℕ → State → Result View (List ℕ)
reader_at store z j at s =
    cond (fits (length store) z && nat_lt j z.cores)
    (Ok (record { heading = heading_of z j; log = log_of store z j; cursor = at; state = s })) (Err bad_setting)

abbrev pub reader_as : Result Reader Refusal → Result View (List ℕ)
reader_as (Ok r) = Ok (view r)
reader_as (Err e) = Err (refusal e)

-- where among the arcs a reader stands
abbrev pub place_in : ℕ → State → Option SavedPlace
place_in at Before = None
place_in at (Among last latest m) = Some (record { offset = at; last = last; latest = latest; arcs = m })
place_in at (After n) = None

-- the instructions that the end record gave
abbrev pub instructions_in : State → ℕ
instructions_in Before = 0
instructions_in (Among _ _ _) = 0
instructions_in (After n) = n
