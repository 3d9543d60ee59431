-- The arcs to a core's next instruction, as a step reads them.
use Rattle.std.specs.Prelude.{◌≡◌, ℕ, zero, suc, ◌+◌, Bool, cond, ◌&&◌, List, [], ◌∷◌, length, Some, None, Ok, Err, Option, Result, ◌==◌, nat_le, nat_lt, slice_index, slice_set}
use Rattle.records.specs.declared.faults.Refusal.{Refusal}
use Rattle.records.specs.declared.faults.SessionFault.{SessionFault}
use Rattle.records.specs.declared.reading.SavedPlace.{SavedPlace}
use Rattle.records.specs.declared.settings.Heading.{Heading}
use Rattle.records.specs.declared.settings.Sizes.{Sizes}
use Rattle.records.specs.Faults.{Fault, session_fault, bad_setting, log_fault, refusal}
use Rattle.records.specs.Format.{LogArc, Entry, head, arc, end, bytes_of}
use Rattle.records.specs.Reading.{Sight, View, held, one_more, place_in, resumed}
use Rattle.records.specs.Settings.{fits, log_of, heading_of}
use Rattle.records.specs.declared.format.Source.{Source}
use Rattle.replayer.specs.declared.group.Group.{Group}
use Rattle.replayer.specs.declared.group.ArcRead.{ArcRead}

-- an arc with the place behind it, none where another record stands, or a fault
abbrev pub ArcSight : Type 0
ArcSight = Result (Option (LogArc × SavedPlace)) Fault

abbrev pub passing : LogArc → Option SavedPlace → ArcSight
passing a (Some p) = Ok (Some (a, p))
passing a None = Ok None

-- of what is seen at an offset
abbrev pub arc_of : ℕ → Sight → ArcSight
arc_of at (Ok (Some (arc a, t))) = passing a (place_in (at + length (bytes_of (arc a))) t)
arc_of at (Ok (Some (head _ _ _, t))) = Ok None
arc_of at (Ok (Some (end _ _, t))) = Ok None
arc_of at (Ok None) = Ok None
arc_of at (Err f) = Err f

-- from where a reader stands, held to each core's instructions
abbrev pub arc_seen : List ℕ → View → ArcSight
arc_seen counts v = arc_of v.cursor (held counts v.heading v.log v.cursor v.state)

-- a reader at a place of a log
abbrev pub at_place : Heading → List ℕ → SavedPlace → View
at_place g log p = record { heading = g; log = log; cursor = p.offset; state = resumed p }

-- the place behind an entry that stands at a place, and behind entries
abbrev pub past : SavedPlace → Entry → SavedPlace
past p (head _ _ _) = p
past p (arc a) = record {
  offset = p.offset + length (bytes_of (arc a));
  last = a.target;
  latest = slice_set p.latest a.source a.target;
  arcs = one_more p.arcs;
}
past p (end _ _) = p

abbrev pub past_all : SavedPlace → List Entry → SavedPlace
past_all p [] = p
past_all p (e ∷ more) = past_all (past p e) more

-- arcs that were read, and the place behind them
pub record Grouped : Type 0 where
  pub arcs : List LogArc
  pub behind : SavedPlace

abbrev pub none_at : SavedPlace → Grouped
none_at p = record { arcs = []; behind = p }

abbrev pub joined : LogArc → Result Grouped Fault → Result Grouped Fault
joined a (Ok x) = Ok (record { arcs = a ∷ x.arcs; behind = x.behind })
joined a (Err f) = Err f

abbrev pub picked : ℕ → SavedPlace → ArcSight → (SavedPlace → Result Grouped Fault) → Result Grouped Fault
picked target p (Ok (Some (a, next))) more = cond (a.target == target) (joined a (more next)) (Ok (none_at p))
picked target p (Ok None) more = Ok (none_at p)
picked target p (Err f) more = Err f

-- the arcs to an instruction from a place on, up to the first record that is no such arc, or the first fault among what is read;
-- at most as many as the number says
abbrev pub group : (SavedPlace → ArcSight) → ℕ → ℕ → SavedPlace → Result Grouped Fault
group look target zero p = Ok (none_at p)
group look target (suc f) p = picked target p (look p) (λ next. group look target f next)

-- in a log; no log has as many arcs as bytes
unfoldable pub group_at : List ℕ → Heading → List ℕ → ℕ → SavedPlace → Result Grouped Fault
group_at counts g log target p = group (λ q. arc_seen counts (at_place g log q)) target (suc (length log)) p

-- the source of an arc is done, where the list says how many instructions each core has done
abbrev pub is_done : List ℕ → Source → Bool
is_done done s = nat_le s.count (slice_index done s.core)

abbrev pub source_of : LogArc → Source
source_of a = record { core = a.source; count = a.count }

-- the source of the first arc whose source is not done
abbrev pub waits_for : List ℕ → List LogArc → Option Source
waits_for done [] = None
waits_for done (a ∷ more) = cond (is_done done (source_of a)) (waits_for done more) (Some (source_of a))

abbrev pub or_else : Option Source → Option Source → Option Source
or_else (Some s) other = Some s
or_else None other = other

abbrev pub first_source : Option Source → Source → List ℕ → Option Source
first_source w s done = or_else w (cond (is_done done s) None (Some s))

-- the place behind the arcs, and what is waited for: w, or else the first of them whose source is not done
abbrev pub held_up : List ℕ → Option Source → Result Grouped Fault → Result Group (List ℕ)
held_up done w (Ok x) = Ok (record { place = x.behind; waits = or_else w (waits_for done x.arcs) })
held_up done w (Err f) = Err (log_fault f)

-- the arcs to the next instruction of core j, or the refusal
unfoldable pub read_group : List ℕ → Sizes → ℕ → SavedPlace → List ℕ → List ℕ → Result Group (List ℕ)
read_group store z j p counts done =
    cond (fits (length store) z && nat_lt j z.cores)
    (held_up done None (group_at counts (heading_of z j) (log_of store z j) (slice_index done j + 1) p)) (Err bad_setting)

-- what the calls answer, by the meaning of the code's arcs, faults and refusals
abbrev pub log_arc : ArcRead → LogArc
log_arc x = record { source = x.arc.source.core; count = x.arc.source.count; target = x.arc.target }

abbrev pub arc_as : Result (Option ArcRead) SessionFault → ArcSight
arc_as (Ok (Some x)) = Ok (Some (log_arc x, x.behind))
arc_as (Ok None) = Ok None
arc_as (Err e) = Err (session_fault e)

abbrev pub group_as : Result Group Refusal → Result Group (List ℕ)
group_as (Ok x) = Ok x
group_as (Err e) = Err (refusal e)

-- a reader that read an arc stands behind it
abbrev pub StandsBehind : Result (Option ArcRead) SessionFault → View → View → Type 0
StandsBehind (Ok (Some x)) v w = w ≡ at_place v.heading v.log x.behind
StandsBehind (Ok None) v w = Unit {0}
StandsBehind (Err e) v w = Unit {0}
