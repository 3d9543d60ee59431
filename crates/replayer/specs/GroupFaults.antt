-- The arcs to a core's next instruction over any bytes, in words: those that stand from its place on, or the first fault among them.
use Rattle.std.specs.Prelude.{◌≡◌, ◌≢◌, ℕ, ◌+◌, ◌<◌, ◌≤◌, true, false, ◌&&◌, ◌↔◌, List, [], ◌∷◌, ◌++◌, map, length, drop, Some, None, Ok, Err, Option, Result, nat_lt, slice_index}
use Rattle.std.specs.List.{AllByRecursion}
use Rattle.records.specs.declared.format.Source.{Source}
use Rattle.records.specs.declared.reading.SavedPlace.{SavedPlace}
use Rattle.records.specs.declared.settings.Heading.{Heading}
use Rattle.records.specs.declared.settings.Sizes.{Sizes}
use Rattle.records.specs.Faults.{Fault, bad_setting, log_fault}
use Rattle.records.specs.Format.{LogArc, head, arc, end, bytes_of, written}
use Rattle.records.specs.Settings.{fits, log_of, heading_of}
use Rattle.logs.specs.Lawful.{Stands, Within, Breaks}
use Rattle.replayer.specs.declared.group.Group.{Group}
use Rattle.replayer.specs.Groups.{past, past_all, source_of, read_group}

-- the place behind arcs that stand one behind the other from a place on
abbrev pub behind : SavedPlace → List LogArc → SavedPlace
behind p arcs = past_all p (map arc arcs)

-- an arc that may stand at a place of this core's log: its target is not below the last one,
-- and not the latest one from its source core
pub record MayStand (g : Heading) (p : SavedPlace) (a : LogArc) : Type 0 where
  pub stands : Stands g a
  pub order : p.last ≤ a.target
  pub once : slice_index p.latest a.source ≢ a.target

-- an end that may stand there: it counts the arcs before it, and none leads beyond its instructions
pub record MayEnd (p : SavedPlace) (instructions arcs : ℕ) : Type 0 where
  pub number : arcs ≡ p.arcs
  pub reached : p.last ≤ instructions

-- arcs that stand one behind the other from a place on, each where it may
abbrev pub InTurn : Heading → SavedPlace → List LogArc → Type 0
InTurn g p [] = Unit {0}
InTurn g p (a ∷ more) = MayStand g p a × InTurn g (past p (arc a)) more

-- what stands at a place breaks a rule: its layer and cause
pub data BreaksAt
    (counts : List ℕ) (g : Heading) (p : SavedPlace) (rest : List ℕ) : ℕ → ℕ → Type 0 where
  no_record : (cause : ℕ) → Breaks g [] rest 1 cause → BreaksAt counts g p rest 1 cause
  head_there : (core cores cells : ℕ) (more : List ℕ) →
      rest ≡ bytes_of (head core cores cells) ++ more → BreaksAt counts g p rest 2 3
  arc_may_not : (a : LogArc) (more : List ℕ) → rest ≡ bytes_of (arc a) ++ more →
      (MayStand g p a → ⊥) → BreaksAt counts g p rest 2 4
  end_may_not : (n k : ℕ) (more : List ℕ) → rest ≡ bytes_of (end n k) ++ more →
      (MayEnd p n k → ⊥) → BreaksAt counts g p rest 2 5
  from_beyond : (a : LogArc) (more : List ℕ) → rest ≡ bytes_of (arc a) ++ more →
      MayStand g p a → slice_index counts a.source < a.count → BreaksAt counts g p rest 3 6

-- what stands at a place breaks no rule, and is no arc to instruction t
pub data EndsAt
    (counts : List ℕ) (g : Heading) (t : ℕ) (p : SavedPlace) (rest : List ℕ) : Type 0 where
  other_arc : (a : LogArc) (more : List ℕ) → rest ≡ bytes_of (arc a) ++ more →
      MayStand g p a → a.count ≤ slice_index counts a.source → a.target ≢ t → EndsAt counts g t p rest
  log_end : (n k : ℕ) (more : List ℕ) → rest ≡ bytes_of (end n k) ++ more →
      MayEnd p n k → EndsAt counts g t p rest

-- the source of the first arc whose source is not done, or none where all are
pub data FirstWait (done : List ℕ) (arcs : List LogArc) : Option Source → Type 0 where
  all_done : Within done arcs → FirstWait done arcs None
  first_waits : (front : List LogArc) (a : LogArc) (more : List LogArc) →
      arcs ≡ front ++ (a ∷ more) → Within done front → slice_index done a.source < a.count →
      FirstWait done arcs (Some (source_of a))

-- in a log, of the arcs to instruction t from a place on
module _ (counts : List ℕ) (g : Heading) (log : List ℕ) (t : ℕ) (p : SavedPlace) where
  -- these stand there, each where it may and from within the counts, and then the rest of the log
  pub record ArcsThere (arcs : List LogArc) (rest : List ℕ) : Type 0 where
    pub bytes : drop p.offset log ≡ written (map arc arcs) ++ rest
    pub to : AllByRecursion (λ a. a.target ≡ t) arcs
    pub lawful : InTurn g p arcs
    pub within : Within counts arcs

  -- the first fault: what stands behind those before it breaks the named rule
  pub record GroupBroken (f : Fault) : Type 0 where
    pub before : List LogArc
    pub rest : List ℕ
    pub there : ArcsThere before rest
    pub core : f.core ≡ g.core
    pub offset : f.offset ≡ p.offset + length (written (map arc before))
    pub breaks : BreaksAt counts g (behind p before) rest f.layer f.cause

  -- all of them: the place behind them, and what is waited for
  pub record GroupRead (done : List ℕ) (x : Group) : Type 0 where
    pub arcs : List LogArc
    pub rest : List ℕ
    pub there : ArcsThere arcs rest
    pub ends : EndsAt counts g t (behind p arcs) rest
    pub place : x.place ≡ behind p arcs
    pub waits : FirstWait done arcs x.waits

-- what reading core j's group may say, in words: refused with 9 exactly for its first fault, read
-- exactly as it stands there, and refused with 8 exactly if the sizes do not fit or there is no such core
pub record GroupExactly
    (store : List ℕ) (z : Sizes) (j : ℕ) (p : SavedPlace) (counts done : List ℕ)
    (says : Result Group (List ℕ)) : Type 0 where
  pub faulty : (f : Fault) →
      (says ≡ Err (log_fault f))
      ↔ ((fits (length store) z && nat_lt j z.cores ≡ true)
      × GroupBroken counts (heading_of z j) (log_of store z j) (slice_index done j + 1) p f)
  pub read : (x : Group) →
      (says ≡ Ok x)
      ↔ ((fits (length store) z && nat_lt j z.cores ≡ true)
      × GroupRead counts (heading_of z j) (log_of store z j) (slice_index done j + 1) p done x)
  pub unfit : (says ≡ Err bad_setting) ↔ (fits (length store) z && nat_lt j z.cores ≡ false)

-- from any place, over any bytes
abbrev pub GroupsReadExactly : Type 0
GroupsReadExactly =
    (store : List ℕ) (z : Sizes) (j : ℕ) (p : SavedPlace) (counts done : List ℕ) →
    AllByRecursion (λ b. b < 256) store →
    GroupExactly store z j p counts done (read_group store z j p counts done)
