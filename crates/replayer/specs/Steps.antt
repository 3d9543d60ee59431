-- What an opening and a step come to.
use Rattle.std.specs.Prelude.{◌≡◌, ◌≢◌, ℕ, ◌+◌, ◌<◌, ◌≤◌, true, false, cond, List, [], ◌∷◌, length, get_or, Some, None, Ok, Err, Option, Result, nat_le, slice_index, slice_index_or, slice_set}
use Rattle.cores.specs.declared.interface.Request.{Request}
use Rattle.cores.specs.declared.interface.Request.TheVariants.{Halt}
use Rattle.cores.specs.Acting.{within, told, OthersKept}
use Rattle.cores.specs.Memory.{able, brought, stored}
use Rattle.records.specs.declared.reading.SavedPlace.{SavedPlace}
use Rattle.records.specs.declared.settings.Sizes.{Sizes}
use Rattle.records.specs.Faults.{Fault, bad_setting, log_fault}
use Rattle.records.specs.Reading.{no_targets}
use Rattle.records.specs.Settings.{settled}
use Rattle.logs.specs.Session.{no_counts, session}
use Rattle.replayer.specs.declared.answers.Done.{Done}
use Rattle.replayer.specs.declared.answers.StepRefusal.{StepRefusal}
use Rattle.replayer.specs.declared.answers.StepRefusal.TheVariants.{NoSuchCore, Halted, NoSuchCell, Waits, Replayed, BadSetting, LogFault}
use Rattle.replayer.specs.declared.group.Group.{Group}
use Rattle.records.specs.declared.format.Source.{Source}
use Rattle.replayer.specs.declared.replay.Replayer.{Replayer}
use Rattle.replayer.specs.Answers.{step_refusal, wait_numbers, done_numbers}
use Rattle.replayer.specs.Groups.{read_group}

-- the place behind a log's head
abbrev pub behind_head : SavedPlace
behind_head = record { offset = 6; last = 0; latest = no_targets; arcs = 0 }

-- a replay with nothing done
abbrev pub started : Sizes → List ℕ → Replayer
started z counts =
    record { sizes = z; counts = counts; done = no_counts; places = behind_head ∷ behind_head ∷ behind_head ∷ behind_head ∷ [] }

-- what an opening says, and the replayer that it leaves
pub record Opened : Type 0 where
  pub says : List ℕ
  pub replayer : Replayer

abbrev pub found : Replayer → Sizes → Result (List ℕ) Fault → Opened
found R z (Ok counts) = record { says = 0 ∷ []; replayer = started z counts }
found R z (Err f) = record { says = log_fault f; replayer = R }

-- an opening over so many cores and cells and a store
abbrev pub reopened : Replayer → Sizes → ℕ → ℕ → List ℕ → Opened
reopened R z cores cells store =
    cond (settled z cores cells (length store)) (found R z (session store z)) (record { says = bad_setting; replayer = R })

-- what a step or a run says, and what is there then
pub record Outcome : Type 0 where
  pub says : List ℕ
  pub replayer : Replayer
  pub cells : List ℕ
  pub states : List (List ℕ)

-- core j has done one more instruction, and its arcs are passed
abbrev pub advanced : Replayer → ℕ → SavedPlace → Replayer
advanced R j behind = record {
  sizes = R.sizes;
  counts = R.counts;
  done = slice_set R.done j (slice_index R.done j + 1);
  places = slice_set R.places j behind;
}

-- what core j's next step reads
abbrev pub ahead : Replayer → List ℕ → ℕ → Result Group (List ℕ)
ahead R store j = read_group store R.sizes j (slice_index_or R.places j behind_head) R.counts R.done

-- the place behind arcs, where none of them is waited for
abbrev pub freed : Option Source → SavedPlace → Result SavedPlace (List ℕ)
freed (Some s) behind = Err (wait_numbers s)
freed None behind = Ok behind

abbrev pub passed : Result Group (List ℕ) → Result SavedPlace (List ℕ)
passed (Ok g) = freed g.waits g.place
passed (Err says) = Err says

-- bad setting, no such core, all of it replayed, in this order, or none of them
abbrev pub Bars : Result (Unit {0}) StepRefusal → Replayer → ℕ → ℕ → ℕ → ℕ → Type 0
Bars (Ok _) R cores cells bytes j = (true ≡ settled R.sizes cores cells bytes) × (j < R.sizes.cores) × (slice_index R.done j < slice_index R.counts j)
Bars (Err BadSetting) R cores cells bytes j = false ≡ settled R.sizes cores cells bytes
Bars (Err NoSuchCore) R cores cells bytes j = (true ≡ settled R.sizes cores cells bytes) × (R.sizes.cores ≤ j)
Bars (Err Replayed) R cores cells bytes j = (true ≡ settled R.sizes cores cells bytes) × (j < R.sizes.cores) × (slice_index R.counts j ≤ slice_index R.done j)
Bars (Err Halted) R cores cells bytes j = ⊥
Bars (Err NoSuchCell) R cores cells bytes j = ⊥
Bars (Err (Waits s)) R cores cells bytes j = ⊥
Bars (Err (LogFault f)) R cores cells bytes j = ⊥

-- core j may go on, behind the arcs to its next instruction, or why not
unfoldable pub cleared : Replayer → ℕ → ℕ → List ℕ → ℕ → Result SavedPlace (List ℕ)
cleared R cores cells store j =
    cond (settled R.sizes cores cells (length store))
    (cond (nat_le R.sizes.cores j) (Err (1 ∷ []))
    (cond (nat_le (slice_index R.counts j) (slice_index R.done j)) (Err (7 ∷ []))
    (passed (ahead R store j))))
    (Err bad_setting)

-- a core with an instruction left is one of the session
pub record MayGo (R : Replayer) (cores j : ℕ) : Type 0 where
  pub known : j < R.sizes.cores
  pub few : R.sizes.cores ≤ 4
  pub enough : R.sizes.cores ≤ cores
  pub more : get_or R.done j 0 < slice_index R.counts j

-- the arcs to the next instruction of core j, which has one left, or why there are none
abbrev pub Grouped : Result Group StepRefusal → Replayer → ℕ → ℕ → List ℕ → ℕ → Type 0
Grouped (Ok g) R cores cells store j = (passed (Ok g) ≡ cleared R cores cells store j) × MayGo R cores j
Grouped (Err e) R cores cells store j = Err (step_refusal e) ≡ cleared R cores cells store j

-- core j waits, halts or names no cell, in this order, and nothing changes; or else it has done one more instruction
abbrev pub WentOn : Result ℕ StepRefusal → Replayer → ℕ → Group → Request → Replayer → Type 0
WentOn (Ok count) R j g request later =
    (g.waits ≡ None) × (request ≢ Halt) × (true ≡ within request R.sizes.cells) × (count ≡ slice_index R.done j + 1) × (later ≡ advanced R j g.place)
WentOn (Err (Waits s)) R j g request later = (g.waits ≡ Some s) × (later ≡ R)
WentOn (Err Halted) R j g request later = (g.waits ≡ None) × (request ≡ Halt) × (later ≡ R)
WentOn (Err NoSuchCell) R j g request later = (g.waits ≡ None) × (request ≢ Halt) × (false ≡ within request R.sizes.cells) × (later ≡ R)
WentOn (Err NoSuchCore) R j g request later = ⊥
WentOn (Err Replayed) R j g request later = ⊥
WentOn (Err BadSetting) R j g request later = ⊥
WentOn (Err (LogFault f)) R j g request later = ⊥

module _
    (next : List ℕ → List ℕ → Request) (after : List ℕ → List ℕ → ℕ → List ℕ)
    (text : List ℕ) (R : Replayer) (cells : List ℕ) (states : List (List ℕ))
  where
    -- a refusal leaves all as it was
    abbrev pub refused : List ℕ → Outcome
    refused says = record { says = says; replayer = R; cells = cells; states = states }

    -- memory acts on core j's request, and the core is told
    abbrev pub acted : ℕ → SavedPlace → Request → Outcome
    acted j behind request = record {
      says = done_numbers request (slice_index R.done j + 1) (brought request cells);
      replayer = advanced R j behind;
      cells = stored request cells;
      states = told after text states j (brought request cells);
    }

    -- a request that is not able is a halt, or names a cell that is not there
    abbrev pub asked : ℕ → SavedPlace → Request → Outcome
    asked j behind request =
        cond (able request R.sizes.cells) (acted j behind request)
        (cond (within request R.sizes.cells) (refused (2 ∷ [])) (refused (4 ∷ [])))

    abbrev pub gone : ℕ → Result SavedPlace (List ℕ) → Outcome
    gone j (Ok behind) = asked j behind (next text (slice_index_or states j []))
    gone j (Err says) = refused says

    -- one step of core j
    unfoldable pub stepped : List ℕ → ℕ → Outcome
    stepped store j = gone j (cleared R (length states) (length cells) store j)

-- a step of core j changes no other core, and a refused one changes none
abbrev pub StepKept : {K : Type 0} → Result Done StepRefusal → ℕ → List K → List K → Type 0
StepKept (Ok _) j before later = OthersKept j before later
StepKept (Err _) j before later = later ≡ before
