-- Steps over damaged logs, in words: what a step says of its core's log, whatever bytes that has by then.
use Rattle.std.specs.Prelude.{◌≡◌, ℕ, ◌+◌, ◌<◌, ◌≤◌, true, ◌↔◌, List, [], ◌∷◌, ◌++◌, length, take, Some, slice_index, slice_index_or}
use Rattle.std.specs.List.{AllByRecursion}
use Rattle.cores.specs.declared.interface.Request.{Request}
use Rattle.records.specs.declared.format.Source.{Source}
use Rattle.records.specs.declared.reading.SavedPlace.{SavedPlace}
use Rattle.records.specs.declared.settings.Heading.{Heading}
use Rattle.records.specs.Faults.{Fault, log_fault}
use Rattle.records.specs.Format.{LogArc, Entry, arc, written}
use Rattle.records.specs.Reading.{broken}
use Rattle.records.specs.Settings.{log_of, heading_of, settled}
use Rattle.logs.specs.Lawful.{arcs_in, front, Body, Broken, Within}
use Rattle.replayer.specs.declared.group.Group.{Group}
use Rattle.replayer.specs.declared.replay.Replayer.{Replayer}
use Rattle.replayer.specs.Answers.{wait_numbers}
use Rattle.replayer.specs.Following.{Follows}
use Rattle.replayer.specs.GroupFaults.{GroupBroken, GroupRead}
use Rattle.replayer.specs.Groups.{past_all}
use Rattle.replayer.specs.Steps.{Outcome, behind_head, freed, gone, stepped}

-- core j has a recorded instruction left, and the sizes fit the buffers
pub record HasLeft (R : Replayer) (cores cells bytes j : ℕ) : Type 0 where
  pub settled : settled R.sizes cores cells bytes ≡ true
  pub known : j < R.sizes.cores
  pub left : slice_index R.done j < slice_index R.counts j

-- what stands ahead of core j in its log: a first fault, or a group
module _ (R : Replayer) (store : List ℕ) (j : ℕ) where
  abbrev pub BrokenAhead : Fault → Type 0
  BrokenAhead f =
      GroupBroken R.counts (heading_of R.sizes j) (log_of store R.sizes j)
      (slice_index R.done j + 1) (slice_index_or R.places j behind_head) f

  abbrev pub ReadAhead : Group → Type 0
  ReadAhead x =
      GroupRead R.counts (heading_of R.sizes j) (log_of store R.sizes j)
      (slice_index R.done j + 1) (slice_index_or R.places j behind_head) R.done x

-- of a core with an instruction left, and of no other, a step names exactly the first fault ahead,
-- and waits exactly for what the group ahead waits for
pub record StepExactly
    (R : Replayer) (cores cells : ℕ) (store : List ℕ) (j : ℕ) (says : List ℕ) : Type 0 where
  pub faulty : (f : Fault) →
      (says ≡ log_fault f) ↔ (HasLeft R cores cells (length store) j × BrokenAhead R store j f)
  pub waits : (s : Source) →
      (says ≡ wait_numbers s)
      ↔ (HasLeft R cores cells (length store) j
      × ((x : Group) × ReadAhead R store j x × (x.waits ≡ Some s)))

-- so says every step; and behind a group that waits for nothing the core goes on
abbrev pub StepsNameFirstFaults : Type 0
StepsNameFirstFaults =
    (next : List ℕ → List ℕ → Request) (after : List ℕ → List ℕ → ℕ → List ℕ)
    (text : List ℕ) (R : Replayer) (cells : List ℕ) (states : List (List ℕ))
    (store : List ℕ) (j : ℕ) → AllByRecursion (λ b. b < 256) store →
    let o : Outcome = stepped next after text R cells states store j in
    StepExactly R (length states) (length cells) store j o.says
    × ((x : Group) → HasLeft R (length states) (length cells) (length store) j →
    ReadAhead R store j x → o ≡ gone next after text R cells states j (freed x.waits x.place))

-- up to a place a log is a head and arcs that obey the rules and come from within; behind it stands anything
pub record IntactTo (counts : List ℕ) (g : Heading) (log : List ℕ) (p : SavedPlace) : Type 0 where
  pub body : List Entry
  pub rest : List ℕ
  pub bytes : log ≡ written (front g body) ++ rest
  pub lawful : Body g body
  pub within : Within counts (arcs_in body)
  pub place : p ≡ past_all behind_head body

-- the first fault of a whole log: behind lawful records, of which all arcs come from within,
-- something breaks a rule, or a lawful arc comes from beyond its source core's instructions
pub data FirstInLog (counts : List ℕ) (g : Heading) (log : List ℕ) : Fault → Type 0 where
  by_rule : (before : List Entry) (f : Fault) → Broken g log before f →
      Within counts (arcs_in before) → FirstInLog counts g log f
  by_source : (body : List Entry) (a : LogArc) (rest : List ℕ) →
      log ≡ written (front g (body ++ (arc a ∷ []))) ++ rest → Body g (body ++ (arc a ∷ [])) →
      Within counts (arcs_in body) → slice_index counts a.source < a.count →
      FirstInLog counts g log (broken 3 g.core (length (written (front g body))) 6)

-- where a log is intact up to a place, the first fault of a group from there on is the first of the log
abbrev pub GroupFaultsAreFirst : Type 0
GroupFaultsAreFirst =
    (counts : List ℕ) (g : Heading) (log : List ℕ) (t : ℕ) (p : SavedPlace) (f : Fault) →
    AllByRecursion (λ b. b < 256) log → g.cores ≤ 4 → IntactTo counts g log p →
    GroupBroken counts g log t p f → FirstInLog counts g log f

-- so is the fault that a step names where a replay followed its logs, and then the store became `now`,
-- with the core's log the same up to the core's place
abbrev pub StepsNameTheLogsFirstFaults : Type 0
StepsNameTheLogsFirstFaults =
    (next : List ℕ → List ℕ → Request) (after : List ℕ → List ℕ → ℕ → List ℕ)
    (text : List ℕ) (R : Replayer) (cells : List ℕ) (states : List (List ℕ))
    (store now : List ℕ) (bodies : ℕ → List Entry) (j : ℕ) →
    Follows store bodies R → AllByRecursion (λ b. b < 256) now →
    let passed : ℕ = (slice_index_or R.places j behind_head).offset in
    take passed (log_of now R.sizes j) ≡ take passed (log_of store R.sizes j) →
    (f : Fault) → (stepped next after text R cells states now j).says ≡ log_fault f →
    FirstInLog R.counts (heading_of R.sizes j) (log_of now R.sizes j) f
