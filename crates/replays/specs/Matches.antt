-- A replay over the bytes of logs goes step by step as the replay over the arcs of the recording.
use Rattle.std.specs.Prelude.{◌≡◌, ℕ, ◌<◌, true, cond, List, [], ◌∷◌, length, nat_le, slice_index}
use Rattle.std.proofs.Math.Option.{Option, none, some}
use Rattle.cores.specs.Memory.{Rules, Memory, outcome}
use Rattle.logs.specs.Lawful.{arcs_in}
use Rattle.records.specs.Format.{Entry}
use Rattle.records.specs.Settings.{settled}
use Rattle.recordings.specs.Tracks.{logs_of}
use Rattle.replayer.specs.Answers.{done_numbers}
use Rattle.replayer.specs.Following.{Follows}
use Rattle.replayer.specs.Memories.{memory_of}
use Rattle.replayer.specs.Runs.{counted}
use Rattle.replayer.specs.Steps.{Outcome}
use Rattle.replayer.specs.declared.replay.Replayer.{Replayer}
use Rattle.runs.specs.Recording.{Arc, log}
use Rattle.runs.specs.Replay.{Progress, waiting, goes, step}

-- the replayer has opened logs whose bodies have the arcs L, of a recording with n instructions of each core, and has come as far as the replay p over L
pub record Matches (n : List ℕ) (L : List Arc) (store : List ℕ) (R : Replayer) (cells : List ℕ) (states : List (List ℕ)) (p : Progress) : Type 0 where
  pub bodies : ℕ → List Entry
  pub follows : Follows store bodies R
  pub arcs : (k : ℕ) → arcs_in (bodies k) ≡ logs_of k L
  pub ready : settled R.sizes (length states) (length cells) (length store) ≡ true
  pub memory : memory_of R cells states ≡ p.memory
  pub recorded : (k : ℕ) → k < R.sizes.cores → slice_index R.counts k ≡ slice_index n k

-- a step of core j goes exactly if the replay over the arcs goes, says then what the plain memory does, and both come equally far
pub record StepGoes (K : Rules) (n : List ℕ) (L : List Arc) (store : List ℕ) (p : Progress) (j : ℕ) (o : Outcome) : Type 0 where
  pub carried : counted o.says ≡ cond (goes K L n p.memory j) 1 0
  pub says : goes K L n p.memory j ≡ true → o.says ≡ done_numbers (outcome K p.memory j).request (outcome K p.memory j).count (outcome K p.memory j).number
  pub matches : Matches n L store o.replayer o.cells o.states (step K L n p j)

-- 6 with the source of the first arc that is waited for, or else what is said
abbrev pub waited : Option Arc → List ℕ → List ℕ
waited (some a) done = 6 ∷ a.source.core ∷ a.source.count ∷ []
waited none done = done

-- what a step of core j of P says, over the arcs of a recording with n instructions of each core: no such core, already replayed,
-- waits for the first arc to the next instruction whose source is not done, or what the memory does
abbrev pub step_says : Rules → ℕ → List ℕ → List Arc → Memory → ℕ → List ℕ
step_says K P n L m j =
    cond (nat_le P j) (1 ∷ [])
    (cond (nat_le (slice_index n j) (slice_index m.counts j)) (7 ∷ [])
    (waited (waiting (log j L) m.counts j) (done_numbers (outcome K m j).request (outcome K m j).count (outcome K m j).number)))
