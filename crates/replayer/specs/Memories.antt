-- Steps and runs on the plain memory: each step is a turn of it that is accepted, or leaves it as it was.
use Rattle.std.specs.Prelude.{◌≡◌, ℕ, true, List, [], ◌∷◌, length, take, slice_index}
use Rattle.cores.specs.declared.interface.Request.{Request}
use Rattle.cores.specs.Memory.{Rules, rules, Memory, outcome, turned, accepts, plain, Accepted}
use Rattle.replayer.specs.declared.replay.Replayer.{Replayer}
use Rattle.replayer.specs.Answers.{done_numbers}
use Rattle.replayer.specs.Runs.{counted, Session, session, one, ran}
use Rattle.replayer.specs.Steps.{Outcome, stepped}

-- the cells and states within the sizes, and what each core has done
abbrev pub memory_of : Replayer → List ℕ → List (List ℕ) → Memory
memory_of R cells states =
    record { cells = take R.sizes.cells cells; states = take R.sizes.cores states; counts = take R.sizes.cores R.done }

-- a step of core j leaves the memory m as it was, or is a turn of it and says so
pub data Alike (K : Rules) (m : Memory) (j : ℕ) (o : Outcome) : Type 0 where
  stays : counted o.says ≡ 0 → memory_of o.replayer o.cells o.states ≡ m → Alike K m j o
  turns : o.says ≡ done_numbers (outcome K m j).request (outcome K m j).count (outcome K m j).number → accepts K m j ≡ true →
      memory_of o.replayer o.cells o.states ≡ turned K m j → Alike K m j o

abbrev pub StepsAlike : Type 0
StepsAlike =
    (next : List ℕ → List ℕ → Request) (after : List ℕ → List ℕ → ℕ → List ℕ) (text : List ℕ) (R : Replayer) (cells : List ℕ) (states : List (List ℕ)) (store : List ℕ) (j : ℕ) →
    length R.done ≡ 4 → Alike (rules next after text) (memory_of R cells states) j (stepped next after text R cells states store j)

-- what there is now is what n accepted turns made of the memory m
pub record Played (K : Rules) (m : Memory) (n : ℕ) (R : Replayer) (cells : List ℕ) (states : List (List ℕ)) : Type 0 where
  pub turns : List ℕ
  pub number : length turns ≡ n
  pub accepted : Accepted K m turns
  pub memory : memory_of R cells states ≡ plain K m turns
  pub four : length R.done ≡ 4

-- so are steps of these cores, one after another
abbrev pub walked : (List ℕ → List ℕ → Request) → (List ℕ → List ℕ → ℕ → List ℕ) → List ℕ → List ℕ → Session → List ℕ → Session
walked next after text store s [] = s
walked next after text store s (j ∷ more) = walked next after text store (one next after text store s j) more

abbrev pub StepsPlay : Type 0
StepsPlay =
    (next : List ℕ → List ℕ → Request) (after : List ℕ → List ℕ → ℕ → List ℕ) (text store : List ℕ) (R : Replayer) (cells : List ℕ) (states : List (List ℕ)) (steps : List ℕ) → length R.done ≡ 4 →
    let s : Session = walked next after text store (session 0 R cells states) steps in
    Played (rules next after text) (memory_of R cells states) s.carried s.replayer s.cells s.states

-- and a run, which says how many it carried out
abbrev pub RunsPlay : Type 0
RunsPlay =
    (next : List ℕ → List ℕ → Request) (after : List ℕ → List ℕ → ℕ → List ℕ) (text store : List ℕ) (R : Replayer) (cells : List ℕ) (states : List (List ℕ)) → length R.done ≡ 4 →
    let o : Outcome = ran next after text store R cells states in
    Played (rules next after text) (memory_of R cells states) (slice_index o.says 1) o.replayer o.cells o.states
