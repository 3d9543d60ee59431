-- A replay: steps of cores in any order, each waiting for the arcs to its core's next instruction.
use Rattle.std.specs.Prelude.{◌≡◌, ℕ, zero, suc, ◌<◌, ◌≤◌, Bool, true, cond, not, ◌&&◌, ◌||◌, ◌⊎◌, ◌↔◌, List, [], ◌∷◌, ◌++◌, length, Some, ◌==◌, nat_le, nat_lt, slice_index, slice_index_or}
use Rattle.std.proofs.Math.Option.{Option, none, some}
use Rattle.cores.specs.Latest.{Latest}
use Rattle.cores.specs.Memory.{Rules, Memory, Outcome, outcome, turned, accepts, plain, Accepted, outcomes, instruction}
use Rattle.runs.specs.Runs.{Instr, if_same, Earlier, Conflict}
use Rattle.runs.specs.Recording.{Arc, In, Reach}
use Rattle.runs.specs.PlainRun.{run}

-- core j need not wait for this arc, where d says how many instructions of each core are done
abbrev pub lets : Arc → List ℕ → ℕ → Bool
lets a d j =
    not (a.target.core == j && a.target.count == suc (slice_index d j)) || nat_le a.source.count (slice_index d a.source.core)

-- core j need wait for none
abbrev pub free : List Arc → List ℕ → ℕ → Bool
free [] d j = true
free (a ∷ rest) d j = lets a d j && free rest d j

-- the first arc that core j waits for
abbrev pub waiting : List Arc → List ℕ → ℕ → Option Arc
waiting [] d j = none
waiting (a ∷ rest) d j = cond (lets a d j) (waiting rest d j) (some a)

pub record Progress : Type 0 where
  pub memory : Memory
  pub outcomes : List Outcome

-- a step of core j has an instruction left to carry out (n says how many were recorded), does not wait and is not refused
abbrev pub goes : Rules → List Arc → List ℕ → Memory → ℕ → Bool
goes K arcs n m j = nat_lt (slice_index m.counts j) (slice_index n j) && (free arcs m.counts j && accepts K m j)

abbrev pub step : Rules → List Arc → List ℕ → Progress → ℕ → Progress
step K arcs n p j =
    cond (goes K arcs n p.memory j)
    (record { memory = turned K p.memory j; outcomes = outcome K p.memory j ∷ p.outcomes })
    p

-- after some steps, the newest first
abbrev pub replay : Rules → List Arc → List ℕ → Memory → List ℕ → Progress
replay K arcs n m [] = record { memory = m; outcomes = [] }
replay K arcs n m (j ∷ σ) = step K arcs n (replay K arcs n m σ) j

-- the replay of the turns u over arcs, after the steps σ
abbrev pub replayed : Rules → Memory → List ℕ → List Arc → List ℕ → Progress
replayed K m u arcs σ = replay K arcs (plain K m u).counts m σ

-- one step of each core below n, the newest first
abbrev pub circle : ℕ → List ℕ
circle zero = []
circle (suc n) = n ∷ circle n

abbrev pub circles : ℕ → ℕ → List ℕ
circles n zero = []
circles n (suc r) = circle n ++ circles n r

-- how many of what was carried out was of core j
abbrev pub carried : List Outcome → ℕ → ℕ
carried [] j = 0
carried (e ∷ l) j = if_same e.core j (suc (carried l j)) (carried l j)

-- the b-th that was carried out of a core is its instruction b
abbrev pub InTurn : List Outcome → Type 0
InTurn [] = Unit {0}
InTurn (e ∷ l) = (e.count ≡ suc (carried l e.core)) × InTurn l

-- core j, of which b instructions are done, is in this state: its starting state for 0, else the one that instruction b left
abbrev pub StandsBehind : List (List ℕ) → List Outcome → ℕ → ℕ → List ℕ → Type 0
StandsBehind first es j zero s = s ≡ slice_index_or first j []
StandsBehind first es j (suc b) s = (e : Outcome) × (instruction es j (suc b) ≡ Some e) × (s ≡ e.state)

-- of these instructions those that are done, in their order, where d says how many of each core are
abbrev pub done_of : List ℕ → List Outcome → List Outcome
done_of d [] = []
done_of d (e ∷ es) = cond (nat_le e.count (slice_index d e.core)) (e ∷ done_of d es) (done_of d es)

-- cells and states of a replay of the turns u from the memory m, where d says how many instructions of each core are done
pub record ReplayState (K : Rules) (m : Memory) (u : List ℕ) (d : List ℕ) (cells : List ℕ) (states : List (List ℕ)) : Type 0 where
  -- each core is in the state that the plain memory left behind the last of its instructions that is done, or in its starting state
  pub cores_stand : (j : ℕ) → j < length m.states → StandsBehind m.states (outcomes K m u) j (slice_index d j) (slice_index_or states j [])
  -- each cell holds the number of the latest store to it, in the order of the turns, among the instructions that are done, or the starting number
  pub cells_hold : (c : ℕ) → c < length m.cells → Latest m.cells (done_of d (outcomes K m u)) c (slice_index cells c)

-- The turns were accepted, the arcs lead forward, and they order every conflict at a place.
pub record Suffices (place : ℕ → ℕ) (K : Rules) (m : Memory) (u : List ℕ) (arcs : List Arc) : Type 0 where
  pub accepted : Accepted K m u
  pub forward : (a : Arc) → In a arcs → Earlier (run place K m u) a.source a.target
  pub covered : (x y : Instr) → Conflict (run place K m u) x y → Reach (run place K m u) arcs x y

-- A replay agrees with the plain memory after the turns u.
pub record Agrees (K : Rules) (m : Memory) (u : List ℕ) (arcs : List Arc) (p : Progress) : Type 0 where
  -- the b-th step that a core carried out is its instruction b, and the counts say how many it carried out
  pub in_turn : InTurn p.outcomes
  pub counts : (j : ℕ) → slice_index p.memory.counts j ≡ carried p.outcomes j
  -- what was carried out is what the plain memory did, up to the counts: core, count, request, number brought and state left
  pub values : (e : Outcome) → In e p.outcomes ↔ (In e (outcomes K m u) × (e.count ≤ slice_index p.memory.counts e.core))
  -- cells and states are what the instructions done left, in the order of the turns
  pub leaves : ReplayState K m u p.memory.counts p.memory.cells p.memory.states
  -- a core with an instruction left that does not wait is not refused
  pub unrefused : (j : ℕ) → slice_index p.memory.counts j < slice_index (plain K m u).counts j →
      free arcs p.memory.counts j ≡ true → goes K arcs (plain K m u).counts p.memory j ≡ true
  -- while an instruction is left, some core can go on
  pub progress : (k : ℕ) → slice_index p.memory.counts k < slice_index (plain K m u).counts k →
      (j : ℕ) × (goes K arcs (plain K m u).counts p.memory j ≡ true)
  -- once none is left, cells, states and counts are the plain memory's
  pub end : ((k : ℕ) → slice_index (plain K m u).counts k ≤ slice_index p.memory.counts k) → p.memory ≡ plain K m u

-- Every replay of the turns u over the arcs agrees with the plain memory, and going round the cores finishes it.
pub record Replays (K : Rules) (m : Memory) (u : List ℕ) (arcs : List Arc) : Type 0 where
  pub agrees : (σ : List ℕ) → Agrees K m u arcs (replayed K m u arcs σ)
  -- a circle carries something out, unless nothing is left
  pub moves_on : (σ : List ℕ) →
      ((k : ℕ) → slice_index (plain K m u).counts k ≤ slice_index (replayed K m u arcs σ).memory.counts k)
      ⊎ (length (replayed K m u arcs σ).outcomes < length (replayed K m u arcs (circle (length m.states) ++ σ)).outcomes)
  -- whatever steps came first, as many circles as there were turns carry out all that is left, each turn once
  pub finishes : (σ : List ℕ) (r : ℕ) → length u ≤ r →
      let p : Progress = replayed K m u arcs (circles (length m.states) r ++ σ) in
      (p.memory ≡ plain K m u) × (length p.outcomes ≡ length u)
