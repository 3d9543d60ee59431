-- Eight runs worked through together, by the definitions of begin, turn, opening, step and run, and each answer by its numbers.
use Rattle.std.specs.Prelude.{List, [], ◌∷◌, ◌≡◌, ℕ, take}
use Rattle.cores.specs.Memory.{Rules}
use Rattle.cores.specs.Script.{script_next, script_after}
use Rattle.logs.specs.Session.{no_counts}
use Rattle.recorder.specs.Decided.{turned_by}
use Rattle.recorder.specs.Turns.{World}
use Rattle.records.specs.Settings.{no_sizes, log_of}
use Rattle.reducers.specs.Decided.{exactly, nothing}
use Rattle.reducers.specs.Numbers.{Numbers}
use Rattle.reducers.specs.Rows.{known_only}
use Rattle.replayer.specs.Runs.{ran}
use Rattle.replayer.specs.Steps.{Opened, Outcome, started, reopened, stepped}
use Rattle.worked_runs.specs.Answers.{TurnsDone, TurnsLeave, TurnsRefused, TurnsRefusedInOrder, Openings, StepsDone, StepsRefused, RunsEnd, CircleGoesUp, DoneTargetEndsTheGroup, Named}
use Rattle.worked_runs.specs.Scripts.{item, script, sizes_of, from, at_begin, after_turns, Logged, standing, after_steps}

-- three cores, two cells: 0:1 writes 7 to cell 0, 1:1 reads it, 1:2 writes 9 to cell 1, 2:1 reads it, 2:2 writes 4 to cell 0
abbrev three_text : List ℕ
three_text = item 2 0 7 (item 255 0 0 (item 1 0 0 (item 2 1 9 (item 255 0 0 (item 1 1 0 (item 2 0 4 (item 255 0 0 [])))))))

abbrev three_cores : Rules
three_cores = script three_text

abbrev three_states : List (List ℕ)
three_states = (0 ∷ 0 ∷ []) ∷ (2 ∷ 0 ∷ []) ∷ (5 ∷ 0 ∷ []) ∷ []

abbrev first_run : (Numbers → Numbers) → World
first_run F = after_turns F three_cores (at_begin (sizes_of 3 2 40) three_states) (0 ∷ 1 ∷ 1 ∷ 2 ∷ 2 ∷ [])

abbrev ExactArcs : Type 0
ExactArcs =
    Logged (first_run exactly) 0 [] 1 × Logged (first_run exactly) 1 (from 0 1 1 ∷ []) 2 × Logged (first_run exactly) 2 (from 1 2 1 ∷ []) 2
    × ((first_run exactly).cells ≡ 4 ∷ 9 ∷ [])

-- pairwise adds 0:1 to 2:2
abbrev PairwiseArcs : Type 0
PairwiseArcs =
    Logged (first_run known_only) 0 [] 1 × Logged (first_run known_only) 1 (from 0 1 1 ∷ []) 2 × Logged (first_run known_only) 2 (from 1 2 1 ∷ from 0 1 2 ∷ []) 2

-- keep-all adds 1:1 to 2:2 and then 0:1 to 2:2
abbrev KeepAllArcs : Type 0
KeepAllArcs =
    Logged (first_run nothing) 0 [] 1 × Logged (first_run nothing) 1 (from 0 1 1 ∷ []) 2 × Logged (first_run nothing) 2 (from 1 2 1 ∷ from 1 1 2 ∷ from 0 1 2 ∷ []) 2

abbrev Bytes : Type 0
Bytes =
    take 19 (log_of (first_run exactly).tape.store (sizes_of 3 2 40) 1)
    ≡ 0x48 ∷ 0x43 ∷ 0x01 ∷ 0x03 ∷ 0x00 ∷ 0x02 ∷ 0x41 ∷ 0x52 ∷ 0x00 ∷ 0x00 ∷ 0x01 ∷ 0x00 ∷ 0x01 ∷ 0x45 ∷ 0x44 ∷ 0x00 ∷ 0x02 ∷ 0x00 ∷ 0x01 ∷ []

-- the logs of that run, opened again with its first cells and states
abbrev opened_again : Opened
opened_again = reopened (started no_sizes no_counts) (sizes_of 3 2 40) 3 2 (first_run exactly).tape.store

-- a first step of core 2 waits for 1:2, and a run finishes with 5 steps and the recording's cells; so do steps in another order, with waits
abbrev WaitsAndFinishes : Type 0
WaitsAndFinishes =
    let store = (first_run exactly).tape.store in
    let run : Outcome = ran script_next script_after three_text store opened_again.replayer (0 ∷ 0 ∷ []) three_states in
    (opened_again.says ≡ 0 ∷ [])
    × ((stepped script_next script_after three_text opened_again.replayer (0 ∷ 0 ∷ []) three_states store 2).says ≡ 6 ∷ 1 ∷ 2 ∷ [])
    × (run.says ≡ 0 ∷ 5 ∷ []) × (run.cells ≡ 4 ∷ 9 ∷ [])
    × ((after_steps three_text store (standing opened_again.replayer (0 ∷ 0 ∷ []) three_states) (2 ∷ 1 ∷ 0 ∷ 1 ∷ 2 ∷ 1 ∷ 2 ∷ 0 ∷ 2 ∷ [])).cells ≡ 4 ∷ 9 ∷ [])

-- 0:1 reads cell 0, 0:2 writes cell 1, 1:1 reads cell 1, 1:2 reads cell 0, 2:1 writes cell 0
abbrev between_run : (Numbers → Numbers) → World
between_run F =
    after_turns F (script (item 1 0 0 (item 2 1 1 (item 1 1 0 (item 1 0 0 (item 2 0 1 []))))))
    (at_begin (sizes_of 3 2 40) ((0 ∷ 0 ∷ []) ∷ (2 ∷ 0 ∷ []) ∷ (4 ∷ 0 ∷ []) ∷ [])) (0 ∷ 0 ∷ 1 ∷ 1 ∷ 2 ∷ [])

-- pairwise and keep-all add 0:1 to 2:1
abbrev ReadBetween : Type 0
ReadBetween =
    Logged (between_run exactly) 0 [] 2 × Logged (between_run exactly) 1 (from 0 2 1 ∷ []) 2 × Logged (between_run exactly) 2 (from 1 2 1 ∷ []) 1
    × Logged (between_run known_only) 0 [] 2 × Logged (between_run known_only) 1 (from 0 2 1 ∷ []) 2 × Logged (between_run known_only) 2 (from 1 2 1 ∷ from 0 1 1 ∷ []) 1
    × Logged (between_run nothing) 0 [] 2 × Logged (between_run nothing) 1 (from 0 2 1 ∷ []) 2 × Logged (between_run nothing) 2 (from 1 2 1 ∷ from 0 1 1 ∷ []) 1

-- 0:1 writes cell 0, 0:2 reads it, 1:1 reads it, 1:2 writes it
abbrev own_run : (Numbers → Numbers) → World
own_run F =
    after_turns F (script (item 2 0 1 (item 1 0 0 (item 1 0 0 (item 2 0 2 [])))))
    (at_begin (sizes_of 2 1 40) ((0 ∷ 0 ∷ []) ∷ (2 ∷ 0 ∷ []) ∷ [])) (0 ∷ 0 ∷ 1 ∷ 1 ∷ [])

-- the same with each reducer
abbrev OwnRead : Type 0
OwnRead =
    Logged (own_run exactly) 0 [] 2 × Logged (own_run exactly) 1 (from 0 1 1 ∷ from 0 2 2 ∷ []) 2
    × Logged (own_run known_only) 0 [] 2 × Logged (own_run known_only) 1 (from 0 1 1 ∷ from 0 2 2 ∷ []) 2
    × Logged (own_run nothing) 0 [] 2 × Logged (own_run nothing) 1 (from 0 1 1 ∷ from 0 2 2 ∷ []) 2

-- with three cores a log of 26 bytes takes a first access, and one of 25 is full
abbrev LeastRoom : Type 0
LeastRoom =
    ((turned_by exactly three_cores 0 (at_begin (sizes_of 3 2 26) three_states)).says ≡ 0 ∷ 2 ∷ 0 ∷ 7 ∷ 1 ∷ 0 ∷ 0 ∷ [])
    × ((turned_by exactly three_cores 0 (at_begin (sizes_of 3 2 25) three_states)).says ≡ 5 ∷ [])

-- all eight together, and the answers
pub record WorkedRuns : Type 0 where
  pub exact_arcs : ExactArcs
  pub pairwise_arcs : PairwiseArcs
  pub keep_all_arcs : KeepAllArcs
  pub bytes : Bytes
  pub waits_and_finishes : WaitsAndFinishes
  pub read_between : ReadBetween
  pub own_read : OwnRead
  pub least_room : LeastRoom
  pub turns_done : TurnsDone
  pub turns_leave : TurnsLeave
  pub turns_refused : TurnsRefused
  pub turns_refused_in_order : TurnsRefusedInOrder
  pub openings : Openings
  pub steps_done : StepsDone
  pub steps_refused : StepsRefused
  pub runs_end : RunsEnd
  pub circle_goes_up : CircleGoesUp
  pub done_target_ends_the_group : DoneTargetEndsTheGroup
  pub named : Named
