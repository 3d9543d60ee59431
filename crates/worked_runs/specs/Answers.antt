-- Each answer by its numbers: what refuses a turn, an opening and a step, what each request answers, how runs end, and the order of steps in a circle.
use Rattle.std.specs.Prelude.{List, [], Ok, map, ◌∷◌, ◌++◌, ◌≡◌, ℕ, slice_set, slice_index_or}
use Rattle.cores.specs.Memory.{Rules}
use Rattle.cores.specs.declared.interface.Request.TheVariants as reads
use Rattle.cores.specs.Script.{script_next, script_after}
use Rattle.logs.specs.Session.{no_counts}
use Rattle.recorder.specs.Decided.{turned_by}
use Rattle.recorder.specs.Refusals.{number_of}
use Rattle.recorder.specs.declared.rules.Refusal.TheVariants.{NoSuchCore, Halted, CountSpent, NoSuchCell, LogFull, BadSetting}
use Rattle.recorder.specs.Turns.{said, World, world, fresh_tape, begun}
use Rattle.records.specs.Faults.{refusal}
use Rattle.records.specs.Settings.{no_sizes}
use Rattle.records.specs.declared.faults.ByteFault.TheVariants.{Cut, Mark}
use Rattle.records.specs.declared.faults.Location.{Location}
use Rattle.records.specs.declared.faults.RecordFault.TheVariants.{Bytes, BadHead, BadArc, BadEnd}
use Rattle.records.specs.declared.faults.Refusal.TheVariants as reader
use Rattle.records.specs.declared.faults.SessionFault.TheVariants.{Read, Source}
use Rattle.records.specs.declared.settings.Sizes.{Sizes}
use Rattle.reducers.specs.Decided.{exactly}
use Rattle.replayer.specs.Answers.{step_refusal, step_numbers, run_numbers}
use Rattle.replayer.specs.Runs.{ran}
use Rattle.replayer.specs.Steps.{Outcome, behind_head, started, reopened}
use Rattle.replayer.specs.declared.answers.Ended.TheVariants.{Finished, Stopped}
use Rattle.replayer.specs.declared.answers.StepRefusal.TheVariants as step
use Rattle.worked_runs.specs.Scripts.{item, script, sizes_of, from, at_begin, after_turns, Logged, written_log, turns_say, opened, standing, after_steps, steps_say}

-- core 1 from item 0, core 0 from item 4, core 2 from item 9
abbrev text : List ℕ
text =
    item 0 0 0 (item 1 3 0 (item 1 1 0 (item 255 0 0
    (item 2 3 7 (item 2 1 6 (item 1 1 0 (item 2 3 8 (item 2 4 0
    (item 0 0 0 (item 0 0 0 (item 0 0 0 (item 0 0 0 (item 3 1 9 [])))))))))))))

abbrev cores : Rules
cores = script text

abbrev states : List (List ℕ)
states = (4 ∷ 0 ∷ []) ∷ (0 ∷ 0 ∷ []) ∷ (9 ∷ 0 ∷ []) ∷ []

abbrev cells : List ℕ
cells = 0 ∷ 0 ∷ 0 ∷ 0 ∷ []

abbrev sizes : Sizes
sizes = sizes_of 3 4 60

abbrev turns : List ℕ
turns = 0 ∷ 0 ∷ 1 ∷ 1 ∷ 1 ∷ 0 ∷ 2 ∷ 2 ∷ 2 ∷ 2 ∷ 2 ∷ 0 ∷ []

abbrev recorded : World
recorded = after_turns exactly cores (at_begin sizes states) turns

-- 0, the request's numbers, the count, the number brought, the arcs
abbrev pub TurnsDone : Type 0
TurnsDone =
    turns_say exactly cores (at_begin sizes states) turns
    ≡ (0 ∷ 2 ∷ 3 ∷ 7 ∷ 1 ∷ 0 ∷ 0 ∷ [])
    ∷ (0 ∷ 2 ∷ 1 ∷ 6 ∷ 2 ∷ 0 ∷ 0 ∷ [])
    ∷ (0 ∷ 0 ∷ 1 ∷ 0 ∷ 0 ∷ [])
    ∷ (0 ∷ 1 ∷ 3 ∷ 2 ∷ 7 ∷ 1 ∷ [])
    ∷ (0 ∷ 1 ∷ 1 ∷ 3 ∷ 6 ∷ 1 ∷ [])
    ∷ (0 ∷ 1 ∷ 1 ∷ 3 ∷ 6 ∷ 0 ∷ [])
    ∷ (0 ∷ 0 ∷ 1 ∷ 0 ∷ 0 ∷ [])
    ∷ (0 ∷ 0 ∷ 2 ∷ 0 ∷ 0 ∷ [])
    ∷ (0 ∷ 0 ∷ 3 ∷ 0 ∷ 0 ∷ [])
    ∷ (0 ∷ 0 ∷ 4 ∷ 0 ∷ 0 ∷ [])
    ∷ (0 ∷ 3 ∷ 1 ∷ 9 ∷ 5 ∷ 6 ∷ 2 ∷ [])
    ∷ (0 ∷ 2 ∷ 3 ∷ 8 ∷ 4 ∷ 0 ∷ 1 ∷ [])
    ∷ []

-- what those turns leave: the logs, the cells, and the cores' places and last numbers
abbrev pub TurnsLeave : Type 0
TurnsLeave =
    Logged recorded 0 (from 1 2 4 ∷ []) 4 × Logged recorded 1 (from 0 1 2 ∷ from 0 2 3 ∷ []) 3 × Logged recorded 2 (from 0 3 5 ∷ from 1 3 5 ∷ []) 5
    × (recorded.cells ≡ 0 ∷ 9 ∷ 0 ∷ 8 ∷ []) × (recorded.states ≡ (8 ∷ 6 ∷ []) ∷ (3 ∷ 6 ∷ []) ∷ (14 ∷ 6 ∷ []) ∷ [])

-- core j has 65,535 instructions
abbrev spent : ℕ → World → World
spent j w =
    let t = w.tape in
    world (record {
      store = t.store;
      book = record { sizes = t.book.sizes; logs = slice_set t.book.logs j (record { instructions = 65535; arcs = 0; end = 6 }); position = t.book.position };
      history = t.history;
      numbers = t.numbers;
    }) w.cells w.states

abbrev turn_says : World → ℕ → List ℕ
turn_says w j = (turned_by exactly cores j w).says

-- before begin 8, core 3 of 3 1, a halted core 2, at 65,535 instructions 3, cell 4 of 4 4, a full log 5; begin itself over too few cells 8
abbrev pub TurnsRefused : Type 0
TurnsRefused =
    (turn_says (world (fresh_tape no_sizes recorded.tape.store) cells states) 0 ≡ 8 ∷ [])
    × (turn_says recorded 3 ≡ 1 ∷ [])
    × (turn_says recorded 1 ≡ 2 ∷ [])
    × (turn_says (spent 0 (at_begin sizes states)) 0 ≡ 3 ∷ [])
    × (turn_says recorded 0 ≡ 4 ∷ [])
    × (turn_says (at_begin (sizes_of 3 4 25) states) 0 ≡ 5 ∷ [])
    × ((begun sizes 3 3 recorded.tape).says ≡ 8 ∷ [])

-- where two hold, the first of them: 8 before 1, 2 before 3, 3 before 4 and 5, 4 before 5
abbrev pub TurnsRefusedInOrder : Type 0
TurnsRefusedInOrder =
    (turn_says (world (fresh_tape no_sizes recorded.tape.store) cells states) 3 ≡ 8 ∷ [])
    × (turn_says (spent 1 recorded) 1 ≡ 2 ∷ [])
    × (turn_says (spent 0 recorded) 0 ≡ 3 ∷ [])
    × (turn_says (spent 0 (at_begin (sizes_of 3 4 25) states)) 0 ≡ 3 ∷ [])
    × (turn_says (at_begin (sizes_of 3 4 25) ((8 ∷ 0 ∷ []) ∷ states)) 0 ≡ 4 ∷ [])

-- the store that was recorded, with another byte at an offset
abbrev changed : ℕ → ℕ → List ℕ
changed at byte = slice_set recorded.tape.store at byte

abbrev opening_says : List ℕ → List ℕ
opening_says store = (opened sizes store).says

-- 9, the layer, the core, the record's offset, the cause
abbrev pub Openings : Type 0
Openings =
    (opening_says recorded.tape.store ≡ 0 ∷ [])
    × ((reopened (started no_sizes no_counts) sizes 3 3 recorded.tape.store).says ≡ 8 ∷ [])
    × (opening_says (changed 6 0) ≡ 9 ∷ 1 ∷ 0 ∷ 6 ∷ 2 ∷ [])
    × (opening_says (changed 62 0) ≡ 9 ∷ 2 ∷ 1 ∷ 0 ∷ 3 ∷ [])
    × (opening_says (changed 75 1) ≡ 9 ∷ 2 ∷ 1 ∷ 13 ∷ 4 ∷ [])
    × (opening_says (changed 85 3) ≡ 9 ∷ 2 ∷ 1 ∷ 20 ∷ 5 ∷ [])
    × (opening_says (changed 137 9) ≡ 9 ∷ 3 ∷ 2 ∷ 13 ∷ 6 ∷ [])

abbrev replay : Outcome
replay = standing (opened sizes recorded.tape.store).replayer cells states

-- 0, the request's numbers, the count, the number brought; 6, the core and count waited for; all done 7; core 3 of 3 1
abbrev pub StepsDone : Type 0
StepsDone =
    steps_say text recorded.tape.store replay (1 ∷ 1 ∷ 0 ∷ 1 ∷ 1 ∷ 0 ∷ 1 ∷ 2 ∷ 2 ∷ 2 ∷ 2 ∷ 2 ∷ 0 ∷ 2 ∷ 0 ∷ 0 ∷ 3 ∷ [])
    ≡ (0 ∷ 0 ∷ 1 ∷ 0 ∷ [])
    ∷ (6 ∷ 0 ∷ 1 ∷ [])
    ∷ (0 ∷ 2 ∷ 3 ∷ 7 ∷ 1 ∷ 0 ∷ [])
    ∷ (0 ∷ 1 ∷ 3 ∷ 2 ∷ 7 ∷ [])
    ∷ (6 ∷ 0 ∷ 2 ∷ [])
    ∷ (0 ∷ 2 ∷ 1 ∷ 6 ∷ 2 ∷ 0 ∷ [])
    ∷ (0 ∷ 1 ∷ 1 ∷ 3 ∷ 6 ∷ [])
    ∷ (0 ∷ 0 ∷ 1 ∷ 0 ∷ [])
    ∷ (0 ∷ 0 ∷ 2 ∷ 0 ∷ [])
    ∷ (0 ∷ 0 ∷ 3 ∷ 0 ∷ [])
    ∷ (0 ∷ 0 ∷ 4 ∷ 0 ∷ [])
    ∷ (6 ∷ 0 ∷ 3 ∷ [])
    ∷ (0 ∷ 1 ∷ 1 ∷ 3 ∷ 6 ∷ [])
    ∷ (0 ∷ 3 ∷ 1 ∷ 9 ∷ 5 ∷ 6 ∷ [])
    ∷ (0 ∷ 2 ∷ 3 ∷ 8 ∷ 4 ∷ 0 ∷ [])
    ∷ (7 ∷ [])
    ∷ (1 ∷ [])
    ∷ []

-- before an opening 8; over other states a halted core 2, cell 4 of 4 4; over a log changed after the opening 9 and the fault
abbrev pub StepsRefused : Type 0
StepsRefused =
    let R = replay.replayer in
    (steps_say text recorded.tape.store (standing (started no_sizes no_counts) cells states) (0 ∷ []) ≡ (8 ∷ []) ∷ [])
    × (steps_say text recorded.tape.store (standing R cells ((8 ∷ 0 ∷ []) ∷ (3 ∷ 0 ∷ []) ∷ states)) (1 ∷ 0 ∷ []) ≡ (2 ∷ []) ∷ (4 ∷ []) ∷ [])
    × (steps_say text (changed 75 1) replay (0 ∷ 0 ∷ 1 ∷ 1 ∷ []) ≡ (0 ∷ 2 ∷ 3 ∷ 7 ∷ 1 ∷ 0 ∷ []) ∷ (0 ∷ 2 ∷ 1 ∷ 6 ∷ 2 ∷ 0 ∷ []) ∷ (0 ∷ 0 ∷ 1 ∷ 0 ∷ []) ∷ (9 ∷ 2 ∷ 1 ∷ 13 ∷ 4 ∷ []) ∷ [])

abbrev run_of : List ℕ → Sizes → List ℕ → List ℕ → List (List ℕ) → Outcome
run_of words z store numbers places = ran script_next script_after words store (opened z store).replayer numbers places

-- two cores, each of whose second instructions waits for the other's
abbrev ring_sizes : Sizes
ring_sizes = sizes_of 2 1 20

abbrev ring : List ℕ
ring = written_log ring_sizes 0 (from 1 2 2 ∷ []) 2 ++ written_log ring_sizes 1 (from 0 2 2 ∷ []) 2

-- a run finished 0, which leaves what the turns left, and stopped 1, with the steps; before an opening 8
abbrev pub RunsEnd : Type 0
RunsEnd =
    let run = run_of text sizes recorded.tape.store cells states in
    (run.says ≡ 0 ∷ 12 ∷ []) × (run.cells ≡ 0 ∷ 9 ∷ 0 ∷ 8 ∷ []) × (run.states ≡ (8 ∷ 6 ∷ []) ∷ (3 ∷ 6 ∷ []) ∷ (14 ∷ 6 ∷ []) ∷ [])
    × ((run_of (item 0 0 0 (item 0 0 0 [])) ring_sizes ring (0 ∷ []) ((0 ∷ 0 ∷ []) ∷ (0 ∷ 0 ∷ []) ∷ [])).says ≡ 1 ∷ 2 ∷ [])
    × ((ran script_next script_after text recorded.tape.store (started no_sizes no_counts) cells states).says ≡ 8 ∷ [])

-- three cores, each of which writes its number to one cell, with logs of no arcs
abbrev bare_sizes : Sizes
bare_sizes = sizes_of 3 1 12

abbrev bare : List ℕ
bare = written_log bare_sizes 0 [] 1 ++ (written_log bare_sizes 1 [] 1 ++ written_log bare_sizes 2 [] 1)

-- a circle goes from core 0 up: the last core's number stands
abbrev pub CircleGoesUp : Type 0
CircleGoesUp =
    let run = run_of (item 2 0 7 (item 2 0 8 (item 2 0 9 []))) bare_sizes bare (5 ∷ []) ((0 ∷ 0 ∷ []) ∷ (1 ∷ 0 ∷ []) ∷ (2 ∷ 0 ∷ []) ∷ []) in
    (run.says ≡ 0 ∷ 3 ∷ []) × (run.cells ≡ 9 ∷ [])

-- three cores with two arcs to core 2: from 1:1 to 2:1, and from 0:1 to 2:2
abbrev late_sizes : Sizes
late_sizes = sizes_of 3 1 26

abbrev late_logs : ℕ → List ℕ
late_logs target =
    written_log late_sizes 0 [] 1 ++ (written_log late_sizes 1 [] 1 ++ written_log late_sizes 2 (from 1 1 1 ∷ from 0 1 target ∷ []) 2)

abbrev two_locals : List ℕ
two_locals = item 0 0 0 (item 0 0 0 [])

-- 1:1 and 2:1 are done
abbrev late : Outcome
late =
    after_steps two_locals (late_logs 2)
    (standing (opened late_sizes (late_logs 2)).replayer (0 ∷ []) ((0 ∷ 0 ∷ []) ∷ (0 ∷ 0 ∷ []) ∷ (0 ∷ 0 ∷ []) ∷ []))
    (1 ∷ 2 ∷ [])

abbrev place_of_2 : Outcome → ℕ
place_of_2 o = (slice_index_or o.replayer.places 2 behind_head).offset

-- 2:2 waits for 0:1; but where that arc was changed to one to 2:1, which is done, the arc ends the group: 2:2 goes on, and its place stays before the arc
abbrev pub DoneTargetEndsTheGroup : Type 0
DoneTargetEndsTheGroup =
    (late.says ≡ 0 ∷ 0 ∷ 1 ∷ 0 ∷ []) × (place_of_2 late ≡ 13)
    × (steps_say two_locals (late_logs 2) late (2 ∷ []) ≡ (6 ∷ 0 ∷ 1 ∷ []) ∷ [])
    × (steps_say two_locals (late_logs 1) late (2 ∷ []) ≡ (0 ∷ 0 ∷ 2 ∷ 0 ∷ []) ∷ [])
    × (place_of_2 (after_steps two_locals (late_logs 1) late (2 ∷ [])) ≡ 13)

-- a place for a fault: core 3 at offset 13
abbrev spot : Location
spot = record { core = 3; offset = 13 }

-- refusals, faults, and what calls and runs give, by their names
abbrev pub Named : Type 0
Named =
    (map number_of (NoSuchCore ∷ Halted ∷ CountSpent ∷ NoSuchCell ∷ LogFull ∷ BadSetting ∷ []) ≡ 1 ∷ 2 ∷ 3 ∷ 4 ∷ 5 ∷ 8 ∷ [])
    × (map step_refusal (step.NoSuchCore ∷ step.Halted ∷ step.NoSuchCell ∷ step.Waits (record { core = 2; count = 5 }) ∷ step.Replayed ∷ step.BadSetting ∷ step.LogFault (Source spot) ∷ [])
    ≡ (1 ∷ []) ∷ (2 ∷ []) ∷ (4 ∷ []) ∷ (6 ∷ 2 ∷ 5 ∷ []) ∷ (7 ∷ []) ∷ (8 ∷ []) ∷ (9 ∷ 3 ∷ 3 ∷ 13 ∷ 6 ∷ []) ∷ [])
    × (map refusal (reader.BadSetting ∷ map (λ f. reader.LogFault f) (Read (Bytes (Cut spot)) ∷ Read (Bytes (Mark spot)) ∷ Read (BadHead spot) ∷ Read (BadArc spot) ∷ Read (BadEnd spot) ∷ Source spot ∷ []))
    ≡ (8 ∷ []) ∷ (9 ∷ 1 ∷ 3 ∷ 13 ∷ 1 ∷ []) ∷ (9 ∷ 1 ∷ 3 ∷ 13 ∷ 2 ∷ []) ∷ (9 ∷ 2 ∷ 3 ∷ 13 ∷ 3 ∷ []) ∷ (9 ∷ 2 ∷ 3 ∷ 13 ∷ 4 ∷ []) ∷ (9 ∷ 2 ∷ 3 ∷ 13 ∷ 5 ∷ []) ∷ (9 ∷ 3 ∷ 3 ∷ 13 ∷ 6 ∷ []) ∷ [])
    × (said (Ok (record { request = reads.Read 5; count = 2; number = 7; arcs = 3 })) ≡ 0 ∷ 1 ∷ 5 ∷ 2 ∷ 7 ∷ 3 ∷ [])
    × (step_numbers (Ok (record { request = reads.Exchange 5 6; count = 2; number = 7 })) ≡ 0 ∷ 3 ∷ 5 ∷ 6 ∷ 2 ∷ 7 ∷ [])
    × (map run_numbers (Ok (Finished 4) ∷ Ok (Stopped 4) ∷ []) ≡ (0 ∷ 4 ∷ []) ∷ (1 ∷ 4 ∷ []) ∷ [])
