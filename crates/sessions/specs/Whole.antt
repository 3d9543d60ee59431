-- A whole session: what its turns recorded, and how the replay of what they recorded went.
use Rattle.std.specs.Prelude.{◌≡◌, ℕ, ◌-◌, ◌*◌, Bool, true, false, ◌&&◌, List, [], ◌∷◌, ◌++◌, map, reverse, length, take, drop, Ok, Err, vec_items, Result}
use Rattle.cores.specs.Memory.{Rules, Memory, start, plain, outcomes, fed, unrefused}
use Rattle.logs.specs.Session.{done_as}
use Rattle.records.specs.Settings.{can_begin}
use Rattle.records.specs.declared.settings.Sizes.{Sizes}
use Rattle.recorder.specs.Refusals.{number_of}
use Rattle.recorder.specs.Turns.{said}
use Rattle.recordings.specs.ByTheRules.{ByTheRules, with_refusals}
use Rattle.recordings.specs.Decided.{arcs_by, numbers_by, accepted_by, said_by}
use Rattle.recordings.specs.Tracks.{run_of}
use Rattle.reducers.specs.Decided.{Decides}
use Rattle.reducers.specs.Numbers.{Numbers, Meets}
use Rattle.replayer.specs.Answers.{step_numbers, run_numbers}
use Rattle.replays.specs.Promise.{LogsHold}
use Rattle.replays.specs.Replies.{replies, dones, carried_out, NeverStuck}
use Rattle.runs.specs.Logged.{ArcsLogged}
use Rattle.runs.specs.Recording.{Arc}
use Rattle.runs.specs.Reducers.{by_choice}
use Rattle.runs.specs.Replay.{ReplayState}
use Rattle.sessions.specs.Space.{suffices}
use Rattle.sessions.specs.declared.buffers.SessionBuffers.{SessionBuffers}
use Rattle.sessions.specs.declared.session.NoSession.{NoSession}
use Rattle.sessions.specs.declared.session.Session.{Session}

-- the buffers that a session is given: cells, the states of the cores, and the store of the logs
pub record Buffers : Type 0 where
  pub cells : List ℕ
  pub states : List (List ℕ)
  pub store : List ℕ

abbrev pub buffers : List ℕ → List (List ℕ) → List ℕ → Buffers
buffers cells states store = record { cells = cells; states = states; store = store }

-- the sizes fit them, and the space suffices for these turns and steps
abbrev pub holds : {K : Type 0} → Sizes → SessionBuffers K → List ℕ → List ℕ → Buffers → Bool
holds z space turns steps b = can_begin z (length b.states) (length b.cells) (length b.store) && suffices space z (length turns) (length steps)

-- the plain memory at the begin: the session's cells and states, and no instruction done
abbrev pub first_memory : Sizes → Buffers → Memory
first_memory z b = start (take z.cells b.cells) (take z.cores b.states)

-- what each turn answered, and the reducer's numbers behind them; what opening answered, what each step answered, and the replay's cells and states
-- behind the steps; what the run answered, and the replay's cells and states behind it
pub record Answers : Type 0 where
  pub turns : List (List ℕ)
  pub numbers : Numbers
  pub opened : List ℕ
  pub steps : List (List ℕ)
  pub stepped_cells : List ℕ
  pub stepped_states : List (List ℕ)
  pub ended : List ℕ
  pub cells : List ℕ
  pub states : List (List ℕ)

abbrev pub answers_of : {K R : Type 0} → (R → Numbers) → (K → List ℕ) → Session K R → Answers
answers_of numbers state s = record {
  turns = map said (vec_items s.turns);
  numbers = numbers s.reducer;
  opened = done_as s.opened;
  steps = map step_numbers (vec_items s.steps);
  stepped_cells = vec_items s.stepped_cells;
  stepped_states = map state (vec_items s.stepped_cores);
  ended = run_numbers s.ended;
  cells = vec_items s.cells;
  states = map state (vec_items s.cores);
}

-- the turns, recorded from the plain memory m on, with what each says and the reducer's numbers behind them, and with buffers before and later
pub record TurnsRecorded (meets : Meets) (K : Rules) (z : Sizes) (m : Memory) (turns : List ℕ) (says : List (List ℕ)) (numbers : Numbers) (before later : Buffers) : Type 0 where
  -- each turn was refused, or answered and logged its arcs, by the rules over the plain memory; of these the accepted ones, and all arcs, are the newest first
  pub accepted : List ℕ
  pub arcs : List Arc
  pub rules : ByTheRules meets K z m (reverse turns) (reverse says) accepted numbers arcs
  -- accepted are the turns that did not answer a refusal: the plain memory is the one fed each turn's core and whether its answer was a refusal
  pub not_refused : accepted ≡ unrefused (with_refusals (reverse turns) (reverse says))
  pub fed_answers : plain K m accepted ≡ fed K m (with_refusals (reverse turns) (reverse says))
  -- cells and states are the plain memory's, each log has exactly the arcs to its core in their order, and nothing else changed
  pub cells : later.cells ≡ (plain K m accepted).cells ++ drop z.cells before.cells
  pub states : later.states ≡ (plain K m accepted).states ++ drop z.cores before.states
  pub logs : LogsHold z before.store later.store (plain K m accepted).counts arcs
  pub surplus : drop (z.cores * z.log_bytes) later.store ≡ drop (z.cores * z.log_bytes) before.store

-- where the reducer's bounds leave one choice, what was accepted, logged and answered, and the reducer's numbers, are what the definition says
abbrev pub AsDecided : Meets → Rules → Sizes → Memory → List ℕ → List (List ℕ) → Numbers → List ℕ → List Arc → Type 0
AsDecided meets K z m turns says numbers accepted arcs =
    (F : Numbers → Numbers) → Decides meets F →
    let R = by_choice F in
    (accepted ≡ accepted_by R K z m (reverse turns)) × (arcs ≡ arcs_by R K m accepted) × (reverse says ≡ said_by R K z m (reverse turns))
    × (numbers ≡ numbers_by R K m accepted)

-- the replay, from the plain memory m on, of the accepted turns and their arcs: opened, stepped, and run to its end
pub record RecordingReplayed (K : Rules) (z : Sizes) (m : Memory) (accepted : List ℕ) (arcs : List Arc) (steps : List ℕ) (a : Answers) : Type 0 where
  -- opening accepts the logs, and each step answers by the plain memory's instructions and the arcs
  pub opens : a.opened ≡ 0 ∷ []
  pub replied : a.steps ≡ replies z.cores (outcomes K m accepted) (plain K m accepted).counts arcs m.counts steps
  pub never_stuck : NeverStuck z.cores (outcomes K m accepted) (plain K m accepted).counts arcs m.counts
  -- behind the steps each core is in the state that the plain memory left behind the last of its instructions that they carried out, and each cell
  -- holds the number of the latest store to it among those, in the recording's order
  pub stepped : ReplayState K m accepted (dones z.cores (outcomes K m accepted) (plain K m accepted).counts arcs m.counts steps) a.stepped_cells a.stepped_states
  pub as_many : (length a.stepped_cells ≡ z.cells) × (length a.stepped_states ≡ z.cores)
  -- the run finishes with all that was left, and then cells and states are the plain memory's
  pub finishes : a.ended ≡ 0 ∷ (length accepted - carried_out a.steps) ∷ []
  pub last_cells : a.cells ≡ (plain K m accepted).cells
  pub last_states : a.states ≡ (plain K m accepted).states

-- a session of these turns and steps, with buffers before and later: recorded, and replayed
pub record Whole (meets : Meets) (K : Rules) (z : Sizes) (turns steps : List ℕ) (before later : Buffers) (a : Answers) : Type 0 where
  pub recorded : TurnsRecorded meets K z (first_memory z before) turns a.turns a.numbers before later
  pub logged : ArcsLogged meets (run_of K (first_memory z before) recorded.accepted) recorded.arcs
  pub decided : AsDecided meets K z (first_memory z before) turns a.turns a.numbers recorded.accepted recorded.arcs
  pub replayed : RecordingReplayed K z (first_memory z before) recorded.accepted recorded.arcs steps a

-- every outcome: a whole session exactly if the sizes fit the buffers and the space suffices; else bad setting (8), with nothing changed and all handed back
abbrev pub ComesTo : {K R : Type 0} → (R → Numbers) → (K → List ℕ) → Meets → Rules → Sizes → SessionBuffers K → R → List ℕ → List ℕ → Buffers → Buffers → Result (Session K R) (NoSession K R) → Type 0
ComesTo numbers state meets K z space reducer turns steps before later (Ok s) =
    (holds z space turns steps before ≡ true) × Whole meets K z turns steps before later (answers_of numbers state s)
ComesTo numbers state meets K z space reducer turns steps before later (Err e) =
    (holds z space turns steps before ≡ false) × (number_of e.refusal ≡ 8) × (later ≡ before) × (e.reducer ≡ reducer) × (e.buffers ≡ space)

-- cores beyond the sizes are not touched, and none where there is no session
abbrev pub CoresKept : {K R : Type 0} → Sizes → List K → List K → Result (Session K R) (NoSession K R) → Type 0
CoresKept z before later (Ok s) = drop z.cores later ≡ drop z.cores before
CoresKept z before later (Err e) = later ≡ before
