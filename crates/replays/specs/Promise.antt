-- No dropped ordering was needed: whatever was recorded, each replay of its bytes carries out what the plain memory did, and a run of it finishes with the plain memory.
use Rattle.std.specs.Prelude.{◌≡◌, ℕ, ◌-◌, ◌*◌, ◌<◌, true, List, [], ◌∷◌, ◌++◌, length, take, drop, slice_index}
use Rattle.std.specs.List.{AllByRecursion}
use Rattle.cores.specs.Memory.{rules, Memory, outcomes, plain, start, Accepted}
use Rattle.cores.specs.declared.interface.Request.{Request}
use Rattle.logs.specs.Lawful.{whole, LogHolds}
use Rattle.records.specs.Format.{written}
use Rattle.records.specs.Settings.{no_sizes, settled, log_of, heading_of}
use Rattle.records.specs.declared.settings.Sizes.{Sizes}
use Rattle.recorder.specs.Turns.{World, Answered, Turned, fresh_tape, ready}
use Rattle.recordings.specs.ByTheRules.{TurnGoes}
use Rattle.recordings.specs.Decided.{arcs_by, numbers_by}
use Rattle.recordings.specs.Sessions as recorded
use Rattle.recordings.specs.Tracks.{run_of, body_of}
use Rattle.reducers.specs.Decided.{Decides}
use Rattle.reducers.specs.Numbers.{Numbers, Meets}
use Rattle.replayer.specs.Memories.{memory_of, walked}
use Rattle.replayer.specs.Runs.{Session, session, ran}
use Rattle.replayer.specs.Steps.{Outcome, stepped, reopened}
use Rattle.replayer.specs.declared.replay.Replayer.{Replayer}
use Rattle.runs.specs.Logged.{ArcsLogged}
use Rattle.runs.specs.Recording.{Arc, Recording}
use Rattle.runs.specs.Reducers.{by_choice}
use Rattle.runs.specs.Replay.{Progress, replayed, Agrees, ReplayState}
use Rattle.traces.specs.Recording.{opened, recording_after}
use Rattle.traces.specs.Trace.{Event, Trace}
use Rattle.replays.specs.Calls.{Stage, stage, Continues}
use Rattle.replays.specs.Matches.{Matches, StepGoes, step_says}
use Rattle.replays.specs.Replies.{replies, dones, steps_said, NeverStuck}

-- a recorder that was just made, over any store, cells and cores
abbrev pub NewRecorder : World → Type 0
NewRecorder w = w.tape ≡ fresh_tape no_sizes w.tape.store

-- the recorder's bytes with the cells and states from before the recording, in buffers that are long enough
pub record SameStart (z : Sizes) (s : recorded.Session) (bytes store cells : List ℕ) (states : List (List ℕ)) : Type 0 where
  pub same_cells : take z.cells cells ≡ s.cells
  pub same_states : take z.cores states ≡ s.states
  pub same_bytes : take (z.cores * z.log_bytes) store ≡ take (z.cores * z.log_bytes) bytes
  pub octets : AllByRecursion (λ b. b < 256) store
  pub ready : settled z (length states) (length cells) (length store) ≡ true

-- steps in their order, on top of earlier ones, the newest first
abbrev pub onto : List ℕ → List ℕ → List ℕ
onto [] σ = σ
onto (j ∷ more) σ = onto more (j ∷ σ)

-- how far some steps of a replay came, and where one more step, or a run, would end
pub record StepsAgree (next : List ℕ → List ℕ → Request) (after : List ℕ → List ℕ → ℕ → List ℕ) (text : List ℕ) (m : Memory) (u : List ℕ) (L : List Arc) (store : List ℕ) (t : Session) (p : Progress) : Type 0 where
  -- the replay over the bytes came as far as that over the arcs, which agrees with the plain memory
  pub matches : Matches (plain (rules next after text) m u).counts L store t.replayer t.cells t.states p
  pub carried : t.carried ≡ length p.outcomes
  pub agrees : Agrees (rules next after text) m u L p
  -- each core is in the state that the plain memory left behind the last of its instructions done, each cell holds the latest store among those done
  pub leaves : ReplayState (rules next after text) m u p.memory.counts t.cells t.states
  -- any further step says by the arcs: no such core, already replayed, waits for the first source that is not done, or what the plain memory does
  pub answers : (j : ℕ) → (stepped next after text t.replayer t.cells t.states store j).says
      ≡ step_says (rules next after text) (length m.states) (plain (rules next after text) m u).counts L p.memory j
  -- and goes exactly if it goes over the arcs
  pub next_step : (j : ℕ) → StepGoes (rules next after text) (plain (rules next after text) m u).counts L store p j (stepped next after text t.replayer t.cells t.states store j)
  -- a run from here finishes: it carries out all turns that are left, and ends with the plain memory
  pub finishes : let o : Outcome = ran next after text store t.replayer t.cells t.states in
      (o.says ≡ 0 ∷ (length u - t.carried) ∷ []) × (memory_of o.replayer o.cells o.states ≡ plain (rules next after text) m u)
      × (settled o.replayer.sizes (length o.states) (length o.cells) (length store) ≡ true)

-- what was recorded with the arcs L, opened again with the first cells and states, and the recorder's bytes
pub record ReplaysAsRecorded (next : List ℕ → List ℕ → Request) (after : List ℕ → List ℕ → ℕ → List ℕ) (text : List ℕ) (z : Sizes) (s : recorded.Session) (L : List Arc)
    (R : Replayer) (store cells : List ℕ) (states : List (List ℕ)) : Type 0 where
  pub opens : (reopened R z (length states) (length cells) store).says ≡ 0 ∷ []
  -- what any steps say
  pub replied : (js : List ℕ) →
      let K = rules next after text in
      let m = start s.cells s.states in
      steps_said next after text store (session 0 (reopened R z (length states) (length cells) store).replayer cells states) js
      ≡ replies z.cores (outcomes K m s.turns) (plain K m s.turns).counts L m.counts js
  pub never_stuck :
      let K = rules next after text in
      let m = start s.cells s.states in
      NeverStuck z.cores (outcomes K m s.turns) (plain K m s.turns).counts L m.counts
  -- what any steps leave: each core, and each cell, by the instructions that they carried out
  pub left_by : (js : List ℕ) →
      let K = rules next after text in
      let m = start s.cells s.states in
      let t : Session = walked next after text store (session 0 (reopened R z (length states) (length cells) store).replayer cells states) js in
      ReplayState K m s.turns (dones z.cores (outcomes K m s.turns) (plain K m s.turns).counts L m.counts js) t.cells t.states
  -- after any steps, and after any calls
  pub steps : (js : List ℕ) →
      let opened = (reopened R z (length states) (length cells) store).replayer in
      let m = start s.cells s.states in
      StepsAgree next after text m s.turns L store (walked next after text store (session 0 opened cells states) js) (replayed (rules next after text) m s.turns L (onto js []))
  pub calls : (b : Stage) → Continues next after text store (stage (reopened R z (length states) (length cells) store).replayer cells states) b →
      let m = start s.cells s.states in
      (τ : List ℕ) × StepsAgree next after text m s.turns L store
      (session (length (replayed (rules next after text) m s.turns L τ).outcomes) b.replayer b.cells b.states) (replayed (rules next after text) m s.turns L τ)

-- each log holds exactly the arcs to its core, by the rules of logs: head, arcs, end, and behind them the bytes that were there at the begin
abbrev pub LogsHold : Sizes → List ℕ → List ℕ → List ℕ → List Arc → Type 0
LogsHold z old store counts L =
    (k : ℕ) → k < z.cores →
    let bytes = written (whole (heading_of z k) (body_of k L) (slice_index counts k)) in
    LogHolds store z counts (λ i. body_of i L) k × (log_of store z k ≡ bytes ++ drop (length bytes) (log_of old z k))

-- what was recorded since the last begin, and how every replay of it goes
pub record RecordedAndReplayed (meets : Meets) (next : List ℕ → List ℕ → Request) (after : List ℕ → List ℕ → ℕ → List ℕ) (text : List ℕ) (v : World) (old : List ℕ) (s : recorded.Session) : Type 0 where
  -- the turns that were accepted, and the arcs that their reducer's numbers let be logged, the newest first
  pub arcs : List Arc
  pub accepted : Accepted (rules next after text) (start s.cells s.states) s.turns
  pub recording : Recording meets (run_of (rules next after text) (start s.cells s.states) s.turns) v.tape.numbers arcs
  -- which arcs these are, by how the reducer meets its bounds, and how each log orders them
  pub logged : ArcsLogged meets (run_of (rules next after text) (start s.cells s.states) s.turns) arcs
  -- and where its bounds leave one choice, these are the arcs, and the reducer's numbers, that the definition says
  pub decided : (F : Numbers → Numbers) → Decides meets F →
      let R = by_choice F in
      let K = rules next after text in
      let m = start s.cells s.states in
      (arcs ≡ arcs_by R K m s.turns) × (v.tape.numbers ≡ numbers_by R K m s.turns)
  -- cells, states and counts are the plain memory's, and the logs hold exactly those arcs
  pub cells : take v.tape.book.sizes.cells v.cells ≡ (plain (rules next after text) (start s.cells s.states) s.turns).cells
  pub states : take v.tape.book.sizes.cores v.states ≡ (plain (rules next after text) (start s.cells s.states) s.turns).states
  pub logs : LogsHold v.tape.book.sizes old v.tape.store (plain (rules next after text) (start s.cells s.states) s.turns).counts arcs
  -- any further turn is refused, or answers and logs, by the rules over the plain memory and those arcs
  pub turns : (j : ℕ) (o : Answered) → Turned meets (rules next after text) j v o →
      TurnGoes meets (rules next after text) v.tape.book.sizes (ready v) (start s.cells s.states) s.turns v.tape.numbers arcs v j o
  -- opening accepts the bytes with the first cells and states, and the replay agrees
  pub replays : (R : Replayer) (store cells : List ℕ) (states : List (List ℕ)) → SameStart v.tape.book.sizes s v.tape.store store cells states →
      ReplaysAsRecorded next after text v.tape.book.sizes s arcs R store cells states

-- after any calls of a recorder, from a new one on
abbrev pub NoDroppedOrderingWasNeeded : Meets → (List ℕ → List ℕ → Request) → (List ℕ → List ℕ → ℕ → List ℕ) → List ℕ → Type 0
NoDroppedOrderingWasNeeded meets next after text =
    (w v : World) (es : List Event) (t : Trace meets (rules next after text) w es v) → NewRecorder w →
    RecordedAndReplayed meets next after text v (recording_after t (opened no_sizes w)).old (recorded.session_after t (recorded.opened no_sizes w))
