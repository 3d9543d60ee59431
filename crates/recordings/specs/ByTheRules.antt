-- Turns in a row, by the rules: which are refused and with which number, what the others answer, and which arcs they log.
use Rattle.std.specs.Prelude.{◌≡◌, ℕ, ◌-◌, Bool, true, ◌≢◌, List, [], ◌∷◌, length}
use Rattle.cores.specs.Memory.{Rules, Memory, outcome, plain, start, fed, unrefused}
use Rattle.records.specs.declared.settings.Sizes.{Sizes}
use Rattle.recorder.specs.Turns.{World, Answered, answered, Turned, done_said, ready}
use Rattle.reducers.specs.Numbers.{Numbers, Meets, zeros}
use Rattle.runs.specs.Candidates.{candidates}
use Rattle.runs.specs.PlainRun.{access}
use Rattle.runs.specs.Recording.{Arc, Judged, Noted}
use Rattle.runs.specs.Runs.{Event, Run, ev, next}
use Rattle.traces.specs.Recording.{Recording, Faithful}
use Rattle.traces.specs.Trace.{refused}
use Rattle.recordings.specs.Refused.{turn_refusal}
use Rattle.recordings.specs.Sessions.{Session, Records}
use Rattle.recordings.specs.Tracks.{run_of, logs_of}

-- what core j does next, after the turns u, as an event of their run
abbrev pub next_event : Rules → Memory → List ℕ → ℕ → Event
next_event K m u j = ev j (access (λ c. c) (outcome K (plain K m u) j).request)

-- what an accepted turn says: the plain memory's request, count and number, and how many arcs it logged
abbrev pub plainly_said : Rules → Memory → List ℕ → ℕ → ℕ → List ℕ
plainly_said K m u j arcs =
    done_said (outcome K (plain K m u) j).request (outcome K (plain K m u) j).count (outcome K (plain K m u) j).number arcs

-- a turn of e after the run h: its candidates are judged, the latest position first, those not known are logged and taken, then the access is noted
pub record Logs (meets : Meets) (h : Run) (e : Event) (N : Numbers) (L : List Arc) (N' : Numbers) (L' : List Arc) : Type 0 where
  pub between : Numbers
  pub judged : Judged meets e (next h e) (candidates h e) N L between L'
  pub noted : Noted meets e between N'

-- turns of the cores js and what they said, the newest first: those of u were accepted, and left the reducer's numbers N and all logged arcs L, the newest first
pub data ByTheRules (meets : Meets) (K : Rules) (z : Sizes) (m : Memory) : List ℕ → List (List ℕ) → List ℕ → Numbers → List Arc → Type 0 where
  none : ByTheRules meets K z m [] [] [] zeros []
  refuses : {js : List ℕ} {says : List (List ℕ)} {u : List ℕ} {N : Numbers} {L : List Arc} → ByTheRules meets K z m js says u N L →
      (j : ℕ) → turn_refusal K z true (plain K m u) (logs_of j L) j ≢ 0 →
      ByTheRules meets K z m (j ∷ js) ((turn_refusal K z true (plain K m u) (logs_of j L) j ∷ []) ∷ says) u N L
  accepts : {js : List ℕ} {says : List (List ℕ)} {u : List ℕ} {N N' : Numbers} {L L' : List Arc} → ByTheRules meets K z m js says u N L →
      (j : ℕ) → turn_refusal K z true (plain K m u) (logs_of j L) j ≡ 0 → Logs meets (run_of K m u) (next_event K m u j) N L N' L' →
      ByTheRules meets K z m (j ∷ js) (plainly_said K m u j (length L' - length L) ∷ says) (j ∷ u) N' L'

-- the core of each turn, and whether its answer is a refusal
abbrev pub with_refusals : List ℕ → List (List ℕ) → List (ℕ × Bool)
with_refusals [] says = []
with_refusals (j ∷ js) [] = []
with_refusals (j ∷ js) (s ∷ says) = (j, refused s) ∷ with_refusals js says

-- turns by the rules: the accepted ones are those that did not answer a refusal, and the plain memory is fed each turn's core and whether its answer was one
abbrev pub AnswersFeed : Meets → Type 0
AnswersFeed meets =
    (K : Rules) (z : Sizes) (m : Memory) (js : List ℕ) (says : List (List ℕ)) (u : List ℕ) (N : Numbers) (L : List Arc) → ByTheRules meets K z m js says u N L →
    (u ≡ unrefused (with_refusals js says)) × (plain K m u ≡ fed K m (with_refusals js says))

-- what one turn of j says and leaves, where the recorder stood at v after the turns u with the arcs L logged
pub data TurnGoes (meets : Meets) (K : Rules) (z : Sizes) (settled : Bool) (m : Memory) (u : List ℕ) (N : Numbers) (L : List Arc) (v : World) (j : ℕ) (o : Answered) : Type 0 where
  refuses : turn_refusal K z settled (plain K m u) (logs_of j L) j ≢ 0 →
      o ≡ answered (turn_refusal K z settled (plain K m u) (logs_of j L) j ∷ []) v → TurnGoes meets K z settled m u N L v j o
  accepts : (L' : List Arc) → turn_refusal K z settled (plain K m u) (logs_of j L) j ≡ 0 → Logs meets (run_of K m u) (next_event K m u j) N L o.leaves.tape.numbers L' →
      o.says ≡ plainly_said K m u j (length L' - length L) → TurnGoes meets K z settled m u N L v j o

-- the turns of a recorder one after another, each by what it promises, with what they said, the newest first; the buffers keep their lengths
pub data InARow (meets : Meets) (K : Rules) (w : World) : List ℕ → List (List ℕ) → World → Type 0 where
  none : InARow meets K w [] [] w
  then : {js : List ℕ} {says : List (List ℕ)} {v : World} → InARow meets K w js says v → (j : ℕ) (o : Answered) → Turned meets K j v o →
      length o.leaves.cells ≡ length v.cells → length o.leaves.states ≡ length v.states →
      length o.leaves.tape.store ≡ length v.tape.store → InARow meets K w (j ∷ js) (o.says ∷ says) o.leaves

-- after any calls, one turn more goes by the rules
abbrev pub TurnsGoByTheRules : Meets → Type 0
TurnsGoByTheRules meets =
    (K : Rules) (w : World) (r : Recording) (s : Session) (j : ℕ) (o : Answered) → Faithful w r → (rec : Records meets K w r s) → Turned meets K j w o →
    TurnGoes meets K w.tape.book.sizes (ready w) (start s.cells s.states) s.turns w.tape.numbers rec.arcs w j o
