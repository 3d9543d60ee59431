-- What the calls of a recorder record: after any of them, a recording of the run of the turns accepted since the last begin.
use Rattle.std.specs.Prelude.{◌≡◌, ℕ, cond, List, [], ◌∷◌, take, replicate}
use Rattle.accesses.specs.Histories.{untouched}
use Rattle.cores.specs.Memory.{Rules, start}
use Rattle.records.specs.Settings.{no_sizes}
use Rattle.records.specs.declared.settings.Sizes.{Sizes}
use Rattle.reducers.specs.Numbers.{Meets, zeros}
use Rattle.recorder.specs.Refusals.{started}
use Rattle.recorder.specs.Turns.{World}
use Rattle.runs.specs.Recording.{Arc}
use Rattle.traces.specs.Recording as traced
use Rattle.traces.specs.Trace.{Event, Trace, none, begins, turns, refused}
use Rattle.recordings.specs.Tracks.{Tracks, body_of}

-- the cells and states at the last begin, and the turns accepted since, the newest first
pub record Session : Type 0 where
  pub cells : List ℕ
  pub states : List (List ℕ)
  pub turns : List ℕ

abbrev pub opened : Sizes → World → Session
opened z w = record { cells = take z.cells w.cells; states = take z.cores w.states; turns = [] }

abbrev pub with_turn : ℕ → Session → Session
with_turn j s = record { cells = s.cells; states = s.states; turns = j ∷ s.turns }

-- the session after some calls; what is refused changes nothing
abbrev pub session_after : {meets : Meets} {K : Rules} {w v : World} {es : List Event} → Trace meets K w es v → Session → Session
session_after none s = s
session_after (begins {v = v} t z b e) s = cond (refused b.says) (session_after t s) (opened z v)
session_after (turns t j o f) s = cond (refused o.says) (session_after t s) (with_turn j (session_after t s))

-- the recorder tracks the run of the session's turns, and the body of each core's log is the arcs of that run's recording to its instructions
pub record Records (meets : Meets) (K : Rules) (w : World) (r : traced.Recording) (s : Session) : Type 0 where
  pub arcs : List Arc
  pub tracks : Tracks meets K w.tape.book.sizes (start s.cells s.states) s.turns arcs w
  pub logs : (k : ℕ) → r.bodies k ≡ body_of k arcs

abbrev pub TracesAreRecorded : Meets → Type 0
TracesAreRecorded meets =
    (K : Rules) (w v : World) (es : List Event) (r : traced.Recording) (s : Session) (t : Trace meets K w es v) →
    Records meets K w r s → Records meets K v (traced.recording_after t r) (session_after t s)

-- a new recorder has recorded nothing
abbrev pub NewHasRecordedNothing : Meets → Type 0
NewHasRecordedNothing meets =
    (K : Rules) (w : World) → let z : Sizes = no_sizes in
    w.tape.book ≡ started z → w.tape.history ≡ replicate 256 untouched → w.tape.numbers ≡ zeros → Records meets K w (traced.opened z w) (opened z w)
