-- What the calls since the last begin come to: the plain memory, and logs that hold the arcs of the turns.
use Rattle.std.specs.Prelude.{◌≡◌, ℕ, cond, List, [], ◌++◌, map, length, take, ◌==◌}
use Rattle.cores.specs.Memory.{Rules, Memory, start, turned}
use Rattle.recorded_logs.specs.Held.{AllHeld, surplus}
use Rattle.recorder.specs.Refusals.{started}
use Rattle.recorder.specs.Turns.{World, asks, new_arcs}
use Rattle.recorder.specs.declared.ledger.Log.{Log}
use Rattle.records.specs.Format.{LogArc, Entry, arc}
use Rattle.records.specs.Settings.{no_sizes}
use Rattle.records.specs.declared.settings.Sizes.{Sizes}
use Rattle.reducers.specs.Numbers.{Meets}
use Rattle.traces.specs.Trace.{Event, Trace, none, begins, turns, refused}

-- a recording since its begin: the plain memory, the store as it was at the begin, and the body of each core's log
pub record Recording : Type 0 where
  pub memory : Memory
  pub old : List ℕ
  pub bodies : ℕ → List Entry

-- the session's cells, states and counts
abbrev pub memory_of : World → Memory
memory_of w = record {
  cells = take w.tape.book.sizes.cells w.cells;
  states = take w.tape.book.sizes.cores w.states;
  counts = map (λ (l : Log). l.instructions) (take w.tape.book.sizes.cores w.tape.book.logs);
}

-- a recording that begins
abbrev pub opened : Sizes → World → Recording
opened z w = record { memory = start (take z.cells w.cells) (take z.cores w.states); old = w.tape.store; bodies = λ _. [] }

-- one more instruction of core j, with its arcs
abbrev pub extended : Rules → Recording → ℕ → List LogArc → Recording
extended K r j new = record { memory = turned K r.memory j; old = r.old; bodies = λ k. cond (k == j) (r.bodies k ++ map arc new) (r.bodies k) }

-- the recording after some calls; what is refused changes nothing, and a begin starts another
abbrev pub recording_after : {meets : Meets} {K : Rules} {w v : World} {es : List Event} → Trace meets K w es v → Recording → Recording
recording_after none r = r
recording_after (begins {v = v} t z b e) r = cond (refused b.says) (recording_after t r) (opened z v)
recording_after {K = K} (turns {v = v} t j o f) r =
    cond (refused o.says) (recording_after t r) (extended K (recording_after t r) j (new_arcs v.tape j (asks K j v) f.trail))

-- the world is as a recording says: cells, states and counts, the bytes of each log, and those behind all logs
pub record Faithful (w : World) (r : Recording) : Type 0 where
  pub four : length w.tape.book.logs ≡ 4
  pub plain : memory_of w ≡ r.memory
  pub logs : AllHeld w.tape r.old r.bodies
  pub behind : surplus w.tape.book.sizes w.tape.store ≡ surplus w.tape.book.sizes r.old

-- and so it is after any calls
abbrev pub TracesAreFaithful : Meets → Type 0
TracesAreFaithful meets =
    (K : Rules) (w v : World) (es : List Event) (r : Recording) (t : Trace meets K w es v) → Faithful w r → Faithful v (recording_after t r)

-- a new recorder has a recording of nothing
abbrev pub NewIsFaithful : Type 0
NewIsFaithful = (w : World) → let z : Sizes = no_sizes in w.tape.book ≡ started z → Faithful w (opened z w)
