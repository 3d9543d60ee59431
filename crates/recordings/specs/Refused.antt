-- Which turns are refused, by the plain memory and the arcs logged so far.
use Rattle.std.specs.Prelude.{◌≡◌, ℕ, ◌-◌, ◌*◌, Bool, false, cond, not, List, map, length, Some, None, Option, ◌==◌, nat_le, nat_lt, slice_index}
use Rattle.cores.specs.Acting.{within}
use Rattle.cores.specs.Memory.{Rules, Memory, outcome, plain, start}
use Rattle.cores.specs.declared.interface.Request.{Request}
use Rattle.logs.specs.Lawful.{front}
use Rattle.records.specs.Format.{LogArc, arc, written}
use Rattle.records.specs.Settings.{heading_of, free_behind}
use Rattle.records.specs.declared.settings.Sizes.{Sizes}
use Rattle.recorder.specs.Refusals.{halts, touched}
use Rattle.recorder.specs.Turns.{World, ready, refusal}
use Rattle.recorder.specs.declared.rules.Touch.{Touch}
use Rattle.reducers.specs.Numbers.{Meets}
use Rattle.traces.specs.Recording.{Recording, Faithful}
use Rattle.recordings.specs.Sessions.{Session, Records}
use Rattle.recordings.specs.Tracks.{logs_of}

-- an access, where behind head, arcs and end record of the core's log there is no room for an arc from each other core
abbrev pub no_room : Sizes → ℕ → List LogArc → Option Touch → Bool
no_room z j arcs None = false
no_room z j arcs (Some t) = nat_lt (free_behind z (length (written (front (heading_of z j) (map arc arcs))))) (7 * (z.cores - 1))

-- halted 2, count spent 3, no such cell 4, log full 5, in this order; else 0
abbrev pub request_refusal : Sizes → ℕ → ℕ → List LogArc → Request → ℕ
request_refusal z j count arcs request =
    cond (halts request) 2 (cond (count == 65535) 3 (cond (within request z.cells) (cond (no_room z j arcs (touched request)) 5 0) 4))

-- and before them bad setting 8 and no such core 1
abbrev pub turn_refusal : Rules → Sizes → Bool → Memory → List LogArc → ℕ → ℕ
turn_refusal K z settled m arcs j =
    cond (not settled) 8 (cond (nat_le z.cores j) 1 (request_refusal z j (slice_index m.counts j) arcs (outcome K m j).request))

abbrev pub RefusalsArePlain : Meets → Type 0
RefusalsArePlain meets =
    (K : Rules) (w : World) (r : Recording) (s : Session) (j : ℕ) → Faithful w r → (rec : Records meets K w r s) →
    refusal K j w ≡ turn_refusal K w.tape.book.sizes (ready w) (plain K (start s.cells s.states) s.turns) (logs_of j rec.arcs) j
