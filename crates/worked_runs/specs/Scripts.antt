-- Script texts, worlds after some turns, and the logs in them, for the worked runs.
use Rattle.std.specs.Prelude.{List, [], ◌∷◌, ◌++◌, ◌≡◌, ℕ, ◌*◌, length, map, take, replicate}
use Rattle.cores.specs.Memory.{Rules, rules}
use Rattle.cores.specs.Script.{script_next, script_after}
use Rattle.logs.specs.Lawful.{whole}
use Rattle.logs.specs.Session.{no_counts}
use Rattle.recorder.specs.Decided.{turned_by}
use Rattle.recorder.specs.Refusals as book
use Rattle.recorder.specs.Turns.{World, world, begun}
use Rattle.records.specs.Format.{LogArc, arc, written}
use Rattle.records.specs.Settings.{no_sizes, log_of, heading_of}
use Rattle.records.specs.declared.settings.Sizes.{Sizes}
use Rattle.reducers.specs.Numbers.{Numbers, zeros}
use Rattle.replayer.specs.Steps.{Opened, Outcome, started, reopened, stepped}
use Rattle.replayer.specs.declared.replay.Replayer.{Replayer}

-- script items: kind, cell, number
abbrev pub item : ℕ → ℕ → ℕ → List ℕ → List ℕ
item kind cell number rest = kind ∷ cell ∷ 0 ∷ number ∷ rest

abbrev pub script : List ℕ → Rules
script text = rules script_next script_after text

abbrev pub sizes_of : ℕ → ℕ → ℕ → Sizes
sizes_of P C L = record { cores = P; cells = C; log_bytes = L }

-- an arc from a core's instruction to this core's
abbrev pub from : ℕ → ℕ → ℕ → LogArc
from core count target = record { source = core; count = count; target = target }

-- the world after begin, with cells at 0
abbrev pub at_begin : Sizes → List (List ℕ) → World
at_begin z states =
    world
    (begun z (length states) z.cells
    (record { store = replicate (z.cores * z.log_bytes) 0; book = book.started no_sizes; history = []; numbers = zeros })).leaves
    (replicate z.cells 0) states

-- the world after some turns
abbrev pub after_turns : (Numbers → Numbers) → Rules → World → List ℕ → World
after_turns F K w [] = w
after_turns F K w (j ∷ turns) = after_turns F K (turned_by F K j w).leaves turns

-- core j's log begins with a whole log of these arcs and n instructions
abbrev pub Logged : World → ℕ → List LogArc → ℕ → Type 0
Logged w j arcs n =
    let z = w.tape.book.sizes in
    let bytes = written (whole (heading_of z j) (map arc arcs) n) in
    take (length bytes) (log_of w.tape.store z j) ≡ bytes

-- a log of these arcs and n instructions, and zeros behind it
abbrev pub written_log : Sizes → ℕ → List LogArc → ℕ → List ℕ
written_log z j arcs n = take z.log_bytes (written (whole (heading_of z j) (map arc arcs) n) ++ replicate z.log_bytes 0)

-- what some turns answer, one after another
abbrev pub turns_say : (Numbers → Numbers) → Rules → World → List ℕ → List (List ℕ)
turns_say F K w [] = []
turns_say F K w (j ∷ turns) = let o = turned_by F K j w in o.says ∷ turns_say F K o.leaves turns

-- a replay of a store, opened with its first cells and states
abbrev pub opened : Sizes → List ℕ → Opened
opened z store = reopened (started no_sizes no_counts) z z.cores z.cells store

-- what is there before a step
abbrev pub standing : Replayer → List ℕ → List (List ℕ) → Outcome
standing R cells states = record { says = []; replayer = R; cells = cells; states = states }

abbrev pub stepped_from : List ℕ → List ℕ → Outcome → ℕ → Outcome
stepped_from text store o j = stepped script_next script_after text o.replayer o.cells o.states store j

-- what is there after some steps, and what they answer
abbrev pub after_steps : List ℕ → List ℕ → Outcome → List ℕ → Outcome
after_steps text store o [] = o
after_steps text store o (j ∷ steps) = after_steps text store (stepped_from text store o j) steps

abbrev pub steps_say : List ℕ → List ℕ → Outcome → List ℕ → List (List ℕ)
steps_say text store o [] = []
steps_say text store o (j ∷ steps) = let later = stepped_from text store o j in later.says ∷ steps_say text store later steps
