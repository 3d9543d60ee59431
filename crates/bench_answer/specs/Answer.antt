-- What the bench program answers to its input: the lines of the session that the input describes, recorded and replayed, or bad.
use Rattle.std.specs.Prelude.{◌≡◌, ℕ, ◌↔◌, List, [], ◌∷◌, ◌++◌, map, reverse, length, replicate, Some, None, codes, Option}
use Rattle.bench_input.specs.Session.{Session, Describes}
use Rattle.bench_input.specs.declared.input.Kind.{Kind}
use Rattle.bench_input.specs.declared.input.Kind.TheVariants.{Script, Register}
use Rattle.bench_input.specs.declared.input.Reduction.{Reduction}
use Rattle.bench_input.specs.declared.input.Reduction.TheVariants.{KeepAll, Pairwise, Exact}
use Rattle.bench_listing.specs.Lines.{text_of}
use Rattle.bench_listing.specs.Runs.{run_lines}
use Rattle.logs.specs.Arcs.{arcs_by_core}
use Rattle.cores.specs.Memory.{Rules, rules, Memory, start, plain}
use Rattle.cores.specs.Register.{register_first, register_next, register_after}
use Rattle.cores.specs.Script.{script_first, script_next, script_after}
use Rattle.recordings.specs.Decided.{arcs_by, accepted_by}
use Rattle.recordings.specs.Tracks.{logs_of}
use Rattle.records.specs.declared.settings.Sizes.{Sizes}
use Rattle.runs.specs.Recording.{Arc}
use Rattle.runs.specs.Reducers.{Reducer, exact, pairwise, keep_all}

-- the rules of a kind of core over a text, and its state at a starting item
abbrev pub rules_for : Kind → List ℕ → Rules
rules_for Script text = rules script_next script_after text
rules_for Register text = rules register_next register_after text

abbrev pub state_at : Kind → ℕ → List ℕ
state_at Script place = script_first place
state_at Register place = register_first place

abbrev pub reducer_for : Reduction → Reducer
reducer_for KeepAll = keep_all
reducer_for Pairwise = pairwise
reducer_for Exact = exact

-- each log has 4,096 bytes
abbrev pub sizes_for : ℕ → ℕ → Sizes
sizes_for P C = record { cores = P; cells = C; log_bytes = 4096 }

-- a line for each arc, one of the cells, and one of the steps of the replay, where the turns u were accepted and the arcs L logged
abbrev pub lines_of : Rules → ℕ → Memory → List ℕ → List Arc → List (List (List ℕ))
lines_of K P m u L = run_lines (arcs_by_core (λ k. logs_of k L) P) (plain K m u).cells (length u)

-- the lines where a reducer decides what is accepted and logged
abbrev pub decided_lines : Reducer → Rules → Sizes → Memory → List ℕ → List (List (List ℕ))
decided_lines R K z m turns =
    let u : List ℕ = accepted_by R K z m (reverse turns) in
    lines_of K z.cores m u (arcs_by R K m u)

-- cells and registers start at 0
abbrev pub first_memory : Session → Memory
first_memory s = start (replicate s.cells 0) (map (state_at s.kind) s.starts)

abbrev pub session_lines : Session → List (List (List ℕ))
session_lines s = decided_lines (reducer_for s.reduction) (rules_for s.kind s.text) (sizes_for s.cores s.cells) (first_memory s) s.turns

abbrev pub answer_lines : Option Session → List (List (List ℕ))
answer_lines (Some s) = session_lines s
answer_lines None = (codes "bad" ∷ []) ∷ []

abbrev pub bad_text : List ℕ
bad_text = codes "bad" ++ (10 ∷ [])

-- the text is bad exactly if the input describes no session, and else the lines of the one that it describes
pub record BadExactly (input text : List ℕ) : Type 0 where
  pub bad : text ≡ bad_text ↔ ((s : Session) → Describes input s → ⊥)
  pub lines : (s : Session) → Describes input s → text ≡ text_of (session_lines s)
