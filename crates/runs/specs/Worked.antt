-- A run worked through that the source core's current knowledge, in place of its stamp, gets wrong; arcs are the newest first.
use Rattle.std.specs.Prelude.{◌≡◌, ℕ, max, cond, List, [], ◌∷◌, ◌==◌, slice_index_or}
use Rattle.cores.specs.Script.{script_next, script_after}
use Rattle.cores.specs.Memory.{Rules, rules, Memory, start, plain}
use Rattle.reducers.specs.Numbers.{◌⊑◌, noted}
use Rattle.runs.specs.Runs.{read, write, ev, Run, Instr, Conflict}
use Rattle.runs.specs.Recording.{arc, Reach}
use Rattle.runs.specs.Reducers.{Reducer, Keeps, recorded, exact}
use Rattle.runs.specs.PlainRun.{run}
use Rattle.runs.specs.Replay.{replayed}

-- instruction b of core j
abbrev pub at : ℕ → ℕ → Instr
at j b = record { core = j; count = b }

-- the rules of script cores over a text
abbrev pub script : List ℕ → Rules
script text = rules script_next script_after text

-- the error of recorders: the source core's current knowledge in place of its stamp
abbrev pub current_knowledge : Reducer
current_knowledge = record {
  take = λ n i a c w j. record {
    known = λ t k. cond (t == j) (max (n.known j k) (cond (k == i) a (n.known i k))) (n.known t k);
    written = n.written;
    read = n.read;
  };
  note = noted;
}

-- 0:1 writes place 0; 1:1 writes place 1; 0:2 reads it; 2:1 reads place 0; 2:2 reads place 1
abbrev pub late_run : Run
late_run = ev 2 (read 1) ∷ ev 2 (read 0) ∷ ev 0 (read 1) ∷ ev 1 (write 1) ∷ ev 0 (write 0) ∷ []

-- the same as turns of three cores
abbrev pub late_text : List ℕ
late_text =
    2 ∷ 0 ∷ 0 ∷ 7 ∷ 1 ∷ 1 ∷ 0 ∷ 0 ∷ 255 ∷ 0 ∷ 0 ∷ 0 ∷ 2 ∷ 1 ∷ 0 ∷ 9 ∷ 255 ∷ 0 ∷ 0 ∷ 0
    ∷ 1 ∷ 0 ∷ 0 ∷ 0 ∷ 1 ∷ 1 ∷ 0 ∷ 0 ∷ 255 ∷ 0 ∷ 0 ∷ 0 ∷ []

abbrev pub late_begun : Memory
late_begun = start (0 ∷ 0 ∷ []) ((0 ∷ 0 ∷ []) ∷ (3 ∷ 0 ∷ []) ∷ (5 ∷ 0 ∷ []) ∷ [])

abbrev pub late_turns : List ℕ
late_turns = 2 ∷ 2 ∷ 0 ∷ 1 ∷ 0 ∷ []

-- Core 0 learns of 1:1 only after 0:1, so 2:1, which reads what 0:1 wrote, need not follow 1:1. With core 0's current knowledge
-- in place of the stamp of 0:1, the arc from 1:1 to 2:2 is not logged, and their conflict is not ordered: in the plain memory
-- 2:2 reads 9, in a replay that steps core 0 and then core 2 twice it reads 0.
pub record CurrentKnowledgeLosesAnOrdering : Type 0 where
  pub logged_exactly : (recorded exact late_run).arcs ≡ arc (at 1 1) (at 2 2) ∷ arc (at 0 1) (at 2 1) ∷ arc (at 1 1) (at 0 2) ∷ []
  pub logged_currently : (recorded current_knowledge late_run).arcs ≡ arc (at 0 1) (at 2 1) ∷ arc (at 1 1) (at 0 2) ∷ []
  pub in_conflict : Conflict late_run (at 1 1) (at 2 2)
  pub not_ordered : Reach late_run (recorded current_knowledge late_run).arcs (at 1 1) (at 2 2) → ⊥
  pub out_of_bounds : Keeps ◌⊑◌ current_knowledge → ⊥
  pub is_late : run (λ c. c) (script late_text) late_begun late_turns ≡ late_run
  pub plain_reads : slice_index_or (plain (script late_text) late_begun late_turns).states 2 [] ≡ 7 ∷ 9 ∷ []
  pub replay_reads : slice_index_or (replayed (script late_text) late_begun late_turns (recorded current_knowledge late_run).arcs (2 ∷ 2 ∷ 0 ∷ [])).memory.states 2 [] ≡
      7 ∷ 0 ∷ []
