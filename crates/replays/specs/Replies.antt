-- What the steps of a replay say, by the plain memory's instructions, the arcs, and how many instructions of each core are done.
use Rattle.std.specs.Prelude.{◌≡◌, ℕ, suc, ◌+◌, ◌<◌, cond, List, [], ◌∷◌, Some, None, Option, nat_le, slice_index, slice_set}
use Rattle.cores.specs.Memory.{Outcome, instruction}
use Rattle.cores.specs.declared.interface.Request.{Request}
use Rattle.replayer.specs.Answers.{done_numbers}
use Rattle.replayer.specs.Runs.{Session, counted, one}
use Rattle.replayer.specs.Steps.{stepped}
use Rattle.runs.specs.Recording.{Arc, log}
use Rattle.runs.specs.Replay.{waiting}
use Rattle.replays.specs.Matches.{waited}

-- an instruction as a step tells it: request, count and number brought; one that is not there is never told
abbrev pub instruction_said : Option Outcome → List ℕ
instruction_said (Some e) = done_numbers e.request e.count e.number
instruction_said None = []

-- a step of core j of P, where the plain memory did the instructions es, n of each core, with the arcs L between them, and d of each core are done:
-- 1 no such core; 7 all done; 6 with the source of the first arc to the next instruction whose source is not done; else that instruction
abbrev pub reply : ℕ → List Outcome → List ℕ → List Arc → List ℕ → ℕ → List ℕ
reply P es n L d j =
    cond (nat_le P j) (1 ∷ [])
    (cond (nat_le (slice_index n j) (slice_index d j)) (7 ∷ [])
    (waited (waiting (log j L) d j) (instruction_said (instruction es j (suc (slice_index d j))))))

-- one more instruction of core j is done if the step was carried out, which says 0 first
abbrev pub done_after : List ℕ → List ℕ → ℕ → List ℕ
done_after says d j = cond (nat_le (counted says) 0) d (slice_set d j (suc (slice_index d j)))

-- steps of these cores
abbrev pub replies : ℕ → List Outcome → List ℕ → List Arc → List ℕ → List ℕ → List (List ℕ)
replies P es n L d [] = []
replies P es n L d (j ∷ js) = reply P es n L d j ∷ replies P es n L (done_after (reply P es n L d j) d j) js

-- how many instructions of each core are done then
abbrev pub dones : ℕ → List Outcome → List ℕ → List Arc → List ℕ → List ℕ → List ℕ
dones P es n L d [] = d
dones P es n L d (j ∷ js) = dones P es n L (done_after (reply P es n L d j) d j) js

-- after any steps, while an instruction of some core is left, some core that has one left carries it out when given a step
abbrev pub NeverStuck : ℕ → List Outcome → List ℕ → List Arc → List ℕ → Type 0
NeverStuck P es n L d₀ =
    (js : List ℕ) (k : ℕ) → let d = dones P es n L d₀ js in
    slice_index d k < slice_index n k → (j : ℕ) × (slice_index d j < slice_index n j) × (counted (reply P es n L d j) ≡ 1)

-- how many of the replies tell of an instruction that was carried out
abbrev pub carried_out : List (List ℕ) → ℕ
carried_out [] = 0
carried_out (says ∷ more) = counted says + carried_out more

-- what the replayer's steps say, one after another
abbrev pub steps_said : (List ℕ → List ℕ → Request) → (List ℕ → List ℕ → ℕ → List ℕ) → List ℕ → List ℕ → Session → List ℕ → List (List ℕ)
steps_said next after text store s [] = []
steps_said next after text store s (j ∷ more) =
    (stepped next after text s.replayer s.cells s.states store j).says ∷ steps_said next after text store (one next after text store s j) more
