-- What is accepted and logged with a reducer that is a function of its numbers.
use Rattle.std.specs.Prelude.{◌≡◌, ℕ, ◌-◌, true, cond, List, [], ◌∷◌, length, ◌==◌}
use Rattle.cores.specs.Memory.{Rules, Memory, plain}
use Rattle.records.specs.declared.settings.Sizes.{Sizes}
use Rattle.reducers.specs.Decided.{Decides}
use Rattle.reducers.specs.Numbers.{Numbers, Meets}
use Rattle.runs.specs.Recording.{Arc, Recording}
use Rattle.runs.specs.Reducers.{Reducer, by_choice, recorded}
use Rattle.runs.specs.Runs.{Run}
use Rattle.recordings.specs.ByTheRules.{ByTheRules, plainly_said}
use Rattle.recordings.specs.Refused.{turn_refusal}
use Rattle.recordings.specs.Tracks.{run_of, logs_of}

-- the arcs logged in the turns u, the newest first
abbrev pub arcs_by : Reducer → Rules → Memory → List ℕ → List Arc
arcs_by R K m u = (recorded R (run_of K m u)).arcs

-- the reducer's numbers behind them
abbrev pub numbers_by : Reducer → Rules → Memory → List ℕ → Numbers
numbers_by R K m u = (recorded R (run_of K m u)).numbers

-- of turns of these cores the accepted ones, the newest first
unfoldable pub accepted_by : Reducer → Rules → Sizes → Memory → List ℕ → List ℕ
accepted_by R K z m [] = []
accepted_by R K z m (j ∷ js) =
    let u : List ℕ = accepted_by R K z m js in
    cond (turn_refusal K z true (plain K m u) (logs_of j (arcs_by R K m u)) j == 0) (j ∷ u) u

-- what the turns answer, the newest first
unfoldable pub said_by : Reducer → Rules → Sizes → Memory → List ℕ → List (List ℕ)
said_by R K z m [] = []
said_by R K z m (j ∷ js) =
    let u : List ℕ = accepted_by R K z m js in
    let number : ℕ = turn_refusal K z true (plain K m u) (logs_of j (arcs_by R K m u)) j in
    cond (number == 0) (plainly_said K m u j (length (arcs_by R K m (j ∷ u)) - length (arcs_by R K m u))) (number ∷ []) ∷ said_by R K z m js

-- the bounds leave one choice of arcs for each run, whatever they leave of the numbers
abbrev pub DecidesArcs : Meets → Reducer → Type 0
DecidesArcs meets R = (r : Run) (N : Numbers) (L : List Arc) → Recording meets r N L → L ≡ (recorded R r).arcs

-- then turns by the rules accept, log and answer just these
abbrev pub ArcsDecide : Meets → Type 0
ArcsDecide meets =
    (R : Reducer) → DecidesArcs meets R → (K : Rules) (z : Sizes) (m : Memory) (js : List ℕ) (says : List (List ℕ)) (u : List ℕ) (N : Numbers) (L : List Arc) →
    ByTheRules meets K z m js says u N L → (u ≡ accepted_by R K z m js) × (L ≡ arcs_by R K m u) × (says ≡ said_by R K z m js)

-- where the bounds leave one choice, turns by the rules accept, log and answer just these, and leave just these numbers
abbrev pub RulesDecide : Meets → Type 0
RulesDecide meets =
    (F : Numbers → Numbers) → Decides meets F → (K : Rules) (z : Sizes) (m : Memory) (js : List ℕ) (says : List (List ℕ)) (u : List ℕ) (N : Numbers) (L : List Arc) →
    ByTheRules meets K z m js says u N L →
    let R = by_choice F in
    (u ≡ accepted_by R K z m js) × (L ≡ arcs_by R K m u) × (says ≡ said_by R K z m js) × (N ≡ numbers_by R K m u)
