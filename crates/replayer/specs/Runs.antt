-- What a run comes to: circles of steps.
use Rattle.std.specs.Prelude.{◌≡◌, ℕ, zero, suc, ◌+◌, ◌-◌, ◌<◌, true, false, cond, ◌↔◌, List, [], ◌∷◌, length, Some, None, Ok, Err, Option, Result, ◌==◌, slice_index, slice_index_or}
use Rattle.cores.specs.declared.interface.Request.{Request}
use Rattle.records.specs.Faults.{bad_setting}
use Rattle.records.specs.declared.format.Source.{Source}
use Rattle.records.specs.declared.faults.Refusal.{Refusal}
use Rattle.replayer.specs.declared.answers.Ended.{Ended}
use Rattle.replayer.specs.declared.replay.Replayer.{Replayer}
use Rattle.records.specs.Settings.{settled}
use Rattle.replayer.specs.Answers.{wait_numbers}
use Rattle.replayer.specs.Groups.{is_done}
use Rattle.replayer.specs.Steps.{Outcome, cleared, stepped}

-- how many recorded instructions core j has left, and k cores from j on, and all
abbrev pub left_at : Replayer → ℕ → ℕ
left_at R j = slice_index R.counts j - slice_index R.done j

abbrev pub left_from : Replayer → ℕ → ℕ → ℕ
left_from R zero j = 0
left_from R (suc k) j = left_at R j + left_from R k (j + 1)

unfoldable pub left : Replayer → ℕ
left R = left_from R R.sizes.cores 0

-- how many steps were carried out so far, and what is there now
pub record Session : Type 0 where
  pub carried : ℕ
  pub replayer : Replayer
  pub cells : List ℕ
  pub states : List (List ℕ)

abbrev pub session : ℕ → Replayer → List ℕ → List (List ℕ) → Session
session carried R cells states = record { carried = carried; replayer = R; cells = cells; states = states }

-- 1 where a step was carried out, which says 0 first, and 0 where it was refused
abbrev pub counted : List ℕ → ℕ
counted says = cond (slice_index_or says 0 1 == 0) 1 0

abbrev pub then : Session → Outcome → Session
then s o = session (s.carried + counted o.says) o.replayer o.cells o.states

module _ (next : List ℕ → List ℕ → Request) (after : List ℕ → List ℕ → ℕ → List ℕ) (text store : List ℕ) where
  -- a step of core j
  abbrev pub one : Session → ℕ → Session
  one s j = then s (stepped next after text s.replayer s.cells s.states store j)

  -- a step of each of k cores from j on
  unfoldable pub circled : ℕ → ℕ → Session → Session
  circled zero j s = s
  circled (suc k) j s = circled k (j + 1) (one s j)

  -- a circle over all cores, counted from 0
  abbrev pub around : Session → Session
  around s = circled s.replayer.sizes.cores 0 (session 0 s.replayer s.cells s.states)

  -- finished 0 or stopped 1
  abbrev pub ended : ℕ → ℕ → Session → Outcome
  ended how steps s = record { says = how ∷ steps ∷ []; replayer = s.replayer; cells = s.cells; states = s.states }

  -- at most so many circles: finished when nothing is left, stopped when a circle carried nothing out
  unfoldable pub rounds : ℕ → Session → Outcome
  rounds zero s = ended 0 s.carried s
  rounds (suc f) s =
      let t = around s in
      cond (left s.replayer == 0) (ended 0 s.carried s)
      (cond (t.carried == 0) (ended 1 s.carried t)
      (rounds f (session (s.carried + t.carried) t.replayer t.cells t.states)))

  -- a run; each circle but the last carries out a recorded instruction
  unfoldable pub ran : Replayer → List ℕ → List (List ℕ) → Outcome
  ran R cells states =
      cond (settled R.sizes (length states) (length cells) (length store))
      (rounds (suc (left R)) (session 0 R cells states))
      (record { says = bad_setting; replayer = R; cells = cells; states = states })

-- core j waits for a source that is known, as long as that is not done
abbrev pub Awaits : List ℕ → Replayer → ℕ → ℕ → ℕ → Option Source → Type 0
Awaits store R cores cells j None = Unit {0}
Awaits store R cores cells j (Some s) = is_done R.done s ≡ false → cleared R cores cells store j ≡ Err (wait_numbers s)

-- each core waits for its source, where one is known
abbrev pub AllAwait : List ℕ → Replayer → ℕ → ℕ → List (Option Source) → Type 0
AllAwait store R cores cells known = (j : ℕ) → Awaits store R cores cells j (slice_index_or known j None)

-- a refused run changes no core
abbrev pub RunKept : {K : Type 0} → Result Ended Refusal → List K → List K → Type 0
RunKept (Ok _) before later = Unit {0}
RunKept (Err _) before later = later ≡ before

-- a run that is not refused answers stopped exactly if, where it ends, something is left and no core's step is carried out; and finished exactly if nothing is left
abbrev pub RunsStopExactly : Type 0
RunsStopExactly =
    (next : List ℕ → List ℕ → Request) (after : List ℕ → List ℕ → ℕ → List ℕ) (text store : List ℕ) (R : Replayer) (cells : List ℕ) (states : List (List ℕ)) → length R.done ≡ 4 →
    settled R.sizes (length states) (length cells) (length store) ≡ true →
    let o : Outcome = ran next after text store R cells states in
    ((slice_index o.says 0 ≡ 1) ↔ ((0 < left o.replayer) × ((j : ℕ) → counted (stepped next after text o.replayer o.cells o.states store j).says ≡ 0)))
    × ((slice_index o.says 0 ≡ 0) ↔ (left o.replayer ≡ 0))
