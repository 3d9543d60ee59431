-- Where a reducer's bounds leave it one choice, a turn has one outcome.
use Rattle.std.specs.Prelude.{◌≡◌, ℕ, cond, ◌&&◌, List, [], ◌∷◌, Some, None, Option}
use Rattle.accesses.specs.declared.access.Candidate.{Candidate}
use Rattle.cores.specs.Memory.{Rules}
use Rattle.reducers.specs.Calls.{Call, takes, notes}
use Rattle.reducers.specs.Decided.{Decides}
use Rattle.reducers.specs.Numbers.{Numbers, Meets, core?, cell?, taken, noted}
use Rattle.recorder.specs.Judged.{known?, take_of, last_of}
use Rattle.recorder.specs.Refusals.{touched}
use Rattle.recorder.specs.Turns.{candidates_for, World, asks, Answered, turned, Turned}
use Rattle.recorder.specs.declared.rules.Touch.{Touch}

module _ (F : Numbers → Numbers) where
  -- the numbers after a call
  abbrev pub called_by : Numbers → Call → Numbers
  called_by n (takes i a c w j) = cond (core? i && (core? j && cell? c)) (F (taken n i a c w j)) n
  called_by n (notes j c w) = cond (core? j && cell? c) (F (noted n j c w)) n

  -- the numbers after a candidate
  abbrev pub judged_by : ℕ → ℕ → Numbers → Option Candidate → Numbers
  judged_by c j n None = n
  judged_by c j n (Some x) = cond (known? j n x) n (called_by n (take_of c j x))

  -- the numbers after each candidate
  abbrev pub trail_by : ℕ → ℕ → Numbers → List (Option Candidate) → List Numbers
  trail_by c j n [] = []
  trail_by c j n (x ∷ xs) = judged_by c j n x ∷ trail_by c j (judged_by c j n x) xs

  abbrev pub trail_for : ℕ → Option Touch → Numbers → List (Option Candidate) → List Numbers
  trail_for j None n xs = []
  trail_for j (Some t) n xs = trail_by t.cell j n xs

  -- the numbers after the note
  abbrev pub noted_for : ℕ → Option Touch → Numbers → Numbers
  noted_for j None n = n
  noted_for j (Some t) n = called_by n (notes j t.cell t.kind)

  -- a turn of j
  unfoldable pub turned_by : Rules → ℕ → World → Answered
  turned_by K j w =
      let t = w.tape in
      let touch = touched (asks K j w) in
      let trail = trail_for j touch t.numbers (candidates_for t.book.sizes.cores t.history j touch) in
      turned K j w trail (noted_for j touch (last_of t.numbers trail))

-- a reducer that has one choice gives a turn one outcome
abbrev pub OneOutcome : Meets → Type 0
OneOutcome meets =
    (F : Numbers → Numbers) → Decides meets F → (K : Rules) (j : ℕ) (w : World) (o : Answered) → Turned meets K j w o → o ≡ turned_by F K j w
