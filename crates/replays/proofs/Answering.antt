-- A step answers by the arcs of the recording: no such core, all replayed, a wait, or what the plain memory does.
use Rattle.std.proofs.Common.{◌≡◌, ℕ, ◌+◌, ◌<◌, ◌≤◌, true, leb, List, [], ◌∷◌, get_or, sym, refl, ap, ◌∙◌, subst, inl, inr, arith}
use mathlib.Core.Option.{Option, none, some}
use Rattle.std.proofs.lemmas.List.{get_or-take}
use Rattle.std.proofs.lemmas.Bool.{cases_lt, cond-true, cond-false, le-leb, lt-leb}
use Rattle.cores.specs.Memory.{Rules, rules, Memory, outcome}
use Rattle.cores.specs.declared.interface.Request.{Request}
use Rattle.logs.specs.Lawful.{Lawful}
use Rattle.records.specs.Settings.{heading_of}
use Rattle.records.specs.declared.reading.SavedPlace.{SavedPlace}
use Rattle.recordings.specs.Tracks.{logs_of}
use Rattle.replayer.proofs.Following.{step_waits}
use Rattle.replayer.specs.Answers.{done_numbers}
use Rattle.replayer.specs.Following.{arcs_to}
use Rattle.replayer.specs.Groups.{waits_for}
use Rattle.replayer.specs.Memories.{memory_of}
use Rattle.replayer.specs.Steps.{gone, freed, cleared, stepped}
use Rattle.replayer.specs.declared.replay.Replayer.{Replayer}
use Rattle.runs.specs.Recording.{Arc, log}
use Rattle.runs.specs.Replay.{Progress, free, waiting, goes}
use Rattle.replays.specs.Matches.{Matches, waited, step_says}
use Rattle.replays.proofs.Stepping.{steps_match}
use Rattle.replays.proofs.Waits.{waits_none, waits_free, source_waited, waits_first}

module _ (next : List ℕ → List ℕ → Request) (after : List ℕ → List ℕ → ℕ → List ℕ) (text n : List ℕ) (L : List Arc) (store : List ℕ) (R : Replayer) (cells : List ℕ) (states : List (List ℕ)) (p : Progress) (j : ℕ)
    (m : Matches n L store R cells states p)
    (unrefused : get_or p.memory.counts j 0 < get_or n j 0 → free L p.memory.counts j ≡ true → goes (rules next after text) L n p.memory j ≡ true) where
  abbrev K : Rules
  K = rules next after text

  abbrev P : ℕ
  P = R.sizes.cores

  abbrev M : Memory
  M = memory_of R cells states

  abbrev done_said : Memory → List ℕ
  done_said x = done_numbers (outcome K x j).request (outcome K x j).count (outcome K x j).number

  abbrev said : List ℕ
  said = (stepped next after text R cells states store j).says

  beyond : P ≤ j → said ≡ step_says K P n L p.memory j
  unfolding stepped cleared
  beyond h =
      ap (λ x. (gone next after text R cells states j x).says) (cond-true _ _ _ m.ready ∙ cond-true _ _ _ (le-leb P j h))
      ∙ sym (cond-true (leb P j) (1 ∷ []) _ (le-leb P j h))

  done_is : j < P → get_or p.memory.counts j 0 ≡ get_or R.done j 0
  done_is mine = sym (ap (λ x. get_or x.counts j 0) m.memory) ∙ get_or-take P R.done j 0 mine

  spent : j < P → get_or R.counts j 0 ≤ get_or R.done j 0 → said ≡ step_says K P n L p.memory j
  unfolding stepped cleared
  spent mine h =
      ap (λ x. (gone next after text R cells states j x).says) (cond-true _ _ _ m.ready ∙ cond-false _ _ _ (lt-leb P j mine) ∙ cond-true _ _ _ (le-leb (get_or R.counts j 0) (get_or R.done j 0) h))
      ∙ sym (cond-false (leb P j) (1 ∷ []) _ (lt-leb P j mine)
      ∙ cond-true (leb (get_or n j 0) (get_or p.memory.counts j 0)) (7 ∷ []) _ (le-leb (get_or n j 0) (get_or p.memory.counts j 0) (omega (arith, h, m.recorded j mine, done_is mine))))

  -- an instruction is left
  module _ (mine : j < P) (h : get_or R.done j 0 < get_or R.counts j 0) where
    abbrev lawful : Lawful (heading_of R.sizes j) (logs_of j L)
    lawful = subst (Lawful (heading_of R.sizes j)) (m.arcs j) (m.follows.holds j mine).lawful.lawful

    abbrev behind : SavedPlace
    behind = (step_waits next after text R cells states store m.bodies m.follows j m.ready mine h).0

    goes_on : said ≡ (gone next after text R cells states j (freed (source_waited (waiting (log j L) M.counts j)) behind)).says
    goes_on =
        ap (λ x. x.says) (step_waits next after text R cells states store m.bodies m.follows j m.ready mine h).2
        ∙ ap (λ a. (gone next after text R cells states j (freed (waits_for R.done (arcs_to (get_or R.done j 0 + 1) a)) behind)).says) (m.arcs j)
        ∙ ap (λ w. (gone next after text R cells states j (freed w behind)).says) (waits_first (heading_of R.sizes j) R.done j L mine lawful)

    less : get_or p.memory.counts j 0 < get_or n j 0
    less = omega (arith, h, m.recorded j mine, done_is mine)

    answers : (w : Option Arc) → waiting (log j L) M.counts j ≡ w → said ≡ waited w (done_said p.memory)
    answers (some a) q = goes_on ∙ ap (λ w. (gone next after text R cells states j (freed (source_waited w) behind)).says) q
    answers none q =
        let f : free L M.counts j ≡ true =
        sym (waits_free (heading_of R.sizes j) R.done j L mine lawful)
        ∙ ap waits_none (waits_first (heading_of R.sizes j) R.done j L mine lawful ∙ ap source_waited q) in
        (steps_match next after text n L store R cells states p j m).says (unrefused less (subst (λ x. free L x.counts j ≡ true) m.memory f))

    left : said ≡ step_says K P n L p.memory j
    left =
        answers (waiting (log j L) M.counts j) refl
        ∙ ap (λ x. waited (waiting (log j L) x.counts j) (done_said p.memory)) m.memory
        ∙ sym (cond-false (leb P j) (1 ∷ []) _ (lt-leb P j mine)
        ∙ cond-false (leb (get_or n j 0) (get_or p.memory.counts j 0)) (7 ∷ []) _ (lt-leb (get_or n j 0) (get_or p.memory.counts j 0) less))

  pub says : said ≡ step_says K P n L p.memory j
  says = elim (cases_lt j P) [
    | inl mine ↦ elim (cases_lt (get_or R.done j 0) (get_or R.counts j 0)) [ inl h ↦ left mine h | inr h ↦ spent mine h ]
    | inr h ↦ beyond h
  ]

-- so says a step, where no core that has an instruction left and does not wait is refused
pub steps_say :
    (next : List ℕ → List ℕ → Request) (after : List ℕ → List ℕ → ℕ → List ℕ) (text n : List ℕ) (L : List Arc) (store : List ℕ) (R : Replayer) (cells : List ℕ) (states : List (List ℕ)) (p : Progress) (j : ℕ) →
    let K = rules next after text in
    Matches n L store R cells states p → (get_or p.memory.counts j 0 < get_or n j 0 → free L p.memory.counts j ≡ true → goes K L n p.memory j ≡ true) →
    (stepped next after text R cells states store j).says ≡ step_says K R.sizes.cores n L p.memory j
steps_say next after text n L store R cells states p j m f = says next after text n L store R cells states p j m f
