-- A step over the bytes goes exactly if the replay over the arcs of the recording goes, and both come equally far.
use Rattle.std.proofs.Common.{◌≡◌, ℕ, ◌+◌, ◌<◌, ◌≤◌, Bool, true, false, cond, ◌&&◌, ltb, leb, List, [], ◌∷◌, length, get_or, Some, None, Option, sym, refl, ap, ◌∙◌, subst, inl, inr, arith}
use Rattle.std.proofs.lemmas.List.{get_or-take, length-take-le, length-set}
use Rattle.std.proofs.lemmas.Bool.{cases_lt, cond-true, cond-false, and_parts, leb-true, le-leb, lt-leb, lt-ltb, le-ltb, false≢true}
use Rattle.cores.proofs.Storing.{length_stored}
use Rattle.cores.specs.Acting.{within}
use Rattle.cores.specs.Memory.{Rules, rules, Memory, able, accepts, brought, outcome, turned}
use Rattle.cores.specs.declared.interface.Request.{Request}
use Rattle.logs.specs.Lawful.{Lawful, arcs_in}
use Rattle.records.specs.Format.{Entry}
use Rattle.records.specs.Settings.{fits, settled, heading_of}
use Rattle.records.specs.declared.reading.SavedPlace.{SavedPlace}
use Rattle.recordings.specs.Tracks.{logs_of}
use Rattle.replayer.proofs.Following.{step_waits, steps_follow}
use Rattle.replayer.proofs.Memories.{steps_alike}
use Rattle.replayer.proofs.Ways.{any_step}
use Rattle.replayer.specs.Answers.{done_numbers}
use Rattle.replayer.specs.Following.{Follows, arcs_to}
use Rattle.replayer.specs.Groups.{waits_for}
use Rattle.replayer.specs.Memories.{memory_of, Alike, stays, turns}
use Rattle.replayer.specs.Runs.{counted}
use Rattle.replayer.specs.Steps.{Outcome, refused, acted, gone, freed, cleared, stepped}
use Rattle.records.specs.declared.format.Source.{Source}
use Rattle.replayer.specs.declared.replay.Replayer.{Replayer}
use Rattle.runs.specs.Recording.{Arc}
use Rattle.runs.specs.Replay.{Progress, free, goes, step}
use Rattle.replays.specs.Matches.{Matches, StepGoes}
use Rattle.replays.proofs.Waits.{waits_none, waits_free}

never : (a b : Bool) → (a && (b && false)) ≡ false
never true true = refl
never true false = refl
never false b = refl

module _ (next : List ℕ → List ℕ → Request) (after : List ℕ → List ℕ → ℕ → List ℕ) (text n : List ℕ) (L : List Arc) (store : List ℕ) (R : Replayer) (cells : List ℕ) (states : List (List ℕ)) (j : ℕ)
    (bodies : ℕ → List Entry) (F : Follows store bodies R) (arcs : (k : ℕ) → arcs_in (bodies k) ≡ logs_of k L) (ready : settled R.sizes (length states) (length cells) (length store) ≡ true)
    (recorded : (k : ℕ) → k < R.sizes.cores → get_or R.counts k 0 ≡ get_or n k 0) where
  abbrev K : Rules
  K = rules next after text

  abbrev P : ℕ
  P = R.sizes.cores

  abbrev M : Memory
  M = memory_of R cells states

  abbrev request : Request
  request = next text (get_or states j [])

  abbrev o : Outcome
  o = stepped next after text R cells states store j

  enough : (P ≤ length states) × (R.sizes.cells ≤ length cells)
  enough =
      let rest = (and_parts (fits (length store) R.sizes) _ ready).1 in
      (leb-true P (length states) (and_parts (leb P (length states)) _ rest).0, leb-true R.sizes.cells (length cells) (and_parts (leb P (length states)) _ rest).1)

  accepts_is : j < P → accepts K M j ≡ able request R.sizes.cells
  accepts_is mine =
      (λ i. ltb j (length-take-le P states enough.0 i) && able (next text (get_or-take P states j [] mine i)) (length-take-le R.sizes.cells cells enough.1 i))
      ∙ ap (λ b. b && able request R.sizes.cells) (lt-ltb j P mine)

  -- no such core
  beyond : P ≤ j → counted o.says ≡ cond (goes K L n M j) 1 0
  unfolding stepped cleared
  beyond h =
      ap (λ x. counted (gone next after text R cells states j x).says) (cond-true _ _ _ ready ∙ cond-true _ _ _ (le-leb P j h))
      ∙ ap (λ b. cond b 1 0) (sym ((λ i. ltb (get_or M.counts j 0) (get_or n j 0) && (free L M.counts j && (ltb j (length-take-le P states enough.0 i) && able (next text (get_or M.states j [])) (length M.cells))))
      ∙ ap (λ b. ltb (get_or M.counts j 0) (get_or n j 0) && (free L M.counts j && (b && able (next text (get_or M.states j [])) (length M.cells)))) (le-ltb j P h)
      ∙ never (ltb (get_or M.counts j 0) (get_or n j 0)) (free L M.counts j)))

  -- already replayed
  spent : j < P → get_or R.counts j 0 ≤ get_or R.done j 0 → counted o.says ≡ cond (goes K L n M j) 1 0
  unfolding stepped cleared
  spent mine h =
      ap (λ x. counted (gone next after text R cells states j x).says) (cond-true _ _ _ ready ∙ cond-false _ _ _ (lt-leb P j mine) ∙ cond-true _ _ _ (le-leb (get_or R.counts j 0) (get_or R.done j 0) h))
      ∙ ap (λ b. cond (b && (free L M.counts j && accepts K M j)) 1 0) (sym (le-ltb (get_or M.counts j 0) (get_or n j 0) (omega (arith, h, recorded j mine, get_or-take P R.done j 0 mine))))

  gone_counts : (W : Option Source) (behind : SavedPlace) → counted (gone next after text R cells states j (freed W behind)).says ≡ cond (waits_none W && able request R.sizes.cells) 1 0
  gone_counts (Some s) behind = refl
  gone_counts None behind = go (able request R.sizes.cells) (within request R.sizes.cells)
    where
      go : (b c : Bool) → counted (cond b (acted next after text R cells states j behind request) (cond c (refused next after text R cells states (2 ∷ [])) (refused next after text R cells states (4 ∷ [])))).says ≡ cond b 1 0
      go true c = refl
      go false true = refl
      go false false = refl

  -- an instruction is left
  left : j < P → get_or R.done j 0 < get_or R.counts j 0 → counted o.says ≡ cond (goes K L n M j) 1 0
  left mine h =
      let w = step_waits next after text R cells states store bodies F j ready mine h in
      let lawful = subst (Lawful (heading_of R.sizes j)) (arcs j) (F.holds j mine).lawful.lawful in
      ap (λ x. counted x.says) w.2
      ∙ gone_counts (waits_for R.done (arcs_to (get_or R.done j 0 + 1) (arcs_in (bodies j)))) w.0
      ∙ ap (λ a. cond (waits_none (waits_for R.done (arcs_to (get_or R.done j 0 + 1) a)) && able request R.sizes.cells) 1 0) (arcs j)
      ∙ (λ i. cond (waits_free (heading_of R.sizes j) R.done j L mine lawful i && sym (accepts_is mine) i) 1 0)
      ∙ ap (λ b. cond (b && (free L M.counts j && accepts K M j)) 1 0) (sym (lt-ltb (get_or M.counts j 0) (get_or n j 0) (omega (arith, h, recorded j mine, get_or-take P R.done j 0 mine))))

  goes_alike : counted o.says ≡ cond (goes K L n M j) 1 0
  goes_alike = elim (cases_lt j P) [
    | inl mine ↦ elim (cases_lt (get_or R.done j 0) (get_or R.counts j 0)) [ inl h ↦ left mine h | inr h ↦ spent mine h ]
    | inr h ↦ beyond h
  ]

-- what no step changes
pub record Kept (n store : List ℕ) (o : Outcome) : Type 0 where
  pub ready : settled o.replayer.sizes (length o.states) (length o.cells) (length store) ≡ true
  pub recorded : (k : ℕ) → k < o.replayer.sizes.cores → get_or o.replayer.counts k 0 ≡ get_or n k 0

kept : (next : List ℕ → List ℕ → Request) (after : List ℕ → List ℕ → ℕ → List ℕ) (text n : List ℕ) (store : List ℕ) (R : Replayer) (cells : List ℕ) (states : List (List ℕ)) (j : ℕ) →
    settled R.sizes (length states) (length cells) (length store) ≡ true → ((k : ℕ) → k < R.sizes.cores → get_or R.counts k 0 ≡ get_or n k 0) →
    Kept n store (stepped next after text R cells states store j)
kept next after text n store R cells states j ready recorded =
    any_step next after text R cells states store j (Kept n store)
    (λ says q. record { ready = ready; recorded = recorded })
    (λ G w. record {
      ready = (λ i. settled R.sizes (length-set states j (after text (get_or states j []) (brought (next text (get_or states j [])) cells)) i) (length_stored (next text (get_or states j [])) cells i) (length store)) ∙ ready;
      recorded = recorded;
    })

goes_not : (b : Bool) → ◌≡◌ {A = ℕ} 0 (cond b 1 0) → b ≡ false
goes_not true q = absurd (omega (arith, q))
goes_not false q = refl

goes_so : (b : Bool) → ◌≡◌ {A = ℕ} 1 (cond b 1 0) → b ≡ true
goes_so true q = refl
goes_so false q = absurd (omega (arith, q))

module _ (next : List ℕ → List ℕ → Request) (after : List ℕ → List ℕ → ℕ → List ℕ) (text n : List ℕ) (L : List Arc) (store : List ℕ) (R : Replayer) (cells : List ℕ) (states : List (List ℕ)) (p : Progress) (j : ℕ)
    (m : Matches n L store R cells states p) where
  abbrev kind : Rules
  kind = rules next after text

  abbrev left_by : Outcome
  left_by = stepped next after text R cells states store j

  carries : counted left_by.says ≡ cond (goes kind L n p.memory j) 1 0
  carries = goes_alike next after text n L store R cells states j m.bodies m.follows m.arcs m.ready m.recorded ∙ ap (λ x. cond (goes kind L n x j) 1 0) m.memory

  matching : (q : Progress) → memory_of left_by.replayer left_by.cells left_by.states ≡ q.memory → Matches n L store left_by.replayer left_by.cells left_by.states q
  matching q e =
      let k = kept next after text n store R cells states j m.ready m.recorded in
      record { bodies = m.bodies; follows = steps_follow next after text R cells states store m.bodies m.follows j; arcs = m.arcs; ready = k.ready; memory = e; recorded = k.recorded }

  matched : Alike kind (memory_of R cells states) j left_by → StepGoes kind n L store p j left_by
  matched (stays q e) =
      let no = goes_not (goes kind L n p.memory j) (sym q ∙ carries) in
      record {
        carried = carries;
        says = λ yes. absurd (false≢true (sym no ∙ yes));
        matches = matching (step kind L n p j) (e ∙ m.memory ∙ ap (λ x. x.memory) (sym (cond-false (goes kind L n p.memory j) (record { memory = turned kind p.memory j; outcomes = outcome kind p.memory j ∷ p.outcomes }) p no)));
      }
  matched (turns s a e) =
      let yes = goes_so (goes kind L n p.memory j) (sym (ap counted s) ∙ carries) in
      record {
        carried = carries;
        says = λ _. s ∙ ap (λ x. done_numbers (outcome kind x j).request (outcome kind x j).count (outcome kind x j).number) m.memory;
        matches = matching (step kind L n p j) (e ∙ ap (λ x. turned kind x j) m.memory ∙ ap (λ x. x.memory) (sym (cond-true (goes kind L n p.memory j) (record { memory = turned kind p.memory j; outcomes = outcome kind p.memory j ∷ p.outcomes }) p yes)));
      }

pub steps_match :
    (next : List ℕ → List ℕ → Request) (after : List ℕ → List ℕ → ℕ → List ℕ) (text n : List ℕ) (L : List Arc) (store : List ℕ) (R : Replayer) (cells : List ℕ) (states : List (List ℕ)) (p : Progress) (j : ℕ) →
    Matches n L store R cells states p → StepGoes (rules next after text) n L store p j (stepped next after text R cells states store j)
steps_match next after text n L store R cells states p j m = matched next after text n L store R cells states p j m (steps_alike next after text R cells states store j m.follows.four)
