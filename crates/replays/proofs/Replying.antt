-- What the steps of a replay say is decided by the plain memory's instructions, the arcs and the counts done.
use Rattle.std.proofs.Common.{◌≡◌, ℕ, suc, ◌<◌, Bool, true, false, cond, leb, List, [], ◌∷◌, length, get_or, set, Some, sym, refl, ap, ◌∙◌, subst, inl}
use mathlib.Core.Option.{none, some}
use Rattle.std.proofs.lemmas.Bool.{cond-true, leb-false}
use Rattle.cores.specs.Memory.{Rules, rules, Memory, Outcome, outcome, effect, turned, plain, start, Accepted, outcomes, instruction}
use Rattle.cores.specs.declared.interface.Request.{Request}
use Rattle.replayer.proofs.Runs.{stepped_moves}
use Rattle.replayer.specs.Answers.{done_numbers}
use Rattle.replayer.specs.Runs.{Session, counted, one}
use Rattle.replayer.specs.Steps.{stepped}
use Rattle.runs.proofs.ReplaySteps.{goes_parts}
use Rattle.runs.proofs.Waiting.{waits_for_sources, own_log_is_enough}
use Rattle.runs.specs.Recording.{Arc, In, log}
use Rattle.runs.specs.Replay.{Progress, free, waiting, goes, replayed, Replays}
use Rattle.replays.specs.Matches.{step_says, waited}
use Rattle.replays.specs.Replies.{instruction_said, reply, done_after, replies, dones, steps_said}
use Rattle.replays.proofs.Agreeing.{agree_at}
use Rattle.replays.proofs.Instructions.{found}
use Rattle.replays.proofs.Walking.{one_walks, Walked}
use Rattle.replays.specs.Promise.{onto}

leaves_alike : (b c : Bool) (x y l r : List ℕ) → (c ≡ false → l ≡ r) → cond b x (cond c y l) ≡ cond b x (cond c y r)
leaves_alike true c x y l r h = refl
leaves_alike false true x y l r h = refl
leaves_alike false false x y l r h = h refl

module _ (next : List ℕ → List ℕ → Request) (after : List ℕ → List ℕ → ℕ → List ℕ) (text cs : List ℕ) (ss : List (List ℕ)) (u : List ℕ) (L : List Arc) (store : List ℕ)
    (ok : Accepted (rules next after text) (start cs ss) u) (rp : Replays (rules next after text) (start cs ss) u L) where
  abbrev K : Rules
  K = rules next after text

  abbrev m : Memory
  m = start cs ss

  abbrev n : List ℕ
  n = (plain K m u).counts

  abbrev es : List Outcome
  es = outcomes K m u

  abbrev after_steps : List ℕ → Progress
  after_steps σ = replayed K m u L σ

  -- what goes is an instruction of the plain memory
  goes_found : (σ : List ℕ) (j : ℕ) → goes K L n (after_steps σ).memory j ≡ true →
      instruction es j (suc (get_or (after_steps σ).memory.counts j 0)) ≡ Some (outcome K (after_steps σ).memory j)
  unfolding outcome
  goes_found σ j g =
      let p = after_steps σ in
      let e = outcome K p.memory j in
      let stepped_to : Progress = record { memory = turned K p.memory j; outcomes = e ∷ p.outcomes } in
      let here : In e (after_steps (j ∷ σ)).outcomes = subst (λ (q : Progress). In e q.outcomes) (sym (cond-true (goes K L n p.memory j) stepped_to p g)) (inl refl) in
      found K cs ss u ok e (((rp.agrees (j ∷ σ)).values e).0 here).0

  reply_is : (σ : List ℕ) (P j : ℕ) → step_says K P n L (after_steps σ).memory j ≡ reply P es n L (after_steps σ).memory.counts j
  unfolding outcome
  reply_is σ P j =
      let x = (after_steps σ).memory in
      let d = x.counts in
      leaves_alike (leb P j) (leb (get_or n j 0) (get_or d j 0)) (1 ∷ []) (7 ∷ []) _ _ (λ less. go (leb-false (get_or n j 0) (get_or d j 0) less) (waiting (log j L) d j) refl)
    where
      go : get_or (after_steps σ).memory.counts j 0 < get_or n j 0 → (w : mathlib.Core.Option.Option Arc) → waiting (log j L) (after_steps σ).memory.counts j ≡ w →
          waited w (done_numbers (outcome K (after_steps σ).memory j).request (outcome K (after_steps σ).memory j).count (outcome K (after_steps σ).memory j).number)
          ≡ waited w (instruction_said (instruction es j (suc (get_or (after_steps σ).memory.counts j 0))))
      go less (some a) q = refl
      go less none q =
          let d = (after_steps σ).memory.counts in
          let clear : free L d j ≡ true = sym (own_log_is_enough.1 L d j) ∙ (waits_for_sources (log j L) d j).1.1 q in
          ap instruction_said (sym (goes_found σ j ((rp.agrees σ).unrefused j less clear)))

  -- and raises its core's count
  counts_after : (says : List ℕ) (σ : List ℕ) (j : ℕ) → counted says ≡ cond (goes K L n (after_steps σ).memory j) 1 0 →
      (after_steps (j ∷ σ)).memory.counts ≡ done_after says (after_steps σ).memory.counts j
  unfolding outcome effect
  counts_after says σ j e = go (goes K L n (after_steps σ).memory j) e
    where
      go : (b : Bool) → counted says ≡ cond b 1 0 →
          (cond b (record { memory = turned K (after_steps σ).memory j; outcomes = outcome K (after_steps σ).memory j ∷ (after_steps σ).outcomes }) (after_steps σ)).memory.counts
          ≡ done_after says (after_steps σ).memory.counts j
      go true e = ap (λ k. cond (leb k 0) (after_steps σ).memory.counts (set (after_steps σ).memory.counts j (suc (get_or (after_steps σ).memory.counts j 0)))) (sym e)
      go false e = ap (λ k. cond (leb k 0) (after_steps σ).memory.counts (set (after_steps σ).memory.counts j (suc (get_or (after_steps σ).memory.counts j 0)))) (sym e)

  -- what a step of the replayer says, and how many are done behind it
  module _ (t : Session) (σ : List ℕ) (size : length ss ≡ t.replayer.sizes.cores) (w : Walked n L store 0 t (after_steps σ)) (j : ℕ) where
    abbrev d : List ℕ
    d = (after_steps σ).memory.counts

    says_reply : (stepped next after text t.replayer t.cells t.states store j).says ≡ reply (length ss) es n L d j
    says_reply = (agree_at next after text m u L store rp t σ size w).answers j ∙ reply_is σ (length ss) j

    goes_counted : counted (reply (length ss) es n L d j) ≡ cond (goes K L n (after_steps σ).memory j) 1 0
    goes_counted = ap counted (sym says_reply) ∙ ((agree_at next after text m u L store rp t σ size w).next_step j).carried

    counts_are : (after_steps (j ∷ σ)).memory.counts ≡ done_after (reply (length ss) es n L d j) d j
    counts_are = counts_after (reply (length ss) es n L d j) σ j goes_counted

    size_then : length ss ≡ (one next after text store t j).replayer.sizes.cores
    size_then = size ∙ ap (λ z. z.cores) (sym (stepped_moves next after text store t.replayer t.cells t.states j w.matches.follows.four).sizes)

    walks_then : Walked n L store 0 (one next after text store t j) (after_steps (j ∷ σ))
    walks_then = one_walks next after text m n L store 0 t (after_steps σ) j w

  pub replied : (js : List ℕ) (t : Session) (σ : List ℕ) → length ss ≡ t.replayer.sizes.cores → Walked n L store 0 t (after_steps σ) →
      steps_said next after text store t js ≡ replies (length ss) es n L (after_steps σ).memory.counts js
  replied [] t σ size w = refl
  replied (j ∷ js) t σ size w =
      let rest = replied js (one next after text store t j) (j ∷ σ) (size_then t σ size w j) (walks_then t σ size w j) in
      λ i. says_reply t σ size w j i ∷ (rest ∙ ap (λ c. replies (length ss) es n L c js) (counts_are t σ size w j)) i

  -- how many of each core are done behind steps
  pub dones_are : (js : List ℕ) (t : Session) (σ : List ℕ) → length ss ≡ t.replayer.sizes.cores → Walked n L store 0 t (after_steps σ) →
      dones (length ss) es n L (after_steps σ).memory.counts js ≡ (after_steps (onto js σ)).memory.counts
  dones_are [] t σ size w = refl
  dones_are (j ∷ js) t σ size w =
      ap (λ c. dones (length ss) es n L c js) (sym (counts_are t σ size w j)) ∙ dones_are js (one next after text store t j) (j ∷ σ) (size_then t σ size w j) (walks_then t σ size w j)

  pub never_stuck : (js : List ℕ) (t : Session) (σ : List ℕ) → length ss ≡ t.replayer.sizes.cores → Walked n L store 0 t (after_steps σ) → (k : ℕ) →
      let c = dones (length ss) es n L (after_steps σ).memory.counts js in
      get_or c k 0 < get_or n k 0 → (j : ℕ) × (get_or c j 0 < get_or n j 0) × (counted (reply (length ss) es n L c j) ≡ 1)
  never_stuck [] t σ size w k less =
      let g = (rp.agrees σ).progress k less in
      (g.0, (goes_parts K L n (after_steps σ).memory g.0 g.1).0, goes_counted t σ size w g.0 ∙ ap (λ b. cond b 1 0) g.1)
  never_stuck (j ∷ js) t σ size w k less =
      subst (λ c. get_or (dones (length ss) es n L c js) k 0 < get_or n k 0 → (i : ℕ) × (get_or (dones (length ss) es n L c js) i 0 < get_or n i 0) × (counted (reply (length ss) es n L (dones (length ss) es n L c js) i) ≡ 1))
      (counts_are t σ size w j) (never_stuck js (one next after text store t j) (j ∷ σ) (size_then t σ size w j) (walks_then t σ size w j) k) less
