-- Any steps come as far over the bytes as over the arcs, and a run goes round the cores until nothing is left.
use Rattle.std.proofs.Common.{◌≡◌, ℕ, zero, suc, ◌+◌, ◌-◌, ◌<◌, ◌≤◌, Bool, true, false, cond, ◌&&◌, eqb, List, [], ◌∷◌, ◌++◌, length, get_or, sym, refl, ap, ◌∙◌, subst, inl, inr, arith}
use Rattle.std.proofs.lemmas.List.{get_or-take}
use Rattle.std.proofs.lemmas.Bool.{cond-true, cond-false, eq-eqb, ne_eqb, le-ltb}
use Rattle.cores.specs.Memory.{Rules, rules, Memory, outcome, turned, accepts, plain}
use Rattle.cores.specs.declared.interface.Request.{Request}
use Rattle.records.specs.Settings.{settled}
use Rattle.replayer.proofs.Runs.{around_moves}
use Rattle.replayer.specs.Memories.{memory_of, walked}
use Rattle.replayer.specs.Runs.{left_at, left_from, left, Session, session, one, circled, around, ended, rounds, ran}
use Rattle.replayer.specs.Steps.{Outcome}
use Rattle.replayer.specs.declared.replay.Replayer.{Replayer}
use Rattle.runs.specs.Recording.{Arc}
use Rattle.runs.specs.Replay.{Progress, free, goes, step, replay, replayed, circle, circles, Replays}
use Rattle.replays.specs.Matches.{Matches}
use Rattle.replays.specs.Promise.{onto}
use Rattle.replays.proofs.Stepping.{steps_match}

-- steps of these cores come as far as they do over the arcs, and carry out as many instructions
pub record Walked (n : List ℕ) (L : List Arc) (store : List ℕ) (before : ℕ) (s : Session) (p : Progress) : Type 0 where
  pub matches : Matches n L store s.replayer s.cells s.states p
  pub carried : before + s.carried ≡ length p.outcomes

-- one step of each of k cores from j on, on top of earlier ones
abbrev up : ℕ → ℕ → List ℕ → List ℕ
up zero j σ = σ
up (suc k) j σ = up k (j + 1) (j ∷ σ)

up_last : (k j : ℕ) (σ : List ℕ) → up (suc k) j σ ≡ (j + k) ∷ up k j σ
up_last zero j σ = let e : ◌≡◌ {A = ℕ} j (j + 0) = omega arith in ap (λ i. i ∷ σ) e
up_last (suc k) j σ = let e : ◌≡◌ {A = ℕ} (j + 1 + k) (j + suc k) = omega arith in up_last k (j + 1) (j ∷ σ) ∙ ap (λ i. i ∷ up (suc k) j σ) e

up_circle : (k : ℕ) (σ : List ℕ) → up k 0 σ ≡ circle k ++ σ
up_circle zero σ = refl
up_circle (suc k) σ = up_last k 0 σ ∙ (let e : ◌≡◌ {A = ℕ} (0 + k) k = omega arith in λ i. e i ∷ up_circle k σ i)

module _ (next : List ℕ → List ℕ → Request) (after : List ℕ → List ℕ → ℕ → List ℕ) (text : List ℕ) (m : Memory) (n : List ℕ) (L : List Arc) (store : List ℕ) (before : ℕ) where
  abbrev K : Rules
  K = rules next after text

  more_out : (b : Bool) (p : Progress) (j : ℕ) → length (cond b (record { memory = turned K p.memory j; outcomes = outcome K p.memory j ∷ p.outcomes }) p).outcomes ≡ cond b 1 0 + length p.outcomes
  more_out true p j = omega arith
  more_out false p j = omega arith

  pub one_walks : (s : Session) (p : Progress) (j : ℕ) → Walked n L store before s p → Walked n L store before (one next after text store s j) (step K L n p j)
  one_walks s p j w =
      let g = steps_match next after text n L store s.replayer s.cells s.states p j w.matches in
      record { matches = g.matches; carried = omega (arith, w.carried, g.carried, more_out (goes K L n p.memory j) p j) }

  walks : (s : Session) (σ steps : List ℕ) → Walked n L store before s (replay K L n m σ) → Walked n L store before (walked next after text store s steps) (replay K L n m (onto steps σ))
  walks s σ [] w = w
  walks s σ (j ∷ more) w = walks (one next after text store s j) (j ∷ σ) more (one_walks s (replay K L n m σ) j w)

  circle_walks : (k j : ℕ) (s : Session) (σ : List ℕ) → Walked n L store before s (replay K L n m σ) → Walked n L store before (circled next after text store k j s) (replay K L n m (up k j σ))
  unfolding circled
  circle_walks zero j s σ w = w
  circle_walks (suc k) j s σ w = circle_walks k (j + 1) (one next after text store s j) (j ∷ σ) (one_walks s (replay K L n m σ) j w)

pub walks_match :
    (next : List ℕ → List ℕ → Request) (after : List ℕ → List ℕ → ℕ → List ℕ) (text : List ℕ) (m : Memory) (n : List ℕ) (L : List Arc) (store : List ℕ) (before : ℕ) (s : Session) (σ steps : List ℕ) →
    Walked n L store before s (replay (rules next after text) L n m σ) →
    Walked n L store before (walked next after text store s steps) (replay (rules next after text) L n m (onto steps σ))
walks_match next after text m n L store before s σ steps w = walks next after text m n L store before s σ steps w

-- nothing is left once every core has done what was recorded
none_left : (R : Replayer) (k j : ℕ) → ((i : ℕ) → i < j + k → left_at R i ≡ 0) → left_from R k j ≡ 0
none_left R zero j h = refl
none_left R (suc k) j h =
    let here = h j (omega arith) in
    let rest = none_left R k (j + 1) (λ i l. h i (omega (arith, l))) in
    omega (arith, here, rest)

-- and then no step changes anything
idle : (K : Rules) (n : List ℕ) (L : List Arc) (p : Progress) (j : ℕ) → ((k : ℕ) → get_or n k 0 ≤ get_or p.memory.counts k 0) → step K L n p j ≡ p
idle K n L p j done = cond-false (goes K L n p.memory j) _ p (ap (λ b. b && (free L p.memory.counts j && accepts K p.memory j)) (le-ltb (get_or p.memory.counts j 0) (get_or n j 0) (done j)))

all_idle : (K : Rules) (n : List ℕ) (L : List Arc) (m : Memory) (τ σ : List ℕ) → ((k : ℕ) → get_or n k 0 ≤ get_or (replay K L n m σ).memory.counts k 0) → replay K L n m (τ ++ σ) ≡ replay K L n m σ
all_idle K n L m [] σ done = refl
all_idle K n L m (j ∷ τ) σ done = ap (λ p. step K L n p j) (all_idle K n L m τ σ done) ∙ idle K n L (replay K L n m σ) j done

module _ (next : List ℕ → List ℕ → Request) (after : List ℕ → List ℕ → ℕ → List ℕ) (text : List ℕ) (m : Memory) (u : List ℕ) (L : List Arc) (store : List ℕ) (before : ℕ)
    (rp : Replays (rules next after text) m u L) where
  abbrev kind : Rules
  kind = rules next after text

  abbrev n : List ℕ
  n = (plain kind m u).counts

  abbrev Ends : Outcome → Type 0
  Ends o =
      (o.says ≡ 0 ∷ (length u - before) ∷ [])
      × (memory_of o.replayer o.cells o.states ≡ plain kind m u)
      × ((τ : List ℕ) × Matches n L store o.replayer o.cells o.states (replayed kind m u L τ) × (length m.states ≡ o.replayer.sizes.cores))

  abbrev AllDone : List ℕ → Type 0
  AllDone σ = (k : ℕ) → get_or n k 0 ≤ get_or (replayed kind m u L σ).memory.counts k 0

  at_end : (s : Session) (σ : List ℕ) → length m.states ≡ s.replayer.sizes.cores → Walked n L store before s (replayed kind m u L σ) → AllDone σ → Ends (ended next after text store 0 s.carried s)
  at_end s σ size w done =
      let f = (rp.finishes σ (length u) (omega arith)).1 in
      let same = ap (λ p. length p.outcomes) (all_idle kind n L m (circles (length m.states) (length u)) σ done) in
      let c : s.carried ≡ length u - before = omega (arith, f, same, w.carried) in
      (ap (λ c. 0 ∷ c ∷ []) c, w.matches.memory ∙ (rp.agrees σ).end done, (σ, w.matches, size))

  done_left : (s : Session) (σ : List ℕ) → Walked n L store before s (replayed kind m u L σ) → AllDone σ → left s.replayer ≡ 0
  unfolding left
  done_left s σ w done =
      none_left s.replayer s.replayer.sizes.cores 0 (λ i h.
      let mine : i < s.replayer.sizes.cores = omega (arith, h) in
      let r = w.matches.recorded i mine in
      let t = get_or-take s.replayer.sizes.cores s.replayer.done i 0 mine in
      let e = ap (λ x. get_or x.counts i 0) w.matches.memory in
      omega (arith, r, t, e, done i))

  round_walks : (s : Session) (σ : List ℕ) → length m.states ≡ s.replayer.sizes.cores → Walked n L store before s (replayed kind m u L σ) →
      let t = around next after text store s in
      Walked n L store before (session (s.carried + t.carried) t.replayer t.cells t.states) (replayed kind m u L (circle (length m.states) ++ σ))
  round_walks s σ size w =
      let P = s.replayer.sizes.cores in
      let t = around next after text store s in
      let c = circle_walks next after text m n L store (before + s.carried) P 0 (session 0 s.replayer s.cells s.states) σ (record { matches = w.matches; carried = omega (arith, w.carried) }) in
      let q : up P 0 σ ≡ circle (length m.states) ++ σ = up_circle P σ ∙ ap (λ k. circle k ++ σ) (sym size) in
      subst (λ τ. Walked n L store before (session (s.carried + t.carried) t.replayer t.cells t.states) (replayed kind m u L τ)) q
      (record { matches = c.matches; carried = omega (arith, c.carried) })

  rounds_end : (f : ℕ) (s : Session) (σ : List ℕ) → left s.replayer < f → length m.states ≡ s.replayer.sizes.cores → Walked n L store before s (replayed kind m u L σ) → Ends (rounds next after text store f s)
  unfolding rounds
  rounds_end zero s σ enough size w = absurd (omega (arith, enough))
  rounds_end (suc f) s σ enough size w = elim (rp.moves_on σ) [
    | inl done ↦ subst Ends (sym (cond-true (eqb (left s.replayer) 0) _ _ (eq-eqb (left s.replayer) 0 (done_left s σ w done)))) (at_end s σ size w done)
    | inr more ↦
        let t = around next after text store s in
        let w' = round_walks s σ size w in
        let v = around_moves next after text store s w.matches.follows.four in
        let moved : 0 < t.carried = omega (arith, more, w.carried, w'.carried) in
        let rest = rounds_end f (session (s.carried + t.carried) t.replayer t.cells t.states) (circle (length m.states) ++ σ)
        (omega (arith, v.fewer, moved, enough)) (size ∙ ap (λ z. z.cores) (sym v.sizes)) w' in
        subst Ends (sym (cond-false (eqb (left s.replayer) 0) _ _ (ne_eqb (left s.replayer) 0 (λ q. omega (arith, q, v.fewer, moved)))
        ∙ cond-false (eqb t.carried 0) _ _ (ne_eqb t.carried 0 (λ q. omega (arith, q, moved))))) rest
  ]

-- where every replay over the arcs agrees with the plain memory, a run finishes: it carries out all that is left, ends with the plain memory, and stands where some steps over the arcs do
pub runs_finish :
    (next : List ℕ → List ℕ → Request) (after : List ℕ → List ℕ → ℕ → List ℕ) (text : List ℕ) (m : Memory) (u : List ℕ) (L : List Arc) (store : List ℕ)
    (R : Replayer) (cells : List ℕ) (states : List (List ℕ)) (σ : List ℕ) →
    let K = rules next after text in
    Replays K m u L → length m.states ≡ R.sizes.cores →
    Matches (plain K m u).counts L store R cells states (replayed K m u L σ) →
    let o : Outcome = ran next after text store R cells states in
    (o.says ≡ 0 ∷ (length u - length (replayed K m u L σ).outcomes) ∷ [])
    × (memory_of o.replayer o.cells o.states ≡ plain K m u)
    × ((τ : List ℕ) × Matches (plain K m u).counts L store o.replayer o.cells o.states (replayed K m u L τ) × (length m.states ≡ o.replayer.sizes.cores))
unfolding ran
runs_finish next after text m u L store R cells states σ rp size w =
    let c = length (replayed (rules next after text) m u L σ).outcomes in
    subst (Ends next after text m u L store c rp) (sym (cond-true (settled R.sizes (length states) (length cells) (length store)) _ _ w.ready))
    (rounds_end next after text m u L store c rp (suc (left R)) (session 0 R cells states) σ (omega arith) size (record { matches = w; carried = omega arith }))
