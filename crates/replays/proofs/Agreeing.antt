-- After any steps and calls since an opening, the replay agrees with the plain memory.
use Rattle.std.proofs.Common.{◌≡◌, ℕ, ◌-◌, ◌≤◌, Bool, true, false, cond, ◌≢◌, List, [], ◌∷◌, length, get_or, take, Ok, Err, Result, sym, refl, ap, ◌∙◌, subst, arith}
use Rattle.std.proofs.lemmas.List.{get_or-take, length-take}
use Rattle.cores.proofs.Storing.{length_stored}
use Rattle.cores.specs.Latest.{Latest}
use Rattle.cores.specs.Memory.{Rules, rules, Memory, plain, outcome, effect, turned, outcomes}
use Rattle.cores.specs.declared.interface.Request.{Request}
use Rattle.logs.specs.Session as reading
use Rattle.records.specs.Faults.{Fault, bad_setting}
use Rattle.records.specs.Settings.{settled}
use Rattle.records.specs.declared.settings.Sizes.{Sizes}
use Rattle.replayer.proofs.Runs.{stepped_moves}
use Rattle.replayer.specs.Memories.{walked}
use Rattle.replayer.specs.Runs.{Session, session, one}
use Rattle.replayer.specs.Steps.{found, reopened}
use Rattle.replayer.specs.declared.replay.Replayer.{Replayer}
use Rattle.runs.specs.Recording.{Arc}
use Rattle.runs.specs.Replay.{Progress, goes, replay, replayed, Replays, StandsBehind, done_of, ReplayState}
use Rattle.replays.specs.Matches.{Matches, step_says}
use Rattle.replays.specs.Promise.{StepsAgree, onto}
use Rattle.replays.specs.Calls.{Stage, stage, Continues, none, steps, runs, not_opened}
use Rattle.replays.proofs.Answering.{steps_say}
use Rattle.replays.proofs.Stepping.{steps_match}
use Rattle.replays.proofs.Walking.{walks_match, runs_finish, Walked}

-- a replay over arcs has as many cells as its memory
replay_cells : (K : Rules) (L : List Arc) (n : List ℕ) (m : Memory) (σ : List ℕ) → length (replay K L n m σ).memory.cells ≡ length m.cells
unfolding outcome effect
replay_cells K L n m [] = refl
replay_cells K L n m (j ∷ σ) = go (goes K L n (replay K L n m σ).memory j) (replay_cells K L n m σ)
  where
    go : (b : Bool) → length (replay K L n m σ).memory.cells ≡ length m.cells → length (cond b (record { memory = turned K (replay K L n m σ).memory j; outcomes = outcome K (replay K L n m σ).memory j ∷ (replay K L n m σ).outcomes }) (replay K L n m σ)).memory.cells ≡ length m.cells
    go true h = length_stored (outcome K (replay K L n m σ).memory j).request (replay K L n m σ).memory.cells ∙ h
    go false h = h

-- what holds of the cells and states within the sizes holds of all
within_buffers : (K : Rules) (m : Memory) (u d : List ℕ) (y : Memory) (C P : ℕ) (cells : List ℕ) (states : List (List ℕ)) → take C cells ≡ y.cells → take P states ≡ y.states →
    length m.cells ≤ C → length m.states ≤ P → ReplayState K m u d y.cells y.states → ReplayState K m u d cells states
within_buffers K m u d y C P cells states c s few_cells few_states r = record {
  cores_stand = λ j h.
      subst (StandsBehind m.states (outcomes K m u) j (get_or d j 0)) (ap (λ l. get_or l j []) (sym s) ∙ get_or-take P states j [] (omega (arith, h, few_states))) (r.cores_stand j h);
  cells_hold = λ k h.
      subst (Latest m.cells (done_of d (outcomes K m u)) k) (ap (λ l. get_or l k 0) (sym c) ∙ get_or-take C cells k 0 (omega (arith, h, few_cells))) (r.cells_hold k h);
}

module _ (next : List ℕ → List ℕ → Request) (after : List ℕ → List ℕ → ℕ → List ℕ) (text : List ℕ) where
  -- steps leave the sizes
  walked_sizes : (store : List ℕ) (s : Session) (js : List ℕ) → length s.replayer.done ≡ 4 → (walked next after text store s js).replayer.sizes ≡ s.replayer.sizes
  walked_sizes store s [] four = refl
  walked_sizes store s (j ∷ more) four =
      let v = stepped_moves next after text store s.replayer s.cells s.states j four in
      walked_sizes store (one next after text store s j) more v.four ∙ v.sizes

  module _ (m : Memory) (u : List ℕ) (L : List Arc) (store : List ℕ) (rp : Replays (rules next after text) m u L) where
    abbrev K : Rules
    K = rules next after text

    abbrev n : List ℕ
    n = (plain K m u).counts

    abbrev after_steps : List ℕ → Progress
    after_steps σ = replayed K m u L σ

    left_in_buffers : (t : Session) (σ : List ℕ) → length m.states ≡ t.replayer.sizes.cores → Walked n L store 0 t (after_steps σ) → ReplayState K m u (after_steps σ).memory.counts t.cells t.states
    left_in_buffers t σ size w =
        let C = t.replayer.sizes.cells in
        let taken : take C t.cells ≡ (after_steps σ).memory.cells = ap (λ (x : Memory). x.cells) w.matches.memory in
        let few : length m.cells ≤ C = let a = ap length taken in let b = replay_cells K L n m σ in let c = length-take C t.cells in omega (arith, a, b, c) in
        within_buffers K m u (after_steps σ).memory.counts (after_steps σ).memory C t.replayer.sizes.cores t.cells t.states taken (ap (λ (x : Memory). x.states) w.matches.memory) few (omega (arith, size)) (rp.agrees σ).leaves

    pub agree_at : (t : Session) (σ : List ℕ) → length m.states ≡ t.replayer.sizes.cores → Walked n L store 0 t (after_steps σ) → StepsAgree next after text m u L store t (after_steps σ)
    agree_at t σ size w =
        let c : t.carried ≡ length (after_steps σ).outcomes = omega (arith, w.carried) in
        let f = runs_finish next after text m u L store t.replayer t.cells t.states σ rp size w.matches in
        record {
          matches = w.matches;
          carried = c;
          agrees = rp.agrees σ;
          leaves = left_in_buffers t σ size w;
          answers = λ j. steps_say next after text n L store t.replayer t.cells t.states (after_steps σ) j w.matches ((rp.agrees σ).unrefused j) ∙ ap (λ k. step_says K k n L (after_steps σ).memory j) (sym size);
          next_step = λ j. steps_match next after text n L store t.replayer t.cells t.states (after_steps σ) j w.matches;
          finishes = (f.0 ∙ ap (λ k. 0 ∷ (length u - k) ∷ []) (sym c), f.1, f.2.1.ready);
        }

    pub steps_agree : (R : Replayer) (cells : List ℕ) (states : List (List ℕ)) → length m.states ≡ R.sizes.cores → Matches n L store R cells states (after_steps []) → (js : List ℕ) →
        StepsAgree next after text m u L store (walked next after text store (session 0 R cells states) js) (after_steps (onto js []))
    steps_agree R cells states size M js =
        agree_at (walked next after text store (session 0 R cells states) js) (onto js [])
        (size ∙ ap (λ z. z.cores) (sym (walked_sizes store (session 0 R cells states) js M.follows.four)))
        (walks_match next after text m n L store 0 (session 0 R cells states) [] js (record { matches = M; carried = omega arith }))

    -- where calls since the opening have come
    pub record Stands (b : Stage) : Type 0 where
      pub steps : List ℕ
      pub matches : Matches n L store b.replayer b.cells b.states (after_steps steps)
      pub size : length m.states ≡ b.replayer.sizes.cores

    still : (b : Stage) (z : Sizes) (cores cells : ℕ) (bytes : List ℕ) → (reopened b.replayer z cores cells bytes).says ≢ 0 ∷ [] → (reopened b.replayer z cores cells bytes).replayer ≡ b.replayer
    still b z cores cells bytes never = go (settled z cores cells (length bytes)) (reading.session bytes z) never
      where
        go : (ok : Bool) (r : Result (List ℕ) Fault) → (cond ok (found b.replayer z r) (record { says = bad_setting; replayer = b.replayer })).says ≢ 0 ∷ [] →
            (cond ok (found b.replayer z r) (record { says = bad_setting; replayer = b.replayer })).replayer ≡ b.replayer
        go true (Ok counts) never = absurd (never refl)
        go true (Err f) never = refl
        go false r never = refl

    stands : (a b : Stage) → Stands a → Continues next after text store a b → Stands b
    stands a b x none = x
    stands a b x (steps {b = d} c j o e) =
        let y = stands a d x c in
        let g = steps_match next after text n L store d.replayer d.cells d.states (after_steps y.steps) j y.matches in
        let v = stepped_moves next after text store d.replayer d.cells d.states j y.matches.follows.four in
        subst (λ o. Stands (stage o.replayer o.cells o.states)) (sym e)
        (record { steps = j ∷ y.steps; matches = g.matches; size = y.size ∙ ap (λ z. z.cores) (sym v.sizes) })
    stands a b x (runs {b = d} c o e) =
        let y = stands a d x c in
        let f = runs_finish next after text m u L store d.replayer d.cells d.states y.steps rp y.size y.matches in
        subst (λ o. Stands (stage o.replayer o.cells o.states)) (sym e) (record { steps = f.2.0; matches = f.2.1; size = f.2.2 })
    stands a b x (not_opened {b = d} c z cores cells bytes o e never) =
        subst (λ R. Stands (stage R d.cells d.states)) (sym (ap (λ o. o.replayer) e ∙ still d z cores cells bytes (λ q. never (ap (λ o. o.says) e ∙ q)))) (stands a d x c)

    pub calls_agree : (a b : Stage) → Stands a → Continues next after text store a b →
        (τ : List ℕ) × StepsAgree next after text m u L store (session (length (after_steps τ).outcomes) b.replayer b.cells b.states) (after_steps τ)
    calls_agree a b x c =
        let y = stands a b x c in
        (y.steps, agree_at (session (length (after_steps y.steps).outcomes) b.replayer b.cells b.states) y.steps y.size (record { matches = y.matches; carried = omega arith }))
