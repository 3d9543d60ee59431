-- A step that is carried out is a turn of the plain memory, so steps and runs are turns.
use Rattle.std.proofs.Common.{◌≡◌, ℕ, zero, suc, ◌+◌, ◌≤◌, Bool, true, false, cond, eqb, ltb, leb, List, [], ◌∷◌, length, get_or, take, set, sym, refl, ap, ◌∙◌, subst, arith}
use Rattle.std.proofs.Math.Seq.{take-set-lt}
use Rattle.std.proofs.lemmas.List.{get_or-take, length-take-le}
use Rattle.std.proofs.lemmas.Bool.{eqb-true, leb-true, lt-ltb, and_from, and_parts}
use Rattle.cores.specs.declared.interface.Request.{Request}
use Rattle.cores.proofs.Storing.{take_stored, brought_take}
use Rattle.cores.specs.Memory.{Rules, rules, Memory, able, brought, stored, outcome, effect, turned, accepts}
use Rattle.records.specs.declared.settings.Sizes.{Sizes}
use Rattle.records.specs.Faults.{bad_setting}
use Rattle.records.specs.Settings.{fits, settled}
use Rattle.replayer.specs.declared.group.Group.{Group}
use Rattle.replayer.specs.declared.replay.Replayer.{Replayer}
use Rattle.replayer.specs.Answers.{done_numbers}
use Rattle.replayer.specs.Memories.{memory_of, Alike, stays, turns, StepsAlike, Played, walked, StepsPlay, RunsPlay}
use Rattle.replayer.specs.Runs.{left, counted, Session, session, one, circled, around, ended, rounds, ran}
use Rattle.replayer.specs.Steps.{Outcome, acted, stepped}
use Rattle.replayer.proofs.Runs.{stepped_moves}
use Rattle.replayer.proofs.Steps.{able_inside, settled_cores}
use Rattle.replayer.proofs.Ways.{Carried, any_step}

settled_cells : (z : Sizes) (cores cells bytes : ℕ) → settled z cores cells bytes ≡ true → z.cells ≤ cells
settled_cells z cores cells bytes t = leb-true z.cells cells (and_parts (leb z.cores cores) _ (and_parts (fits bytes z) _ t).1).1

module _
    (next : List ℕ → List ℕ → Request) (after : List ℕ → List ℕ → ℕ → List ℕ)
    (text : List ℕ) (R : Replayer) (cells : List ℕ) (states : List (List ℕ)) (store : List ℕ) (j : ℕ) (four : length R.done ≡ 4)
    (G : Group) (w : Carried next after text R cells states store j G)
  where
    abbrev K : Rules
    K = rules next after text

    abbrev P : ℕ
    P = R.sizes.cores

    abbrev C : ℕ
    C = R.sizes.cells

    abbrev m : Memory
    m = memory_of R cells states

    abbrev request : Request
    request = next text (get_or states j [])

    abbrev number : ℕ
    number = brought request cells

    state_is : get_or (take P states) j [] ≡ get_or states j []
    state_is = get_or-take P states j [] w.clear.known

    request_is : K.next (get_or (take P states) j []) ≡ request
    request_is = ap (next text) state_is

    number_is : brought (K.next (get_or (take P states) j [])) (take C cells) ≡ number
    number_is = ap (λ r. brought r (take C cells)) request_is ∙ brought_take request C cells (able_inside request C w.able)

    count_is : suc (get_or (take P R.done) j 0) ≡ get_or R.done j 0 + 1
    count_is = omega (arith, get_or-take P R.done j 0 w.clear.known)

    state_after : K.after (get_or (take P states) j []) (brought (K.next (get_or (take P states) j [])) (take C cells)) ≡ after text (get_or states j []) number
    state_after = λ i. after text (state_is i) (number_is i)

    carried_turns : Alike K m j (acted next after text R cells states j G.place request)
    unfolding outcome effect
    carried_turns =
        turns
        (λ i. done_numbers (sym request_is i) (sym count_is i) (sym number_is i))
        (and_from (ltb j (length (take P states))) _
        (ap (ltb j) (length-take-le P states (settled_cores R.sizes (length states) (length cells) (length store) w.clear.ready)) ∙ lt-ltb j P w.clear.known)
        ((λ i. able (request_is i) (length-take-le C cells (settled_cells R.sizes (length states) (length cells) (length store) w.clear.ready) i)) ∙ w.able))
        (λ i. record {
          cells = (take_stored request C cells (able_inside request C w.able) ∙ ap (λ r. stored r (take C cells)) (sym request_is)) i;
          states = (take-set-lt P states j (after text (get_or states j []) number) w.clear.known ∙ ap (set (take P states) j) (sym state_after)) i;
          counts = (take-set-lt P R.done j (get_or R.done j 0 + 1) w.clear.known ∙ ap (set (take P R.done) j) (sym count_is)) i;
        })

pub steps_alike : StepsAlike
steps_alike next after text R cells states store j four =
    any_step next after text R cells states store j (Alike (rules next after text) (memory_of R cells states) j)
    (λ says q. stays q refl)
    (λ G w. carried_turns next after text R cells states store j four G w)

renumber : {K : Rules} {m : Memory} {R : Replayer} {cells : List ℕ} {states : List (List ℕ)} (a b : ℕ) → Played K m a R cells states → a ≡ b → Played K m b R cells states
renumber a b p e = record { turns = p.turns; number = p.number ∙ e; accepted = p.accepted; memory = p.memory; four = p.four }

played_none : (K : Rules) (R : Replayer) (cells : List ℕ) (states : List (List ℕ)) → length R.done ≡ 4 → Played K (memory_of R cells states) 0 R cells states
played_none K R cells states four = record { turns = []; number = refl; accepted = tt; memory = refl; four = four }

module _ (next : List ℕ → List ℕ → Request) (after : List ℕ → List ℕ → ℕ → List ℕ) (text store : List ℕ) (m : Memory) where
  -- b turns were played before those that the session counts
  abbrev Plays : ℕ → Session → Type 0
  Plays b s = Played (rules next after text) m (b + s.carried) s.replayer s.cells s.states

  one_plays : (b : ℕ) (s : Session) → Plays b s → (j : ℕ) → Plays b (one next after text store s j)
  one_plays b s p j = go (steps_alike next after text s.replayer s.cells s.states store j p.four)
    where
      o : Outcome
      o = stepped next after text s.replayer s.cells s.states store j

      four : length o.replayer.done ≡ 4
      four = (stepped_moves next after text store s.replayer s.cells s.states j p.four).four

      go : Alike (rules next after text) (memory_of s.replayer s.cells s.states) j o → Plays b (one next after text store s j)
      go (stays n q) = record { turns = p.turns; number = omega (arith, p.number, n); accepted = p.accepted; memory = q ∙ p.memory; four = four }
      go (turns says a q) = record {
        turns = j ∷ p.turns;
        number = omega (arith, p.number, ap counted says);
        accepted = (subst (λ x. accepts (rules next after text) x j ≡ true) p.memory a, p.accepted);
        memory = q ∙ ap (λ x. turned (rules next after text) x j) p.memory;
        four = four;
      }

  walk_plays : (s : Session) → Plays 0 s → (steps : List ℕ) → Plays 0 (walked next after text store s steps)
  walk_plays s p [] = p
  walk_plays s p (j ∷ more) = walk_plays (one next after text store s j) (one_plays 0 s p j) more

  circle_plays : (b k j : ℕ) (s : Session) → Plays b s → Plays b (circled next after text store k j s)
  unfolding circled
  circle_plays b zero j s p = p
  circle_plays b (suc k) j s p = circle_plays b k (j + 1) (one next after text store s j) (one_plays b s p j)

  -- a run so far, and what it ends with
  abbrev Ends : Outcome → Type 0
  Ends o = Played (rules next after text) m (get_or o.says 1 0) o.replayer o.cells o.states

  rounds_play : (f : ℕ) (s : Session) → Plays 0 s → Ends (rounds next after text store f s)
  unfolding rounds
  rounds_play zero s p = renumber _ _ p (omega arith)
  rounds_play (suc f) s p = go (eqb (left s.replayer) 0) (eqb t.carried 0) refl (rounds_play f (session (s.carried + t.carried) t.replayer t.cells t.states) on)
    where
      t : Session
      t = around next after text store s

      round : Plays s.carried t
      round = circle_plays s.carried s.replayer.sizes.cores 0 (session 0 s.replayer s.cells s.states) (renumber _ _ p (omega arith))

      on : Plays 0 (session (s.carried + t.carried) t.replayer t.cells t.states)
      on = renumber _ _ round (omega arith)

      go : (a b : Bool) → eqb t.carried 0 ≡ b → Ends (rounds next after text store f (session (s.carried + t.carried) t.replayer t.cells t.states)) →
          Ends (cond a (ended next after text store 0 s.carried s) (cond b (ended next after text store 1 s.carried t)
          (rounds next after text store f (session (s.carried + t.carried) t.replayer t.cells t.states))))
      go true b q again = renumber _ _ p (omega arith)
      go false true q again = renumber _ _ round (omega (arith, eqb-true t.carried 0 q))
      go false false q again = again

pub steps_play : StepsPlay
steps_play next after text store R cells states steps four =
    renumber _ _ (walk_plays next after text store (memory_of R cells states) (session 0 R cells states) (played_none (rules next after text) R cells states four) steps) (omega arith)

pub runs_play : RunsPlay
unfolding ran
runs_play next after text store R cells states four = go (settled R.sizes (length states) (length cells) (length store))
  where
    go : (b : Bool) → Ends next after text store (memory_of R cells states) (cond b (rounds next after text store (suc (left R)) (session 0 R cells states)) (record { says = bad_setting; replayer = R; cells = cells; states = states }))
    go true = rounds_play next after text store (memory_of R cells states) (suc (left R)) (session 0 R cells states) (played_none (rules next after text) R cells states four)
    go false = played_none (rules next after text) R cells states four
