-- Arcs that order the conflicts of the run of some turns guide a replay of them.
use Rattle.std.proofs.Common.{◌≡◌, ℕ, suc, ◌<◌, ◌≤◌, ◌⊎◌, List, [], ◌∷◌, length, get_or, sym, refl, ap, ◌∙◌, subst, inl, inr, arith}
use native.Mathlib.Decide.{ℕ_discrete}
use Rattle.cores.specs.declared.interface.Request.{Request}
use Rattle.cores.specs.declared.interface.Request.TheVariants.{Halt, Local, Read, Write, Exchange}
use Rattle.cores.specs.Memory.{Rules, Memory, outcome, plain, Accepted}
use Rattle.runs.specs.Runs.{Access, read, write, Event, ev, Run, Instr, done, next, turns, Placed, Clash, Earlier, Conflict, program, link, chain}
use Rattle.runs.specs.Recording.{Arc, arc, Reach}
use Rattle.runs.specs.PlainRun.{access, run}
use Rattle.runs.specs.Replay.{Suffices}
use Rattle.runs.proofs.WorkingOrder.{done_own, done_other}
use Rattle.runs.proofs.PlainTurns.{At, here, there, done_by, Touches, Stores, Meeting, Closed, Forward, Covered, Guided}
use Rattle.runs.proofs.Image.{cnt_own, cnt_other, accepted_at}

-- one cell has one place

stores_access : (place : ℕ → ℕ) (q : Request) (c : ℕ) → Stores q c → access place q ≡ write (place c)
stores_access place Halt c s = absurd s
stores_access place Local c s = absurd s
stores_access place (Read k) c s = absurd s
stores_access place (Write k v) c s = ap (λ x. write (place x)) s
stores_access place (Exchange k v) c s = ap (λ x. write (place x)) s

touches_access : (place : ℕ → ℕ) (q : Request) (c : ℕ) → Touches q c → (access place q ≡ read (place c)) ⊎ (access place q ≡ write (place c))
touches_access place Halt c s = absurd s
touches_access place Local c s = absurd s
touches_access place (Read k) c s = inl (ap (λ x. read (place x)) s)
touches_access place (Write k v) c s = inr (ap (λ x. write (place x)) s)
touches_access place (Exchange k v) c s = inr (ap (λ x. write (place x)) s)

clash_left : (c : ℕ) (a b : Access) → a ≡ write c → (b ≡ read c) ⊎ (b ≡ write c) → Clash a b
clash_left c a b p (inl q) = subst (λ x. Clash x b) (sym p) (subst (λ y. Clash (write c) y) (sym q) refl)
clash_left c a b p (inr q) = subst (λ x. Clash x b) (sym p) (subst (λ y. Clash (write c) y) (sym q) refl)

clash_right : (c : ℕ) (a b : Access) → (a ≡ read c) ⊎ (a ≡ write c) → b ≡ write c → Clash a b
clash_right c a b (inl p) q = subst (λ x. Clash x b) (sym p) (subst (λ y. Clash (read c) y) (sym q) refl)
clash_right c a b (inr p) q = subst (λ x. Clash x b) (sym p) (subst (λ y. Clash (write c) y) (sym q) refl)

meeting_clash : (place : ℕ → ℕ) (i : ℕ) (p : Request) (j : ℕ) (q : Request) → Meeting i p j q → Clash (access place p) (access place q)
meeting_clash place i p j q (n, (c, inl (s, t))) = clash_left (place c) (access place p) (access place q) (stores_access place p c s) (touches_access place q c t)
meeting_clash place i p j q (n, (c, inr (t, s))) = clash_right (place c) (access place p) (access place q) (touches_access place p c t) (stores_access place q c s)

-- where a set of done instructions is closed, what reaches a done instruction is done
reach_closed : (r : Run) (arcs : List Arc) (d : ℕ → ℕ) → Closed arcs d → {x y : Instr} → Reach r arcs x y → y.count ≤ d y.core → x.count ≤ d x.core
unfolding Closed
reach_closed r arcs d c (program {x = x} {y = y} i k q l) h = subst (λ j. x.count ≤ d j) (sym q) (omega arith)
reach_closed r arcs d c (link {x = x} {y = y} i) h = c (arc x y) i h
reach_closed r arcs d c (chain p q) h = reach_closed r arcs d c p (reach_closed r arcs d c q h)

-- the order of positions is the order of the turns
at_length : {u : List ℕ} {j : ℕ} {t : List ℕ} → At u j t → length t < length u
at_length here = omega arith
at_length (there at) = omega (arith, at_length at)

earlier_at : {u : List ℕ} {j : ℕ} {t : List ℕ} → At u j t → {i : ℕ} {s : List ℕ} → At u i s → length s < length t → At t i s
earlier_at here here h = absurd (omega arith)
earlier_at here (there b) h = b
earlier_at (there a) here h = absurd (omega (arith, at_length a))
earlier_at (there a) (there b) h = earlier_at a b h

module _ (place : ℕ → ℕ) (K : Rules) (m : Memory) (paired : length m.counts ≡ length m.states) (fresh : (k : ℕ) → get_or m.counts k 0 ≡ 0) where
  abbrev pub runs : List ℕ → Run
  runs t = run place K m t

  abbrev does : ℕ → List ℕ → Event
  does j t = ev j (access place (outcome K (plain K m t) j).request)

  -- the counts of the plain memory are those of the run
  pub counts_agree : (t : List ℕ) → Accepted K m t → (k : ℕ) → done (runs t) k ≡ done_by K m t k
  counts_agree [] a k = sym (fresh k)
  counts_agree (j ∷ t) a k = go (counts_agree t a.1 k) (ℕ_discrete j k)
    where
      go : done (runs t) k ≡ done_by K m t k → Dec (j ≡ k) → done (runs (j ∷ t)) k ≡ done_by K m (j ∷ t) k
      go ih (yes q) =
          done_own (does j t) (runs t) k q ∙ ap suc ih
          ∙ sym (subst (λ i. done_by K m (j ∷ t) i ≡ suc (done_by K m t i)) q (cnt_own K m paired j t a))
      go ih (no q) = done_other (does j t) (runs t) k q ∙ ih ∙ sym (cnt_other K m paired j k t (λ p. q (sym p)))

  pub turns_length : (t : List ℕ) → turns (runs t) ≡ length t
  turns_length [] = refl
  turns_length (j ∷ t) = ap suc (turns_length t)

  at_placed : {u : List ℕ} {j : ℕ} {t : List ℕ} → At u j t → Placed (runs u) (suc (turns (runs t))) (next (runs t) (does j t)) (does j t)
  at_placed here = inr (refl, refl, refl)
  at_placed (there a) = inl (at_placed a)

  within : {u : List ℕ} {j : ℕ} {t : List ℕ} → At u j t → (p : ℕ) (x : Instr) (e : Event) → Placed (runs t) p x e → Placed (runs u) p x e
  within here p x e i = inl i
  within (there a) p x e i = inl (within a p x e i)

  record Turn (u : List ℕ) (p : ℕ) (x : Instr) : Type 0 where
    before : List ℕ
    at : At u x.core before
    count : x.count ≡ suc (done (runs before) x.core)
    position : p ≡ suc (length before)

  placed_at : (u : List ℕ) (p : ℕ) (x : Instr) (e : Event) → Placed (runs u) p x e → Turn u p x
  placed_at [] p x e i = absurd i
  placed_at (j ∷ t) p x e (inl i) =
      let w : Turn t p x = placed_at t p x e i in
      record { before = w.before; at = there w.at; count = w.count; position = w.position }
  placed_at (j ∷ t) p x e (inr (q, s, _)) =
      let c : j ≡ x.core = sym (ap (λ y. y.core) s) in
      record {
        before = t;
        at = subst (λ i. At (j ∷ t) i t) c here;
        count = ap (λ y. y.count) s ∙ ap (λ i. suc (done (runs t) i)) c;
        position = q ∙ ap suc (turns_length t);
      }

  module _ (u : List ℕ) (arcs : List Arc) (S : Suffices place K m u arcs) where
    forward : Forward K m u arcs
    forward a i =
        let o : Earlier (runs u) a.source a.target = S.forward a i in
        let x : Turn u o.first a.source = placed_at u o.first a.source o.does_first o.placed_first in
        let y : Turn u o.second a.target = placed_at u o.second a.target o.does_second o.placed_second in (
          x.before,
          y.before,
          earlier_at y.at x.at (omega (arith, x.position, y.position, o.earlier)),
          y.at,
          x.count ∙ ap suc (counts_agree x.before (accepted_at K m paired x.at S.accepted).1 a.source.core),
          y.count ∙ ap suc (counts_agree y.before (accepted_at K m paired y.at S.accepted).1 a.target.core),
        )

    covered : Covered K m u arcs
    covered i s j t at at' c d cl l =
        let o : Earlier (runs u) (next (runs s) (does i s)) (next (runs t) (does j t)) = record {
          first = suc (turns (runs s));
          second = suc (turns (runs t));
          does_first = does i s;
          does_second = does j t;
          placed_first = within at' _ _ _ (at_placed at);
          placed_second = at_placed at';
          earlier = omega (arith, turns_length s, turns_length t, at_length at);
        } in
        let k : Conflict (runs u) (next (runs s) (does i s)) (next (runs t) (does j t)) =
        (o, (c.0, meeting_clash place i (outcome K (plain K m s) i).request j (outcome K (plain K m t) j).request c)) in
        let e : done (runs t) j ≡ done_by K m t j = counts_agree t (accepted_at K m paired at' S.accepted).1 j in
        let f : done (runs s) i ≡ done_by K m s i = counts_agree s (accepted_at K m paired at (accepted_at K m paired at' S.accepted).1).1 i in
        let g : suc (done (runs s) i) ≤ d i = reach_closed (runs u) arcs d cl (S.covered (next (runs s) (does i s)) (next (runs t) (does j t)) k) (omega arith) in
        omega arith

    pub guided : Guided K m u arcs
    guided = record { accepted = S.accepted; forward = forward; covered = covered }
