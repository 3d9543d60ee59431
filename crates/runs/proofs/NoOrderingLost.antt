-- What a recording within the bounds keeps true, and that it loses no ordering.
use Rattle.std.proofs.Common.{◌≡◌, ℕ, suc, ◌<◌, ◌≤◌, Bool, true, false, cond, ◌&&◌, eqb, ◌≢◌, ◌⊎◌, List, [], ◌∷◌, sym, refl, ap, ◌∙◌, subst, inl, inr, arith}
use mathlib.Core.Option.{some, none-ne-some}
use native.Mathlib.Decide.{ℕ_discrete}
use Rattle.std.proofs.lemmas.Bool.{eq-eqb, ne_eqb, eqb-true, and_from, and_parts, cases_Bool}
use Rattle.reducers.specs.Numbers.{Numbers, zeros, ◌⊑◌}
use Rattle.runs.specs.Runs.{local, read, write, Event, ev, Run, Instr, core_of, access_of, done, next, Has, Conflict, Closure, program, link, chain, Before}
use Rattle.runs.specs.Candidates.{last_write, latest_read, Candidate, candidates}
use Rattle.runs.specs.Recording.{Arc, arc, In, Reach, Judged, Noted, Recording, begin, turn}
use Rattle.runs.specs.Theorems.{NoOrderingLost}
use Rattle.runs.proofs.WorkingOrder.{Pre, Bef, Upto, new, same, pre_idle, pre_upto, dep_idle}
use Rattle.runs.proofs.Remembered.{placed_in, placed_core, Split, pre_split, lw_write, lr_write, lr_read}
use Rattle.runs.proofs.CandidatesCover.{stamped, FoundAs, cand_found, ByCand, covered}
use Rattle.runs.proofs.CandidateLists.{listed, listed_met, in_list}
use Rattle.runs.proofs.OrderAsClosure.{before_to, has_up, has_new, has_placed, conflict_up, conflict_new}
use Rattle.runs.proofs.BoundedWalk.{Sub, Below, Ordered, ordered_upto, Judges, judges, new_arc}

reach_up : (e : Event) (h : Run) (L M : List Arc) {x y : Instr} → Sub L M → Reach h L x y → Reach (e ∷ h) M x y
reach_up e h L M s (program {x = x} {y = y} i k c l) = program (has_up e h x i) (has_up e h y k) c l
reach_up e h L M s (link {x = x} {y = y} i) = link (s (arc x y) i)
reach_up e h L M s (chain p q) = chain (reach_up e h L M s p) (reach_up e h L M s q)

-- each number that the reducer may hold is a fact about the order, each arc is a conflict, and the arcs give the order
pub record Good (h : Run) (N : Numbers) (L : List Arc) : Type 0 where
  pub arcs : (a : Arc) → In a L → Conflict h a.source a.target
  pub ordered : (x y : Instr) → Bef h x y → Reach h L x y
  pub knows : (j : ℕ) (x : Instr) → 1 ≤ x.count → x.count ≤ N.known j x.core → Pre h (ev j local) x
  pub writes : (c : ℕ) (w : Instr) → last_write h c ≡ some w → Below h (N.written c) w
  pub reads : (c k a : ℕ) → latest_read h c k ≡ some a → Below h (N.read k c) (record { core = k; count = a })

good_begin : Good [] zeros []
good_begin = record {
  arcs = λ a i. absurd i;
  ordered = λ x y b. absurd b;
  knows = λ j x o l. absurd (omega arith);
  writes = λ c w p. absurd (none-ne-some w p);
  reads = λ c k a p. absurd (none-ne-some a p);
}

upto_reach : (e : Event) (h : Run) (L : List Arc) (x z y : Instr) → ((u v : Instr) → Bef h u v → Reach (e ∷ h) L u v) → Upto h x z →
    Reach (e ∷ h) L z y → Reach (e ∷ h) L x y
upto_reach e h L x z y o (inl q) r = subst (λ w. Reach (e ∷ h) L w y) (sym q) r
upto_reach e h L x z y o (inr b) r = chain (o x z b) r

-- what is ordered before e by an arc, or by the program, reaches it
ordered_reach : (e : Event) (h : Run) (L : List Arc) (x : Instr) → ((u v : Instr) → Bef h u v → Reach (e ∷ h) L u v) → Ordered h e L x →
    Reach (e ∷ h) L x (next h e)
ordered_reach e h L x o (inr (z, i, u)) = upto_reach e h L x z (next h e) o u (link i)
ordered_reach e h L x o (inl p) = go (pre_split h (ev (core_of e) local) x p)
  where
    go : Split h (ev (core_of e) local) x → Reach (e ∷ h) L x (next h e)
    go s =
        let c : s.inst.core ≡ core_of e = placed_core h s.position s.inst s.event s.placed ∙ dep_idle s.event e s.dep in
        let i : s.inst.count ≤ done h s.inst.core = placed_in h s.position s.inst s.event s.placed in
        upto_reach e h L x s.inst (next h e) o s.upto
        (program (has_up e h s.inst (has_placed h s.position s.inst s.event s.placed)) (has_new e h) c
        (subst (λ k. s.inst.count < suc (done h k)) c (omega arith)))

module _ (e : Event) (h : Run) (N N₁ : Numbers) (L L₁ : List Arc) (g : Good h N L)
    (jd : Judged ◌⊑◌ e (next h e) (candidates h e) N L N₁ L₁) where
  js : Judges h e (candidates h e) N N₁ L L₁
  js = judges h jd (λ x i. (listed_met h e x i).some)
      (λ x i. record {
        inside = (listed_met h e x i).inside;
        below = stamped (Below h) h N (access_of e) x g.writes g.reads (listed h e x i).is;
      })
      (λ x o l. inl (g.knows (core_of e) x o l))

  arcs : (a : Arc) → In a L₁ → Conflict (e ∷ h) a.source a.target
  arcs a i = go (new_arc jd a i)
    where
      go : In a L ⊎ ((x : Candidate) × In x (candidates h e) × (a ≡ arc x.source (next h e))) → Conflict (e ∷ h) a.source a.target
      go (inl k) = conflict_up e h a.source a.target (g.arcs a k)
      go (inr (x, k, q)) =
          let f : FoundAs h e x.source = cand_found h e x (listed h e x k).other (listed h e x k).is in
          subst (λ b. Conflict (e ∷ h) b.source b.target) (sym q)
          (conflict_new e h f.position x.source f.event f.placed f.conflicting)

  old : (x y : Instr) → Bef h x y → Reach (e ∷ h) L₁ x y
  old x y b = reach_up e h L L₁ js.more (g.ordered x y b)

  ordered : (x y : Instr) → Bef (e ∷ h) x y → Reach (e ∷ h) L₁ x y
  ordered x y (inl b) = old x y b
  ordered x y (inr (q, p)) = subst (λ w. Reach (e ∷ h) L₁ x w) (sym q) (ordered_reach e h L₁ x old (go (covered h e x p)))
    where
      go : Pre h (ev (core_of e) local) x ⊎ ByCand h e x → Ordered h e L₁ x
      go (inl i) = inl i
      go (inr b) = ordered_upto h e L₁ x b.cand.source b.upto (js.reached b.cand (in_list h e x b))

  -- what the row of e's core now admits precedes e
  own : (x : Instr) → 1 ≤ x.count → x.count ≤ N₁.known (core_of e) x.core → Pre h e x
  own x o l = go (js.knows x o l)
    where
      from : (z : Instr) → In (arc z (next h e)) L ⊎ ((c : Candidate) × In c (candidates h e) × (arc z (next h e) ≡ arc c.source (next h e))) → Pre h e z
      from z (inl i) =
          let k : Conflict h z (next h e) = g.arcs (arc z (next h e)) i in
          absurd (new e h (next h e) refl (placed_in h k.0.second (next h e) k.0.does_second k.0.placed_second))
      from z (inr (c, i, q)) = subst (λ w. Pre h e w) (sym (ap (λ (a : Arc). a.source) q)) (listed_met h e c i).pre

      go : Ordered h e L₁ x → Pre h e x
      go (inl p) = pre_idle h e x p
      go (inr (z, i, u)) = pre_upto h e x z u (from z (new_arc jd (arc z (next h e)) i))

  -- the rest, for numbers N₂ whose known ones have not grown
  known_after : (N₂ : Numbers) → ((l k : ℕ) → N₂.known l k ≤ N₁.known l k) →
      (l : ℕ) (x : Instr) → 1 ≤ x.count → x.count ≤ N₂.known l x.core → Pre (e ∷ h) (ev l local) x
  known_after N₂ b l x o m = go (ℕ_discrete l (core_of e))
    where
      go : Dec (l ≡ core_of e) → Pre (e ∷ h) (ev l local) x
      go (yes q) = inr (inl (sym q), inr (own x o (subst (λ k. x.count ≤ N₁.known k x.core) q (omega (arith, m, b l x.core)))))
      go (no q) = inl (g.knows l x o (omega (arith, m, b l x.core, js.kept.known l q x.core)))

  below_old : (v w : ℕ → ℕ) (y : Instr) → ((k : ℕ) → v k ≤ w k) → Below h w y → Below (e ∷ h) v y
  below_old v w y l b x o m = inl (b x o (omega (arith, m, l x.core)))

  below_new : (v : ℕ → ℕ) (y : Instr) → y ≡ next h e → ((k : ℕ) → v k ≤ N₁.known (core_of e) k) → Below (e ∷ h) v y
  below_new v y q l x o m = inr (q, own x o (omega (arith, m, l x.core)))

  writes_old : (N₂ : Numbers) (c : ℕ) → ((k : ℕ) → N₂.written c k ≤ N₁.written c k) →
      (w : Instr) → last_write h c ≡ some w → Below (e ∷ h) (N₂.written c) w
  writes_old N₂ c b w p = below_old (N₂.written c) (N.written c) w (λ k. omega (arith, b k, js.kept.written c k)) (g.writes c w p)

  reads_old : (N₂ : Numbers) (c k : ℕ) → ((i : ℕ) → N₂.read k c i ≤ N₁.read k c i) →
      (a : ℕ) → latest_read h c k ≡ some a → Below (e ∷ h) (N₂.read k c) (record { core = k; count = a })
  reads_old N₂ c k b a p = below_old (N₂.read k c) (N.read k c) _ (λ i. omega (arith, b i, js.kept.read k c i)) (g.reads c k a p)

good_turn : (e : Event) (h : Run) (N N₁ N₂ : Numbers) (L L₁ : List Arc) → Good h N L →
    Judged ◌⊑◌ e (next h e) (candidates h e) N L N₁ L₁ → Noted ◌⊑◌ e N₁ N₂ → Good (e ∷ h) N₂ L₁
good_turn (ev j local) h N N₁ N₂ L L₁ g jd n =
    subst (λ M. Good (ev j local ∷ h) M L₁) (sym n) (record {
      arcs = arcs (ev j local) h N N₁ L L₁ g jd;
      ordered = ordered (ev j local) h N N₁ L L₁ g jd;
      knows = known_after (ev j local) h N N₁ L L₁ g jd N₁ (λ l k. omega arith);
      writes = λ c w p. writes_old (ev j local) h N N₁ L L₁ g jd N₁ c (λ k. omega arith) w p;
      reads = λ c k a p. reads_old (ev j local) h N N₁ L L₁ g jd N₁ c k (λ i. omega arith) a p;
    })
good_turn (ev j (read d)) h N N₁ N₂ L L₁ g jd n = record {
  arcs = arcs (ev j (read d)) h N N₁ L L₁ g jd;
  ordered = ordered (ev j (read d)) h N N₁ L L₁ g jd;
  knows = known_after (ev j (read d)) h N N₁ L L₁ g jd N₂ n.known_le;
  writes = λ c w p. writes_old (ev j (read d)) h N N₁ L L₁ g jd N₂ c (n.written_le c) w p;
  reads = reads;
}
  where
    reads : (c k a : ℕ) → latest_read (ev j (read d) ∷ h) c k ≡ some a → Below (ev j (read d) ∷ h) (N₂.read k c) (record { core = k; count = a })
    reads c k a p = go (lr_read j d c k a h p) (cases_Bool (eqb k j && eqb c d))
      where
        bound : (b : Bool) → (eqb k j && eqb c d) ≡ b → (i : ℕ) → N₂.read k c i ≤ cond b (N₁.known j) (N₁.read k c) i
        bound b q i = subst (λ t. N₂.read k c i ≤ cond t (N₁.known j) (N₁.read k c) i) q (n.read_le k c i)

        go : ((d ≡ c) × (j ≡ k) × (a ≡ suc (done h j))) ⊎ (((d ≡ c) → (j ≡ k) → ⊥) × (latest_read h c k ≡ some a)) →
            ((eqb k j && eqb c d) ≡ true) ⊎ ((eqb k j && eqb c d) ≡ false) →
            Below (ev j (read d) ∷ h) (N₂.read k c) (record { core = k; count = a })
        go (inl (q, t, r)) b =
            below_new (ev j (read d)) h N N₁ L L₁ g jd (N₂.read k c) _ (same _ _ (sym t) r)
            (bound true (and_from (eqb k j) (eqb c d) (eq-eqb k j (sym t)) (eq-eqb c d (sym q))))
        go (inr (m, r)) (inl b) =
            absurd (m (sym (eqb-true c d (and_parts (eqb k j) (eqb c d) b).1)) (sym (eqb-true k j (and_parts (eqb k j) (eqb c d) b).0)))
        go (inr (m, r)) (inr b) = reads_old (ev j (read d)) h N N₁ L L₁ g jd N₂ c k (bound false b) a r
good_turn (ev j (write d)) h N N₁ N₂ L L₁ g jd n = record {
  arcs = arcs (ev j (write d)) h N N₁ L L₁ g jd;
  ordered = ordered (ev j (write d)) h N N₁ L L₁ g jd;
  knows = known_after (ev j (write d)) h N N₁ L L₁ g jd N₂ n.known_le;
  writes = writes;
  reads = λ c k a p. reads_old (ev j (write d)) h N N₁ L L₁ g jd N₂ c k (n.read_le k c) a (lr_write j d c k a h p).1;
}
  where
    writes : (c : ℕ) (w : Instr) → last_write (ev j (write d) ∷ h) c ≡ some w → Below (ev j (write d) ∷ h) (N₂.written c) w
    writes c w p = go (lw_write j d c h w p)
      where
        bound : (b : Bool) → eqb c d ≡ b → (k : ℕ) → N₂.written c k ≤ cond b (N₁.known j) (N₁.written c) k
        bound b q k = subst (λ t. N₂.written c k ≤ cond t (N₁.known j) (N₁.written c) k) q (n.written_le c k)

        go : ((d ≡ c) × (w ≡ next h (ev j (write d)))) ⊎ ((d ≢ c) × (last_write h c ≡ some w)) → Below (ev j (write d) ∷ h) (N₂.written c) w
        go (inl (q, r)) = below_new (ev j (write d)) h N N₁ L L₁ g jd (N₂.written c) w r (bound true (eq-eqb c d (sym q)))
        go (inr (q, r)) = writes_old (ev j (write d)) h N N₁ L L₁ g jd N₂ c (bound false (ne_eqb c d (λ y. q (sym y)))) w r

pub good : {r : Run} {N : Numbers} {L : List Arc} → Recording ◌⊑◌ r N L → Good r N L
good begin = good_begin
good (turn {e = e} {h = h} {N = N} {N₁ = N₁} {N₂ = N₂} {L = L} {L₁ = L₁} r jd n) = good_turn e h N N₁ N₂ L L₁ (good r) jd n

-- where every link is before in the run, so is the closure
pub closure_before : (r : Run) {Link : Instr → Instr → Type 0} {x y : Instr} → ((u v : Instr) → Link u v → Before r u v) → Closure (Has r) Link x y → Before r x y
closure_before r f (program i k c l) = program i k c l
closure_before r f (link {x = x} {y = y} i) = f x y i
closure_before r f (chain p q) = chain (closure_before r f p) (closure_before r f q)

pub no_ordering_lost : NoOrderingLost ◌⊑◌
no_ordering_lost r N L rec x y =
    let g : Good r N L = good rec in
    (closure_before r (λ u v i. link (g.arcs (arc u v) i)), λ b. g.ordered x y (before_to r b))
