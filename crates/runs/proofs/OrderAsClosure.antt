-- The order of a run, as the closure that it is defined to be, is the working order.
use Rattle.std.proofs.Common.{◌≡◌, ℕ, suc, ◌<◌, ◌≤◌, [], ◌∷◌, sym, refl, ◌∙◌, subst, inl, inr, arith}
use Rattle.runs.specs.Runs.{Event, Run, Instr, core_of, done, next, Has, turns, Placed, Conflicting, Conflict, program, link, chain, Before}
use Rattle.runs.proofs.WorkingOrder.{done_up, done_own, Dep, Bef, Upto, bef_own, bef_trans}
use Rattle.runs.proofs.Remembered.{placed_in, placed_some, placed_core, placed_pre, Split, pre_split}

placed_turn : (h : Run) (p : ℕ) (x : Instr) (f : Event) → Placed h p x f → p ≤ turns h
placed_turn [] p x f i = absurd i
placed_turn (e ∷ h) p x f (inl i) = omega (arith, placed_turn h p x f i)
placed_turn (e ∷ h) p x f (inr (q, _, _)) = omega arith

conflict_bef : (r : Run) (p q : ℕ) (x y : Instr) (e f : Event) → Placed r p x e → Placed r q y f → p < q → Conflicting e f → Bef r x y
conflict_bef [] p q x y e f i k l c = absurd i
conflict_bef (g ∷ h) p q x y e f (inl i) (inl k) l c = inl (conflict_bef h p q x y e f i k l c)
conflict_bef (g ∷ h) p q x y e f (inl i) (inr (_, s, t)) l c = inr (s, placed_pre h p x e g i (inr (subst (λ z. Conflicting e z) t c)))
conflict_bef (g ∷ h) p q x y e f (inr (s, _, _)) (inl k) l c = absurd (omega (arith, placed_turn h q y f k))
conflict_bef (g ∷ h) p q x y e f (inr (s, _, _)) (inr (t, _, _)) l c = absurd (omega arith)

pub before_to : (r : Run) {x y : Instr} → Before r x y → Bef r x y
before_to r (program {x = x} {y = y} i k c l) = bef_own r x y i.0 k.1 c l
before_to r (link {x = x} {y = y} k) =
    conflict_bef r k.0.first k.0.second x y k.0.does_first k.0.does_second k.0.placed_first k.0.placed_second k.0.earlier k.1
before_to r (chain {x = x} {y = y} {z = z} a b) = bef_trans r x y z (before_to r a) (before_to r b)

pub has_up : (e : Event) (h : Run) (x : Instr) → Has h x → Has (e ∷ h) x
has_up e h x i = (i.0, omega (arith, i.1, done_up e h x.core))

pub has_new : (e : Event) (h : Run) → Has (e ∷ h) (next h e)
has_new e h = (omega arith, omega (arith, done_own e h (core_of e) refl))

pub has_placed : (h : Run) (p : ℕ) (x : Instr) (f : Event) → Placed h p x f → Has h x
has_placed h p x f i = (placed_some h p x f i, placed_in h p x f i)

pub conflict_up : (e : Event) (h : Run) (x y : Instr) → Conflict h x y → Conflict (e ∷ h) x y
conflict_up e h x y k = (
  record {
    first = k.0.first;
    second = k.0.second;
    does_first = k.0.does_first;
    does_second = k.0.does_second;
    placed_first = inl k.0.placed_first;
    placed_second = inl k.0.placed_second;
    earlier = k.0.earlier;
  },
  k.1,
)

pub conflict_new : (e : Event) (h : Run) (p : ℕ) (x : Instr) (f : Event) → Placed h p x f → Conflicting f e → Conflict (e ∷ h) x (next h e)
conflict_new e h p x f i c = (
  record {
    first = p;
    second = suc (turns h);
    does_first = f;
    does_second = e;
    placed_first = inl i;
    placed_second = inr (refl, refl, refl);
    earlier = omega (arith, placed_turn h p x f i);
  },
  c,
)

before_up : (e : Event) (h : Run) {x y : Instr} → Before h x y → Before (e ∷ h) x y
before_up g h (program {x = x} {y = y} i k c l) = program (has_up g h x i) (has_up g h y k) c l
before_up g h (link {x = x} {y = y} k) = link (conflict_up g h x y k)
before_up g h (chain a b) = chain (before_up g h a) (before_up g h b)

dep_before : (e : Event) (h : Run) (p : ℕ) (x : Instr) (f : Event) → Placed h p x f → Dep f e → Before (e ∷ h) x (next h e)
dep_before e h p x f i (inl q) =
    let c : x.core ≡ core_of e = placed_core h p x f i ∙ q in
    program (has_up e h x (has_placed h p x f i)) (has_new e h) c
    (subst (λ k. x.count < suc (done h k)) c (omega (arith, placed_in h p x f i)))
dep_before e h p x f i (inr c) = link (conflict_new e h p x f i c)

pub before_from : (r : Run) (x y : Instr) → Bef r x y → Before r x y
before_from [] x y b = absurd b
before_from (e ∷ h) x y (inl b) = before_up e h (before_from h x y b)
before_from (e ∷ h) x y (inr (q, p)) = subst (λ w. Before (e ∷ h) x w) (sym q) (go (λ z b. before_from h x z b) (pre_split h e x p))
  where
    at : ((z : Instr) → Bef h x z → Before h x z) → (s : Split h e x) → Upto h x s.inst → Before (e ∷ h) x (next h e)
    at r s (inl t) = subst (λ w. Before (e ∷ h) w (next h e)) (sym t) (dep_before e h s.position s.inst s.event s.placed s.dep)
    at r s (inr b) = chain (before_up e h (r s.inst b)) (dep_before e h s.position s.inst s.event s.placed s.dep)

    go : ((z : Instr) → Bef h x z → Before h x z) → Split h e x → Before (e ∷ h) x (next h e)
    go r s = at r s s.upto
