-- The order of a run once more, by recursion on the run (the working order), with its laws and those of counts.
use Rattle.std.proofs.Common.{◌≡◌, ℕ, suc, ◌<◌, ◌≤◌, cond, eqb, ◌≢◌, ◌⊎◌, ◌↔◌, [], ◌∷◌, sym, refl, ap, ◌∙◌, subst, inl, inr, arith}
use native.Mathlib.Decide.{ℕ_discrete, dec_le}
use Rattle.std.proofs.lemmas.Bool.{eq-eqb, ne_eqb, cond-true, cond-false}
use Rattle.runs.specs.Runs.{if_same, Access, Clash, Conflicting, Event, Instr, Run, access_of, choose, core_of, done, ev, local, next, read, write}

-- the working order, by recursion on the run
abbrev pub Dep : Event → Event → Type 0
Dep f e = (core_of f ≡ core_of e) ⊎ Conflicting f e

abbrev pub Pre : Run → Event → Instr → Type 0
Pre [] e x = ⊥
Pre (f ∷ h) e x = Pre h e x ⊎ (Dep f e × ((x ≡ next h f) ⊎ Pre h f x))

abbrev pub Bef : Run → Instr → Instr → Type 0
Bef [] x y = ⊥
Bef (e ∷ h) x y = Bef h x y ⊎ ((y ≡ next h e) × Pre h e x)

pub choose_yes : {A B : Type 0} (d : Dec A) (s t : B) → A → choose d s t ≡ s
choose_yes (yes a) s t h = refl
choose_yes (no a) s t h = absurd (a h)

pub choose_no : {A B : Type 0} (d : Dec A) (s t : B) → ¬ A → choose d s t ≡ t
choose_no (yes a) s t h = absurd (h a)
choose_no (no a) s t h = refl

-- for code, whose tests are Bools
pub if_same_cond : {B : Type 0} (m n : ℕ) (s t : B) → if_same m n s t ≡ cond (eqb m n) s t
if_same_cond {B} m n s t = go (ℕ_discrete m n)
  where
    go : (d : Dec (m ≡ n)) → choose d s t ≡ cond (eqb m n) s t
    go (yes q) = sym (cond-true (eqb m n) s t (eq-eqb m n q))
    go (no q) = sym (cond-false (eqb m n) s t (ne_eqb m n q))

pub done_own : (e : Event) (h : Run) (k : ℕ) → core_of e ≡ k → done (e ∷ h) k ≡ suc (done h k)
done_own e h k p = choose_yes (ℕ_discrete (core_of e) k) (suc (done h k)) (done h k) p

pub done_other : (e : Event) (h : Run) (k : ℕ) → core_of e ≢ k → done (e ∷ h) k ≡ done h k
done_other e h k p = choose_no (ℕ_discrete (core_of e) k) (suc (done h k)) (done h k) p

pub done_up : (e : Event) (h : Run) (k : ℕ) → done h k ≤ done (e ∷ h) k
done_up e h k = go (ℕ_discrete (core_of e) k)
  where
    go : Dec (core_of e ≡ k) → done h k ≤ done (e ∷ h) k
    go (yes q) = omega (arith, done_own e h k q)
    go (no q) = omega (arith, done_other e h k q)

-- an instruction of the run
abbrev pub Inside : Run → Instr → Type 0
Inside h x = x.count ≤ done h x.core

pub in_up : (e : Event) (h : Run) (x : Instr) → Inside h x → Inside (e ∷ h) x
in_up e h x i = omega (arith, done_up e h x.core)

pub in_next : (e : Event) (h : Run) (x : Instr) → x ≡ next h e → Inside (e ∷ h) x
in_next e h x p = subst (λ z. Inside (e ∷ h) z) (sym p) (omega (arith, done_own e h (core_of e) refl))

-- the new instruction is none of the old
pub new : (e : Event) (h : Run) (x : Instr) → x ≡ next h e → Inside h x → ⊥
new e h x p i =
    let q : Inside h (next h e) = subst (λ z. Inside h z) p i in
    omega arith

pub same : (x y : Instr) → x.core ≡ y.core → x.count ≡ y.count → x ≡ y
same x y p q = λ i. record { core = p i; count = q i }

pub pre_in : (h : Run) (e : Event) (x : Instr) → Pre h e x → Inside h x
pre_in [] e x p = absurd p
pre_in (f ∷ h) e x (inl p) = in_up f h x (pre_in h e x p)
pre_in (f ∷ h) e x (inr (d, inl q)) = in_next f h x q
pre_in (f ∷ h) e x (inr (d, inr q)) = in_up f h x (pre_in h f x q)

pub bef_right : (h : Run) (x y : Instr) → Bef h x y → Inside h y
bef_right [] x y p = absurd p
bef_right (e ∷ h) x y (inl p) = in_up e h y (bef_right h x y p)
bef_right (e ∷ h) x y (inr (q, p)) = in_next e h y q

pub bef_left : (h : Run) (x y : Instr) → Bef h x y → Inside h x
bef_left [] x y p = absurd p
bef_left (e ∷ h) x y (inl p) = in_up e h x (bef_left h x y p)
bef_left (e ∷ h) x y (inr (q, p)) = in_up e h x (pre_in h e x p)

-- what is before a predecessor is a predecessor
pub pre_down : (h : Run) (e : Event) (x y : Instr) → Bef h x y → Pre h e y → Pre h e x
pre_down [] e x y b p = absurd p
pre_down (f ∷ h) e x y (inl b) (inl p) = inl (pre_down h e x y b p)
pre_down (f ∷ h) e x y (inl b) (inr (d, inl q)) = absurd (new f h y q (bef_right h x y b))
pre_down (f ∷ h) e x y (inl b) (inr (d, inr p)) = inr (d, inr (pre_down h f x y b p))
pre_down (f ∷ h) e x y (inr (q, b)) (inl p) = absurd (new f h y q (pre_in h e y p))
pre_down (f ∷ h) e x y (inr (q, b)) (inr (d, inl p)) = inr (d, inr b)
pre_down (f ∷ h) e x y (inr (q, b)) (inr (d, inr p)) = absurd (new f h y q (pre_in h f y p))

pub bef_trans : (h : Run) (x y z : Instr) → Bef h x y → Bef h y z → Bef h x z
bef_trans [] x y z b c = absurd b
bef_trans (e ∷ h) x y z (inl b) (inl c) = inl (bef_trans h x y z b c)
bef_trans (e ∷ h) x y z (inl b) (inr (q, p)) = inr (q, pre_down h e x y b p)
bef_trans (e ∷ h) x y z (inr (q, p)) (inl c) = absurd (new e h y q (bef_left h y z c))
bef_trans (e ∷ h) x y z (inr (q, p)) (inr (q', p')) = absurd (new e h y q (pre_in h e y p'))

-- before or equal
abbrev pub Upto : Run → Instr → Instr → Type 0
Upto h x y = (x ≡ y) ⊎ Bef h x y

pub pre_upto : (h : Run) (e : Event) (x y : Instr) → Upto h x y → Pre h e y → Pre h e x
pre_upto h e x y (inl q) p = subst (λ z. Pre h e z) (sym q) p
pre_upto h e x y (inr b) p = pre_down h e x y b p

pub upto_bef : (h : Run) (x y z : Instr) → Bef h x y → Upto h y z → Bef h x z
upto_bef h x y z b (inl q) = subst (λ w. Bef h x w) q b
upto_bef h x y z b (inr c) = bef_trans h x y z b c

pub upto_trans : (h : Run) (x y z : Instr) → Upto h x y → Upto h y z → Upto h x z
upto_trans h x y z (inl q) u = subst (λ w. Upto h w z) (sym q) u
upto_trans h x y z (inr b) u = inr (upto_bef h x y z b u)

-- program order
pub pre_own : (h : Run) (e : Event) (x : Instr) → 1 ≤ x.count → Inside h x → x.core ≡ core_of e → Pre h e x
pre_own [] e x one i c = absurd (omega arith)
pre_own (f ∷ h) e x one i c = go (λ l. pre_own h e x one l c) (ℕ_discrete (core_of f) x.core) (dec_le x.count (done h x.core))
  where
    go : (Inside h x → Pre h e x) → Dec (core_of f ≡ x.core) → Dec (x.count ≤ done h x.core) → Pre (f ∷ h) e x
    go r d (yes l) = inl (r l)
    go r (yes q) (no l) = inr (
      inl (q ∙ c),
      inl (same x (next h f) (sym q)
          (rw q (omega (arith, done_own f h x.core q)))),
    )
    go r (no q) (no l) = absurd (omega (arith, done_other f h x.core q))

pub bef_own : (h : Run) (x y : Instr) → 1 ≤ x.count → Inside h y → x.core ≡ y.core → x.count < y.count → Bef h x y
bef_own [] x y one i c l = absurd (omega arith)
bef_own (e ∷ h) x y one i c l = go (λ m. bef_own h x y one m c l) (ℕ_discrete (core_of e) y.core) (dec_le y.count (done h y.core))
  where
    go : (Inside h y → Bef h x y) → Dec (core_of e ≡ y.core) → Dec (y.count ≤ done h y.core) → Bef (e ∷ h) x y
    go r d (yes m) = inl (r m)
    go r (yes q) (no m) = inr (
      same y (next h e) (sym q) (rw q (omega (arith, done_own e h y.core q))),
      pre_own h e x one (rw c (omega (arith, done_own e h y.core q))) (c ∙ sym q),
    )
    go r (no q) (no m) = absurd (omega (arith, done_other e h y.core q))

pub bef_count : (h : Run) (x y : Instr) → Bef h x y → x.core ≡ y.core → x.count < y.count
bef_count [] x y b c = absurd b
bef_count (e ∷ h) x y (inl b) c = bef_count h x y b c
bef_count (e ∷ h) x y (inr (q, p)) c =
    let i : x.count ≤ done h (core_of e) = subst (λ k. x.count ≤ done h k) (c ∙ ap (λ z. z.core) q) (pre_in h e x p) in
    omega (arith, ap (λ z. z.count) q)

pub upto_own : (h : Run) (x y : Instr) → 1 ≤ x.count → Inside h y → x.core ≡ y.core → (x.count ≤ y.count) ↔ Upto h x y
upto_own h x y one i c = (to, from)
  where
    to : x.count ≤ y.count → Upto h x y
    to l = go (ℕ_discrete x.count y.count)
      where
        go : Dec (x.count ≡ y.count) → Upto h x y
        go (yes q) = inl (same x y c q)
        go (no q) = inr (bef_own h x y one i c (omega arith))

    from : Upto h x y → x.count ≤ y.count
    from (inl q) = omega (arith, ap (λ z. z.count) q)
    from (inr b) = omega (arith, bef_count h x y b c)

pub clash_local : (a : Access) → Clash a local → ⊥
clash_local local c = c
clash_local (read d) c = c
clash_local (write d) c = c

-- what precedes the core's next turn whatever it does
pub dep_idle : (f e : Event) → Dep f (ev (core_of e) local) → core_of f ≡ core_of e
dep_idle f e (inl q) = q
dep_idle f e (inr (n, c)) = absurd (clash_local (access_of f) c)

pub pre_idle : (h : Run) (e : Event) (x : Instr) → Pre h (ev (core_of e) local) x → Pre h e x
pre_idle [] e x p = absurd p
pre_idle (f ∷ h) e x (inl p) = inl (pre_idle h e x p)
pre_idle (f ∷ h) e x (inr (d, p)) = inr (inl (dep_idle f e d), p)
