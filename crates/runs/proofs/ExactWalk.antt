-- What one turn's candidates make of the exact reducer's numbers, and which of them are logged.
use Rattle.std.proofs.Common.{◌≡◌, ℕ, ◌≤◌, max, ◌≢◌, ◌⊎◌, ◌↔◌, List, [], ◌∷◌, sym, refl, ap, ◌∙◌, subst, inl, inr, arith}
use native.Mathlib.Decide.{ℕ_discrete, dec_le}
use Rattle.reducers.specs.declared.interface.AccessKind.{AccessKind}
use Rattle.reducers.specs.declared.interface.AccessKind.TheVariants.{Read, Write}
use Rattle.reducers.specs.Numbers.{Numbers, stamp, taken}
use Rattle.runs.specs.Candidates.{Candidate}
use Rattle.runs.specs.Positions.{Once}
use Rattle.runs.specs.Recording.{In, place_of}
use Rattle.runs.specs.Runs.{Event, Instr, Run, access_of, choose, core_of}
use Rattle.runs.proofs.Bounds.{max_or, stamp_of, with_arc, known_taken}
use Rattle.runs.proofs.CandidateLists.{Sorted}
use Rattle.runs.proofs.WorkingOrder.{bef_count, Bef, Inside, Upto, upto_own, upto_trans}

-- the exact reducer's numbers after one candidate of e, and after a list of them; and the sources of the arcs logged for it

abbrev pub knows : (s : Numbers) (j : ℕ) (x : Instr) → Dec (x.count ≤ s.known j x.core)
knows s j x = dec_le x.count (s.known j x.core)

abbrev pub one : Numbers → Event → Candidate → Numbers
one s e y = choose (knows s (core_of e) y.source) s (with_arc s e y)

abbrev pub walked : Numbers → Event → List Candidate → Numbers
walked s e [] = s
walked s e (x ∷ l) = walked (one s e x) e l

abbrev pub sources : Numbers → Event → List Candidate → List Instr
sources s e [] = []
sources s e (x ∷ l) =
    choose (knows s (core_of e) x.source) (sources (one s e x) e l) (x.source ∷ sources (one s e x) e l)

stamp_taken : (s : Numbers) (i a c : ℕ) (w : AccessKind) (j k d : ℕ) (v : AccessKind) → stamp (taken s i a c w j) k d v ≡ stamp s k d v
stamp_taken s i a c w j k d Read = refl
stamp_taken s i a c w j k d Write = refl

stamp_choose : {A : Type 0} (d : Dec A) (s : Numbers) (e : Event) (y z : Candidate) → stamp_of (choose d s (with_arc s e y)) e z ≡ stamp_of s e z
stamp_choose (yes _) s e y z = refl
stamp_choose (no _) s e y z = stamp_taken s y.source.core y.source.count (place_of (access_of e)) y.kind (core_of e) z.source.core (place_of (access_of e)) z.kind

stamp_one : (s : Numbers) (e : Event) (y z : Candidate) → stamp_of (one s e y) e z ≡ stamp_of s e z
stamp_one s e y z = stamp_choose (knows s (core_of e) y.source) s e y z

-- the row of j says which instructions of other cores are in R
abbrev pub Holds : Numbers → ℕ → (Instr → Type 0) → Type 0
Holds s j R = (x : Instr) → x.core ≢ j → 1 ≤ x.count → (x.count ≤ s.known j x.core) ↔ R x

-- the row v says which instructions of other cores are before y
abbrev pub Stamps : Run → (ℕ → ℕ) → Instr → Type 0
Stamps h v y = (x : Instr) → x.core ≢ y.core → 1 ≤ x.count → (x.count ≤ v x.core) ↔ Bef h x y

abbrev pub Down : Run → (Instr → Type 0) → Type 0
Down h R = (x y : Instr) → Upto h x y → R y → R x

pub record Good (h : Run) (j : ℕ) (v : ℕ → ℕ) (y : Instr) : Type 0 where
  pub other : y.core ≢ j
  pub some : 1 ≤ y.count
  pub inside : Inside h y
  pub stamps : Stamps h v y

abbrev pub Add : Run → (Instr → Type 0) → Instr → Instr → Type 0
Add h R y z = R z ⊎ Upto h z y

down_add : (h : Run) (R : Instr → Type 0) (y : Instr) → Down h R → Down h (Add h R y)
down_add h R y d x z u (inl r) = inl (d x z u r)
down_add h R y d x z u (inr w) = inr (upto_trans h x z y u w)

take_holds : (h : Run) (j : ℕ) (s : Numbers) (R : Instr → Type 0) (y : Instr) (c : ℕ) (w : AccessKind) →
    Holds s j R → Good h j (stamp s y.core c w) y → Holds (taken s y.core y.count c w j) j (Add h R y)
take_holds h j s R y c w k g x n one =
    subst (λ m. (x.count ≤ m) ↔ Add h R y x) (sym (known_taken s y.core y.count c w j x.core))
    (go (ℕ_discrete x.core y.core))
  where
    go : (d : Dec (x.core ≡ y.core)) →
        (x.count ≤ choose d (max (s.known j x.core) y.count) (max (s.known j x.core) (stamp s y.core c w x.core))) ↔ Add h R y x
    go (yes q) = (to, from)
      where
        to : x.count ≤ max (s.known j x.core) y.count → Add h R y x
        to l = elim (max_or _ _ _ l) [ inl a ↦ inl ((k x n one).0 a) | inr a ↦ inr ((upto_own h x y one g.inside q).0 a) ]

        from : Add h R y x → x.count ≤ max (s.known j x.core) y.count
        from (inl r) = omega (arith, (k x n one).1 r)
        from (inr u) = omega (arith, (upto_own h x y one g.inside q).1 u)
    go (no q) = (to, from)
      where
        to : x.count ≤ max (s.known j x.core) (stamp s y.core c w x.core) → Add h R y x
        to l = elim (max_or _ _ _ l) [ inl a ↦ inl ((k x n one).0 a) | inr a ↦ inr (inr ((g.stamps x q one).0 a)) ]

        from : Add h R y x → x.count ≤ max (s.known j x.core) (stamp s y.core c w x.core)
        from (inl r) = omega (arith, (k x n one).1 r)
        from (inr (inl p)) = absurd (q (ap (λ z. z.core) p))
        from (inr (inr b)) = omega (arith, (g.stamps x q one).1 b)

known_holds : (h : Run) (j : ℕ) (s : Numbers) (R : Instr → Type 0) (y : Instr) → Down h R → R y →
    Holds s j R → Holds s j (Add h R y)
known_holds h j s R y d r k x n one = (λ l. inl ((k x n one).0 l), from)
  where
    from : Add h R y x → x.count ≤ s.known j x.core
    from (inl q) = (k x n one).1 q
    from (inr u) = (k x n one).1 (d x y u r)

one_holds : (h : Run) (e : Event) (s : Numbers) (R : Instr → Type 0) (y : Candidate) → Down h R →
    Holds s (core_of e) R → Good h (core_of e) (stamp_of s e y) y.source →
    Holds (one s e y) (core_of e) (Add h R y.source)
one_holds h e s R y d k g = go (knows s (core_of e) y.source)
  where
    go : (c : Dec (y.source.count ≤ s.known (core_of e) y.source.core)) →
        Holds (choose c s (with_arc s e y)) (core_of e) (Add h R y.source)
    go (yes l) = known_holds h (core_of e) s R y.source d ((k y.source g.other g.some).0 l) k
    go (no l) = take_holds h (core_of e) s R y.source (place_of (access_of e)) y.kind k g

abbrev pub Cover : Run → (Instr → Type 0) → List Candidate → Instr → Type 0
Cover h R [] x = R x
Cover h R (y ∷ l) x = Cover h (Add h R y.source) l x

abbrev pub Fresh : Run → (Instr → Type 0) → List Candidate → Instr → Type 0
Fresh h R [] x = ⊥
Fresh h R (y ∷ l) x = ((x ≡ y.source) × (R x → ⊥)) ⊎ Fresh h (Add h R y.source) l x

-- every candidate of the list is good, with its stamp in s
abbrev pub Ready : Run → Event → Numbers → List Candidate → Type 0
Ready h e s l = (y : Candidate) → In y l → Good h (core_of e) (stamp_of s e y) y.source

ready_one : (h : Run) (e : Event) (s : Numbers) (y : Candidate) (l : List Candidate) → Ready h e s (y ∷ l) → Ready h e (one s e y) l
ready_one h e s y l g z m =
    subst (λ v. Good h (core_of e) v z.source) (sym (stamp_one s e y z)) (g z (inr m))

pub walk_known : (h : Run) (e : Event) (s : Numbers) (R : Instr → Type 0) (l : List Candidate) → Down h R →
    Holds s (core_of e) R → Ready h e s l → Holds (walked s e l) (core_of e) (Cover h R l)
walk_known h e s R [] d k g = k
walk_known h e s R (y ∷ l) d k g =
    walk_known h e (one s e y) (Add h R y.source) l (down_add h R y.source d)
    (one_holds h e s R y d k (g y (inl refl))) (ready_one h e s y l g)

log_one : (h : Run) (e : Event) (s : Numbers) (R : Instr → Type 0) (y : Candidate) (x : Instr) (t : List Instr) (F : Type 0) →
    Holds s (core_of e) R → Good h (core_of e) (stamp_of s e y) y.source →
    (c : Dec (y.source.count ≤ s.known (core_of e) y.source.core)) → In x t ↔ F →
    In x (choose c t (y.source ∷ t)) ↔ (((x ≡ y.source) × (R x → ⊥)) ⊎ F)
log_one h e s R y x t F k g (yes l) i = (λ m. inr (i.0 m), from)
  where
    from : (((x ≡ y.source) × (R x → ⊥)) ⊎ F) → In x t
    from (inl (q, n)) = absurd (n (subst R (sym q) ((k y.source g.other g.some).0 l)))
    from (inr f) = i.1 f
log_one h e s R y x t F k g (no l) i = (to, from)
  where
    to : ((x ≡ y.source) ⊎ In x t) → (((x ≡ y.source) × (R x → ⊥)) ⊎ F)
    to (inl q) = inl (q, λ r. l ((k y.source g.other g.some).1 (subst R q r)))
    to (inr m) = inr (i.0 m)

    from : (((x ≡ y.source) × (R x → ⊥)) ⊎ F) → (x ≡ y.source) ⊎ In x t
    from (inl (q, n)) = inl q
    from (inr f) = inr (i.1 f)

pub walk_log : (h : Run) (e : Event) (s : Numbers) (R : Instr → Type 0) (l : List Candidate) → Down h R →
    Holds s (core_of e) R → Ready h e s l → (x : Instr) → In x (sources s e l) ↔ Fresh h R l x
walk_log h e s R [] d k g x = (λ m. m, λ m. m)
walk_log h e s R (y ∷ l) d k g x =
    log_one h e s R y x (sources (one s e y) e l) (Fresh h (Add h R y.source) l x) k (g y (inl refl))
    (knows s (core_of e) y.source)
    (walk_log h e (one s e y) (Add h R y.source) l (down_add h R y.source d)
    (one_holds h e s R y d k (g y (inl refl))) (ready_one h e s y l g) x)

-- nothing is logged twice

fresh_out : (h : Run) (R : Instr → Type 0) (l : List Candidate) (x : Instr) → Fresh h R l x → R x → ⊥
fresh_out h R [] x f r = f
fresh_out h R (y ∷ l) x (inl (q, n)) r = n r
fresh_out h R (y ∷ l) x (inr f) r = fresh_out h (Add h R y.source) l x f (inl r)

once_one : {A : Type 0} (d : Dec A) (y : Instr) (t : List Instr) → (In y t → ⊥) → Once t → Once (choose d t (y ∷ t))
once_one (yes _) y t n o = o
once_one (no _) y t n o = (n, o)

pub walk_once : (h : Run) (e : Event) (s : Numbers) (R : Instr → Type 0) (l : List Candidate) → Down h R →
    Holds s (core_of e) R → Ready h e s l → Once (sources s e l)
walk_once h e s R [] d k g = tt
walk_once h e s R (y ∷ l) d k g =
    once_one (knows s (core_of e) y.source) y.source (sources (one s e y) e l)
    (λ m. fresh_out h (Add h R y.source) l y.source
    ((walk_log h e (one s e y) (Add h R y.source) l (down_add h R y.source d)
    (one_holds h e s R y d k (g y (inl refl))) (ready_one h e s y l g) y.source).0 m)
    (inr (inl refl)))
    (walk_once h e (one s e y) (Add h R y.source) l (down_add h R y.source d)
    (one_holds h e s R y d k (g y (inl refl))) (ready_one h e s y l g))

-- what a walk over a sorted list covers and logs

pub record Some (l : List Candidate) (P : Candidate → Type 0) : Type 0 where
  pub cand : Candidate
  pub mem : In cand l
  pub holds : P cand

some_up : (y : Candidate) (l : List Candidate) (P : Candidate → Type 0) → Some l P → Some (y ∷ l) P
some_up y l P s = record { cand = s.cand; mem = inr s.mem; holds = s.holds }

pub cover_to : (h : Run) (R : Instr → Type 0) (l : List Candidate) (x : Instr) → Cover h R l x → R x ⊎ Some l (λ y. Upto h x y.source)
cover_to h R [] x c = inl c
cover_to h R (y ∷ l) x c = go (cover_to h (Add h R y.source) l x c)
  where
    go : Add h R y.source x ⊎ Some l (λ z. Upto h x z.source) → R x ⊎ Some (y ∷ l) (λ z. Upto h x z.source)
    go (inl (inl r)) = inl r
    go (inl (inr u)) = inr (record { cand = y; mem = inl refl; holds = u })
    go (inr s) = inr (some_up y l (λ z. Upto h x z.source) s)

cover_old : (h : Run) (R : Instr → Type 0) (l : List Candidate) (x : Instr) → R x → Cover h R l x
cover_old h R [] x r = r
cover_old h R (y ∷ l) x r = cover_old h (Add h R y.source) l x (inl r)

cover_mem : (h : Run) (R : Instr → Type 0) (l : List Candidate) (x : Instr) (y : Candidate) → In y l → Upto h x y.source → Cover h R l x
cover_mem h R [] x y m u = absurd m
cover_mem h R (z ∷ l) x y (inl p) u = cover_old h (Add h R z.source) l x (inr (subst (λ w. Upto h x w.source) p u))
cover_mem h R (z ∷ l) x y (inr m) u = cover_mem h (Add h R z.source) l x y m u

pub cover_from : (h : Run) (R : Instr → Type 0) (l : List Candidate) (x : Instr) → R x ⊎ Some l (λ y. Upto h x y.source) → Cover h R l x
cover_from h R l x (inl r) = cover_old h R l x r
cover_from h R l x (inr s) = cover_mem h R l x s.cand s.mem s.holds

-- x is a candidate that is not in R and before no other candidate
pub record Top (h : Run) (R : Instr → Type 0) (l : List Candidate) (x : Instr) : Type 0 where
  pub cand : Candidate
  pub mem : In cand l
  pub is : x ≡ cand.source
  pub out : R x → ⊥
  pub top : (z : Candidate) → In z l → Bef h x z.source → ⊥

irrefl : (h : Run) (x y : Instr) → x ≡ y → Bef h x y → ⊥
irrefl h x y q b = omega (arith, bef_count h x y b (ap (λ z. z.core) q), ap (λ z. z.count) q)

pub fresh_to : (h : Run) (R : Instr → Type 0) (l : List Candidate) (x : Instr) → Sorted h l → Fresh h R l x → Top h R l x
fresh_to h R [] x s f = absurd f
fresh_to h R (y ∷ l) x s (inl (q, n)) = record { cand = y; mem = inl refl; is = q; out = n; top = top }
  where
    top : (z : Candidate) → In z (y ∷ l) → Bef h x z.source → ⊥
    top z (inl p) b = irrefl h x z.source (q ∙ sym (ap (λ w. w.source) p)) b
    top z (inr m) b = s.0 z m (inr (subst (λ w. Bef h w z.source) q b))
fresh_to h R (y ∷ l) x s (inr f) = go (fresh_to h (Add h R y.source) l x s.1 f)
  where
    go : Top h (Add h R y.source) l x → Top h R (y ∷ l) x
    go t = record { cand = t.cand; mem = inr t.mem; is = t.is; out = λ r. t.out (inl r); top = top }
      where
        top : (z : Candidate) → In z (y ∷ l) → Bef h x z.source → ⊥
        top z (inl p) b = t.out (inr (inr (subst (λ w. Bef h x w.source) p b)))
        top z (inr m) b = t.top z m b

fresh_at : (h : Run) (R : Instr → Type 0) (l : List Candidate) (x : Instr) (c : Candidate) → Sorted h l → In c l → x ≡ c.source → (R x → ⊥) →
    ((z : Candidate) → In z l → Bef h x z.source → ⊥) → Fresh h R l x
fresh_at h R [] x c s m q n t = absurd m
fresh_at h R (y ∷ l) x c s (inl p) q n t = inl (q ∙ ap (λ w. w.source) p, n)
fresh_at h R (y ∷ l) x c s (inr m) q n t = inr (fresh_at h (Add h R y.source) l x c s.1 m q out (λ z i. t z (inr i)))
  where
    out : Add h R y.source x → ⊥
    out (inl r) = n r
    out (inr (inl p)) = s.0 c m (inl (sym p ∙ q))
    out (inr (inr b)) = t y (inl refl) b

pub fresh_from : (h : Run) (R : Instr → Type 0) (l : List Candidate) (x : Instr) → Sorted h l → Top h R l x → Fresh h R l x
fresh_from h R l x s t = fresh_at h R l x t.cand s t.mem t.is t.out t.top
