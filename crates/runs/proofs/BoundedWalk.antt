-- One turn's candidates, with any reducer within its bounds: each is ordered by the arcs.
use Rattle.std.proofs.Common.{◌≡◌, ℕ, ◌≤◌, max, cond, eqb, ◌≢◌, ◌⊎◌, List, ◌∷◌, sym, refl, subst, inl, inr, arith}
use native.Mathlib.Decide.{ℕ_discrete}
use Rattle.std.proofs.lemmas.Bool.{ne_eqb, cond-false}
use Rattle.reducers.specs.declared.interface.AccessKind.{AccessKind}
use Rattle.reducers.specs.declared.interface.AccessKind.TheVariants.{Read, Write}
use Rattle.reducers.specs.Numbers.{Numbers, Meets, ◌⊑◌, stamp}
use Rattle.runs.specs.Runs.{local, Event, ev, Run, Instr, core_of, access_of, choose, next}
use Rattle.runs.specs.Candidates.{Candidate}
use Rattle.runs.specs.Recording.{Arc, arc, In, place_of, Judged, none_left, answers_yes, answers_no}
use Rattle.runs.proofs.WorkingOrder.{Pre, Bef, Inside, Upto, upto_own, upto_trans, pre_upto}
use Rattle.runs.proofs.Bounds.{max_or, known_taken, stamp_of, with_arc}

abbrev pub Sub : List Arc → List Arc → Type 0
Sub L M = (a : Arc) → In a L → In a M

-- every instruction that the row admits is before y
abbrev pub Below : Run → (ℕ → ℕ) → Instr → Type 0
Below h v y = (x : Instr) → 1 ≤ x.count → x.count ≤ v x.core → Bef h x y

-- x precedes whatever the core of e does next, or is at or before the source of an arc to e
abbrev pub Ordered : Run → Event → List Arc → Instr → Type 0
Ordered h e L x = Pre h (ev (core_of e) local) x ⊎ ((z : Instr) × In (arc z (next h e)) L × Upto h x z)

ordered_more : (h : Run) (e : Event) (L M : List Arc) (x : Instr) → Sub L M → Ordered h e L x → Ordered h e M x
ordered_more h e L M x s (inl p) = inl p
ordered_more h e L M x s (inr (z, i, u)) = inr (z, s (arc z (next h e)) i, u)

pub ordered_upto : (h : Run) (e : Event) (L : List Arc) (x y : Instr) → Upto h x y → Ordered h e L y → Ordered h e L x
ordered_upto h e L x y u (inl p) = inl (pre_upto h (ev (core_of e) local) x y u p)
ordered_upto h e L x y u (inr (z, i, v)) = inr (z, i, upto_trans h x y z u v)

abbrev pub Knows : Run → Event → Numbers → List Arc → Type 0
Knows h e N L = (x : Instr) → 1 ≤ x.count → x.count ≤ N.known (core_of e) x.core → Ordered h e L x

-- no number has grown but the known ones of core j
pub record Kept (j : ℕ) (N M : Numbers) : Type 0 where
  pub known : (l : ℕ) → l ≢ j → (k : ℕ) → N.known l k ≤ M.known l k
  pub written : (c k : ℕ) → N.written c k ≤ M.written c k
  pub read : (i c k : ℕ) → N.read i c k ≤ M.read i c k

kept_same : (j : ℕ) (N : Numbers) → Kept j N N
kept_same j N = record { known = λ l n k. omega arith; written = λ c k. omega arith; read = λ i c k. omega arith }

kept_trans : (j : ℕ) (N M K : Numbers) → Kept j N M → Kept j M K → Kept j N K
kept_trans j N M K p q = record {
  known = λ l n k. omega (arith, p.known l n k, q.known l n k);
  written = λ c k. omega (arith, p.written c k, q.written c k);
  read = λ i c k. omega (arith, p.read i c k, q.read i c k);
}

kept_taken : (e : Event) (x : Candidate) (N N₁ : Numbers) → N₁ ⊑ with_arc N e x → Kept (core_of e) N₁ N
kept_taken e x N N₁ b = record {
  known = λ l n k. omega (
    arith,
    b.known_le l k,
    cond-false (eqb l (core_of e))
        (max (N.known (core_of e) k) (cond (eqb k x.source.core) x.source.count (stamp_of N e x k))) (N.known l k) (ne_eqb l (core_of e) n),
  );
  written = b.written_le;
  read = b.read_le;
}

stamp_kept : (j : ℕ) (N M : Numbers) → Kept j N M → (i c : ℕ) (w : AccessKind) (k : ℕ) → stamp N i c w k ≤ stamp M i c w k
stamp_kept j N M s i c Read k = s.read i c k
stamp_kept j N M s i c Write k = s.written c k

-- a candidate's stamp is true of it
pub record Stamped (h : Run) (e : Event) (N : Numbers) (x : Candidate) : Type 0 where
  pub inside : Inside h x.source
  pub below : Below h (stamp_of N e x) x.source

stamped_kept : (h : Run) (e : Event) (N M : Numbers) (x : Candidate) → Kept (core_of e) M N → Stamped h e N x → Stamped h e M x
stamped_kept h e N M x s t = record {
  inside = t.inside;
  below = λ z o l. t.below z o
      (omega (arith, l, stamp_kept (core_of e) M N s x.source.core (place_of (access_of e)) x.kind z.core));
}

knows_taken : (h : Run) (e : Event) (x : Candidate) (N N₁ : Numbers) (L : List Arc) → N₁ ⊑ with_arc N e x → Stamped h e N x →
    Knows h e N L → Knows h e N₁ (arc x.source (next h e) ∷ L)
knows_taken h e x N N₁ L b t kn z o l = go (ℕ_discrete z.core x.source.core) refl
  where
    old : z.count ≤ N.known (core_of e) z.core → Ordered h e (arc x.source (next h e) ∷ L) z
    old m = ordered_more h e L (arc x.source (next h e) ∷ L) z (λ a i. inr i) (kn z o m)

    bound : z.count ≤ choose (ℕ_discrete z.core x.source.core) (max (N.known (core_of e) z.core) x.source.count)
        (max (N.known (core_of e) z.core) (stamp_of N e x z.core))
    bound = subst (λ n. z.count ≤ n)
        (known_taken N x.source.core x.source.count (place_of (access_of e)) x.kind (core_of e) z.core)
        (omega (arith, l, b.known_le (core_of e) z.core))

    go : (d : Dec (z.core ≡ x.source.core)) → ℕ_discrete z.core x.source.core ≡ d →
        Ordered h e (arc x.source (next h e) ∷ L) z
    go (yes q) s = at (max_or _ _ _ (subst (λ d. z.count ≤ choose d (max (N.known (core_of e) z.core) x.source.count)
        (max (N.known (core_of e) z.core) (stamp_of N e x z.core))) s bound))
      where
        at : (z.count ≤ N.known (core_of e) z.core) ⊎ (z.count ≤ x.source.count) → Ordered h e (arc x.source (next h e) ∷ L) z
        at (inl m) = old m
        at (inr m) = inr (x.source, inl refl, (upto_own h z x.source o t.inside q).0 m)
    go (no q) s = at (max_or _ _ _ (subst (λ d. z.count ≤ choose d (max (N.known (core_of e) z.core) x.source.count)
        (max (N.known (core_of e) z.core) (stamp_of N e x z.core))) s bound))
      where
        at : (z.count ≤ N.known (core_of e) z.core) ⊎ (z.count ≤ stamp_of N e x z.core) → Ordered h e (arc x.source (next h e) ∷ L) z
        at (inl m) = old m
        at (inr m) = inr (x.source, inl refl, inr (t.below z o m))

pub record Judges (h : Run) (e : Event) (l : List Candidate) (N N' : Numbers) (L L' : List Arc) : Type 0 where
  pub more : Sub L L'
  pub knows : Knows h e N' L'
  pub kept : Kept (core_of e) N' N
  pub reached : (x : Candidate) → In x l → Ordered h e L' x.source

one_more : (h : Run) (e : Event) (x : Candidate) (l : List Candidate) (N N₁ N' : Numbers) (L L₁ L' : List Arc) →
    Sub L L₁ → Kept (core_of e) N₁ N → Ordered h e L₁ x.source → Judges h e l N₁ N' L₁ L' → Judges h e (x ∷ l) N N' L L'
one_more h e x l N N₁ N' L L₁ L' s k r rest = record {
  more = λ a i. rest.more a (s a i);
  knows = rest.knows;
  kept = kept_trans (core_of e) N' N₁ N rest.kept k;
  reached = λ z. elim [
    | inl q ↦ subst (λ w. Ordered h e L' w.source) (sym q) (ordered_more h e L₁ L' x.source rest.more r)
    | inr i ↦ rest.reached z i
  ];
}

pub judges : (h : Run) {e : Event} {l : List Candidate} {N N' : Numbers} {L L' : List Arc} → Judged ◌⊑◌ e (next h e) l N L N' L' →
    ((x : Candidate) → In x l → 1 ≤ x.source.count) → ((x : Candidate) → In x l → Stamped h e N x) → Knows h e N L →
    Judges h e l N N' L L'
judges h {e} (none_left {N = N}) ones st kn = record { more = λ a i. i; knows = kn; kept = kept_same (core_of e) N; reached = λ x i. absurd i }
judges h {e} (answers_yes {x = x} {l = l} {N = N} {N' = N'} {L = L} {L' = L'} y rest) ones st kn =
    one_more h e x l N N N' L L L' (λ a i. i) (kept_same (core_of e) N) (kn x.source (ones x (inl refl)) y)
    (judges h rest (λ z i. ones z (inr i)) (λ z i. st z (inr i)) kn)
judges h {e} (answers_no {x = x} {l = l} {N = N} {N₁ = N₁} {N' = N'} {L = L} {L' = L'} y b rest) ones st kn =
    one_more h e x l N N₁ N' L (arc x.source (next h e) ∷ L) L' (λ a i. inr i) (kept_taken e x N N₁ b) (inr (x.source, inl refl, inl refl))
    (judges h rest (λ z i. ones z (inr i)) (λ z i. stamped_kept h e N N₁ z (kept_taken e x N N₁ b) (st z (inr i)))
    (knows_taken h e x N N₁ L b (st x (inl refl)) kn))

-- a new arc comes from a candidate
pub new_arc : {meets : Meets} {e : Event} {y : Instr} {l : List Candidate} {N N' : Numbers} {L L' : List Arc} → Judged meets e y l N L N' L' → (a : Arc) → In a L' →
    In a L ⊎ ((x : Candidate) × In x l × (a ≡ arc x.source y))
new_arc none_left a i = inl i
new_arc (answers_yes y rest) a i = elim (new_arc rest a i) [ inl k ↦ inl k | inr t ↦ inr (t.0, inr t.1, t.2) ]
new_arc (answers_no {x = x} y b rest) a i = elim (new_arc rest a i) [
  | inl k ↦ elim k [ inl q ↦ inr (x, inl refl, q) | inr m ↦ inl m ]
  | inr t ↦ inr (t.0, inr t.1, t.2)
]
