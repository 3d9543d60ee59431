-- The arcs that the exact reducer logs are the reduction between cores.
use Rattle.std.proofs.Common.{◌≡◌, ◌≢◌, ◌⊎◌, ◌↔◌, List, [], ◌∷◌, sym, refl, ap, ◌∙◌, subst, inl, inr}
use Rattle.reducers.specs.Numbers.{Numbers}
use Rattle.runs.specs.Runs.{Event, Run, Instr, next, Reduced}
use Rattle.runs.specs.Candidates.{candidates}
use Rattle.runs.specs.Recording.{Arc, arc, In, Judged, Recording, begin, turn}
use Rattle.runs.specs.Positions.{Once}
use Rattle.runs.specs.Theorems.{ExactLogsTheReduction}
use Rattle.runs.proofs.WorkingOrder.{Bef, new, pre_in, bef_left, bef_right}
use Rattle.runs.proofs.ExactWalk.{sources}
use Rattle.runs.proofs.ExactTurn.{Fits, turn_log, turn_once}
use Rattle.runs.proofs.ExactNumbers.{onto, collapse, kept}
use Rattle.runs.proofs.OrderAsClosure.{before_to, before_from}

onto_to : (x y z : Instr) (xs : List Instr) (l : List Arc) → In (arc x y) (onto z xs l) → ((y ≡ z) × In x xs) ⊎ In (arc x y) l
onto_to x y z [] l m = inr m
onto_to x y z (w ∷ xs) l m = go (onto_to x y z xs (arc w z ∷ l) m)
  where
    go : ((y ≡ z) × In x xs) ⊎ In (arc x y) (arc w z ∷ l) → ((y ≡ z) × In x (w ∷ xs)) ⊎ In (arc x y) l
    go (inl (q, n)) = inl (q, inr n)
    go (inr (inl q)) = inl (ap (λ (a : Arc). a.target) q, inl (ap (λ (a : Arc). a.source) q))
    go (inr (inr n)) = inr n

onto_old : (a : Arc) (z : Instr) (xs : List Instr) (l : List Arc) → In a l → In a (onto z xs l)
onto_old a z [] l m = m
onto_old a z (w ∷ xs) l m = onto_old a z xs (arc w z ∷ l) (inr m)

onto_new : (x y z : Instr) (xs : List Instr) (l : List Arc) → y ≡ z → In x xs → In (arc x y) (onto z xs l)
onto_new x y z [] l q m = absurd m
onto_new x y z (w ∷ xs) l q (inl p) = onto_old (arc x y) z xs (arc w z ∷ l) (inl (λ i. arc (p i) (q i)))
onto_new x y z (w ∷ xs) l q (inr m) = onto_new x y z xs (arc w z ∷ l) q m

onto_once : (z : Instr) (xs : List Instr) (l : List Arc) → Once xs → Once l → ((x : Instr) → In (arc x z) l → In x xs → ⊥) → Once (onto z xs l)
onto_once z [] l o p n = p
onto_once z (w ∷ xs) l o p n = onto_once z xs (arc w z ∷ l) o.1 ((λ m. n w m (inl refl)), p) apart
  where
    apart : (x : Instr) → In (arc x z) (arc w z ∷ l) → In x xs → ⊥
    apart x (inl q) m = o.0 (subst (λ v. In v xs) (ap (λ (a : Arc). a.source) q) m)
    apart x (inr k) m = n x k (inr m)

-- the transitive reduction, in the working order
record Direct (r : Run) (x y : Instr) : Type 0 where
  pub cores : x.core ≢ y.core
  pub before : Bef r x y
  pub direct : (z : Instr) → Bef r x z → Bef r z y → ⊥

direct_new : (e : Event) (h : Run) (x y : Instr) → y ≡ next h e → Fits h e x → Direct (e ∷ h) x y
direct_new e h x y q f = record {
  cores = λ c. f.cores (c ∙ ap (λ w. w.core) q);
  before = inr (q, f.pre);
  direct = direct;
}
  where
    direct : (z : Instr) → Bef (e ∷ h) x z → Bef (e ∷ h) z y → ⊥
    direct z b (inl c) = new e h y q (bef_right h z y c)
    direct z (inl b) (inr (_, p)) = f.direct z b p
    direct z (inr (r, _)) (inr (_, p)) = new e h z r (pre_in h e z p)

direct_old : (e : Event) (h : Run) (x y : Instr) → Direct h x y → Direct (e ∷ h) x y
direct_old e h x y d = record { cores = d.cores; before = inl d.before; direct = direct }
  where
    direct : (z : Instr) → Bef (e ∷ h) x z → Bef (e ∷ h) z y → ⊥
    direct z b (inr (q, _)) = new e h y q (bef_right h x y d.before)
    direct z (inl b) (inl c) = d.direct z b c
    direct z (inr (r, _)) (inl c) = new e h z r (bef_left h z y c)

-- the arcs of a turn are the old ones, and those from its immediate predecessors of other cores
new_arcs : (e : Event) (h : Run) (N N₁ : Numbers) (L L₁ : List Arc) → Recording ◌≡◌ h N L →
    Judged ◌≡◌ e (next h e) (candidates h e) N L N₁ L₁ → (x y : Instr) →
    In (arc x y) L₁ ↔ (((y ≡ next h e) × Fits h e x) ⊎ In (arc x y) L)
new_arcs e h N N₁ L L₁ r jd x y = (to, from)
  where
    log : In x (sources N e (candidates h e)) ↔ Fits h e x
    log = turn_log h e N (kept r) x

    to : In (arc x y) L₁ → ((y ≡ next h e) × Fits h e x) ⊎ In (arc x y) L
    to m = go (onto_to x y (next h e) (sources N e (candidates h e)) L (subst (λ l. In (arc x y) l) (collapse jd).1 m))
      where
        go : ((y ≡ next h e) × In x (sources N e (candidates h e))) ⊎ In (arc x y) L → ((y ≡ next h e) × Fits h e x) ⊎ In (arc x y) L
        go (inl (q, n)) = inl (q, log.0 n)
        go (inr n) = inr n

    from : ((y ≡ next h e) × Fits h e x) ⊎ In (arc x y) L → In (arc x y) L₁
    from (inl (q, f)) = subst (λ l. In (arc x y) l) (sym (collapse jd).1) (onto_new x y (next h e) (sources N e (candidates h e)) L q (log.1 f))
    from (inr n) = subst (λ l. In (arc x y) l) (sym (collapse jd).1) (onto_old (arc x y) (next h e) (sources N e (candidates h e)) L n)

logged_to : {r : Run} {N : Numbers} {L : List Arc} → Recording ◌≡◌ r N L → (x y : Instr) → In (arc x y) L → Direct r x y
logged_to begin x y m = absurd m
logged_to (turn {e = e} {h = h} {N = N} {N₁ = N₁} {L = L} {L₁ = L₁} r jd n) x y m = go (λ k. logged_to r x y k) ((new_arcs e h N N₁ L L₁ r jd x y).0 m)
  where
    go : (In (arc x y) L → Direct h x y) → ((y ≡ next h e) × Fits h e x) ⊎ In (arc x y) L → Direct (e ∷ h) x y
    go ih (inl (q, f)) = direct_new e h x y q f
    go ih (inr k) = direct_old e h x y (ih k)

logged_from : {r : Run} {N : Numbers} {L : List Arc} → Recording ◌≡◌ r N L → (x y : Instr) → Direct r x y → In (arc x y) L
logged_from begin x y d = d.before
logged_from (turn {e = e} {h = h} {N = N} {N₁ = N₁} {L = L} {L₁ = L₁} r jd n) x y d =
    (new_arcs e h N N₁ L L₁ r jd x y).1 (go (λ k. logged_from r x y k) d.before)
  where
    go : (Direct h x y → In (arc x y) L) → Bef (e ∷ h) x y → ((y ≡ next h e) × Fits h e x) ⊎ In (arc x y) L
    go ih (inl b) = inr (ih (record { cores = d.cores; before = b; direct = λ z a c. d.direct z (inl a) (inl c) }))
    go ih (inr (q, p)) = inl (
      q,
      record {
        cores = λ c. d.cores (c ∙ sym (ap (λ w. w.core) q));
        pre = p;
        direct = λ z b c. d.direct z (inl b) (inr (q, c));
      },
    )

logged_once : {r : Run} {N : Numbers} {L : List Arc} → Recording ◌≡◌ r N L → Once L
logged_once begin = tt
logged_once (turn {e = e} {h = h} {N = N} {N₁ = N₁} {L = L} {L₁ = L₁} r jd n) =
    subst Once (sym (collapse jd).1)
    (onto_once (next h e) (sources N e (candidates h e)) L (turn_once h e N (kept r)) (logged_once r)
    (λ x m _. new e h (next h e) refl (bef_right h x (next h e) (logged_to r x (next h e) m).before)))

pub exact_logs_the_reduction : ExactLogsTheReduction
exact_logs_the_reduction r N L rec = ((λ x y. (to x y, from x y)), logged_once rec)
  where
    to : (x y : Instr) → In (arc x y) L → Reduced r x y
    to x y m =
        let d : Direct r x y = logged_to rec x y m in
        record {
          cores = d.cores;
          before = before_from r x y d.before;
          direct = λ z a b. d.direct z (before_to r a) (before_to r b);
        }

    from : (x y : Instr) → Reduced r x y → In (arc x y) L
    from x y d = logged_from rec x y (record {
      cores = d.cores;
      before = before_to r d.before;
      direct = λ z a b. d.direct z (before_from r x z a) (before_from r z y b);
    })
