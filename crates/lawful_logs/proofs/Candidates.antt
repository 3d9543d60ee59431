-- The candidates of an access come from other cores of the session, at most one from each, and were done.
use Rattle.std.proofs.Common.{◌≡◌, ℕ, ◌<◌, Bool, true, false, cond, ◌&&◌, eqb, ltb, leb, List, [], ◌∷◌, get_or, Some, None, Option, sym, refl, ◌∙◌, arith}
use Rattle.std.proofs.lemmas.Bool.{cond_both, eqb-true, eqb-false, ltb-true, leb-false}
use Rattle.std.specs.List.{AllByRecursion}
use Rattle.accesses.proofs.Order.{latest_all, Pairwise, latest_pairwise, Differ, differ_flip}
use Rattle.accesses.proofs.Others.{other_differs, other_rises}
use Rattle.accesses.specs.Histories.{candidate, write_if, read_or, from_core, other, candidates_of, candidates_at, no_cell}
use Rattle.accesses.specs.declared.access.Access.{Access}
use Rattle.accesses.specs.declared.access.Candidate.{Candidate}
use Rattle.accesses.specs.declared.history.CellHistory.{CellHistory}
use Rattle.recorder.specs.Refusals.{Book}
use Rattle.reducers.specs.declared.interface.AccessKind.{AccessKind}
use Rattle.reducers.specs.declared.interface.AccessKind.TheVariants.{Read, Write}
use Rattle.lawful_logs.specs.Orderly.{Done, WriteDone, ReadDone, CellDone}

abbrev Cands : Type 0
Cands = List (Option Candidate)

-- another core of the session did it
abbrev pub Fit : Book → ℕ → ℕ → Option Candidate → Type 0
Fit b P j None = Unit {0}
Fit b P j (Some x) = (x.source.core < P) × (x.source.core ≡ j → ⊥) × Done b x.source.core x.source.count

abbrev pub CoresDiffer : Option Candidate → Option Candidate → Type 0
CoresDiffer = Differ (λ x. x.source.core)

abbrev At : ℕ → Option Candidate → Type 0
At i None = Unit {0}
At i (Some x) = x.source.core ≡ i

at_differ : (i l : ℕ) (x y : Option Candidate) → (i ≡ l → ⊥) → At i x → At l y → CoresDiffer x y
at_differ i l None y n p q = tt
at_differ i l (Some x) None n p q = tt
at_differ i l (Some x) (Some y) n p q = λ e. n (sym p ∙ e ∙ q)

module _ (b : Book) (P j : ℕ) where
  -- what core i of the session did last
  abbrev From : ℕ → Option Candidate → Type 0
  From i o = Fit b P j o × At i o

  from_write : (i : ℕ) (o : Option Access) → i < P → (i ≡ j → ⊥) → WriteDone b o → From i (write_if (λ k. eqb k i) o)
  from_write i None below n d = (tt, tt)
  from_write i (Some a) below n d =
      cond_both (eqb a.core i) (Some (candidate a Write)) None (From i)
      (λ q. let e = eqb-true a.core i q in ((omega (arith, e, below), (λ m. n (sym e ∙ m)), d), e)) (λ _. (tt, tt))

  from_read : (i : ℕ) (o : Option Access) (u : Option Candidate) → i < P → (i ≡ j → ⊥) → ReadDone b i o → From i u → From i (read_or o u)
  from_read i None u below n d f = f
  from_read i (Some a) u below n d f = ((omega (arith, d.0, below), (λ m. n (sym d.0 ∙ m)), d.1), d.0)

  from_is : (h : CellHistory) (i : ℕ) → CellDone b h → (i ≡ j → ⊥) → From i (from_core P h i)
  from_is h i d n =
      cond_both (leb P i) None (read_or (get_or h.reads i None) (write_if (λ k. eqb k i) h.last_write)) (From i)
      (λ _. (tt, tt))
      (λ q. let below = leb-false P i q in
      from_read i (get_or h.reads i None) (write_if (λ k. eqb k i) h.last_write) below n (d.0 i) (from_write i h.last_write below n d.1))

  last_write : (o : Option Access) → WriteDone b o → Fit b P j (write_if (λ k. cond (eqb k j) false (ltb k P)) o)
  last_write None d = tt
  last_write (Some a) d =
      cond_both (cond (eqb a.core j) false (ltb a.core P)) (Some (candidate a Write)) None (Fit b P j) (λ q. go (eqb a.core j) refl q) (λ _. tt)
    where
      go : (v : Bool) → eqb a.core j ≡ v → cond v false (ltb a.core P) ≡ true → Fit b P j (Some (candidate a Write))
      go true p q = absurd (grind arith)
      go false p q = (ltb-true a.core P q, eqb-false a.core j p, d)

  candidates_are : (h : CellHistory) (w : AccessKind) → CellDone b h → AllByRecursion (Fit b P j) (candidates_of P h j w) × Pairwise CoresDiffer (candidates_of P h j w)
  candidates_are h Read d =
      ((last_write h.last_write d.1, (tt, (tt, tt))), (nones (write_if (λ k. cond (eqb k j) false (ltb k P)) h.last_write), ((tt, tt), (tt, tt))))
    where
      nones : (o : Option Candidate) → AllByRecursion (CoresDiffer o) (None ∷ None ∷ [])
      nones None = (tt, (tt, tt))
      nones (Some x) = (tt, (tt, tt))
  candidates_are h Write d =
      let x = from_is h (other j 0) d (other_differs j 0) in
      let y = from_is h (other j 1) d (other_differs j 1) in
      let z = from_is h (other j 2) d (other_differs j 2) in
      let a = from_core P h (other j 0) in
      let e = from_core P h (other j 1) in
      let c = from_core P h (other j 2) in
      let first = other_rises j 0 1 (omega arith) in
      let last = other_rises j 1 2 (omega arith) in
      let ab = at_differ (other j 0) (other j 1) a e (λ q. omega (arith, q, first)) x.1 y.1 in
      let ac = at_differ (other j 0) (other j 2) a c (λ q. omega (arith, q, first, last)) x.1 z.1 in
      let bc = at_differ (other j 1) (other j 2) e c (λ q. omega (arith, q, last)) y.1 z.1 in
      let xs = a ∷ e ∷ c ∷ [] in
      (latest_all (Fit b P j) xs (x.0, (y.0, (z.0, tt))), latest_pairwise CoresDiffer (differ_flip (λ x. x.source.core)) xs ((ab, (ac, tt)), ((bc, tt), (tt, tt))))

  pub candidates_fit : (cells : List CellHistory) (c : ℕ) (w : AccessKind) → CellDone b (get_or cells c no_cell) →
      AllByRecursion (Fit b P j) (candidates_at P cells c j w) × Pairwise CoresDiffer (candidates_at P cells c j w)
  candidates_fit cells c w d =
      cond_both (ltb j 4 && ltb c 256) (candidates_of P (get_or cells c no_cell) j w) (None ∷ None ∷ None ∷ []) (λ xs. AllByRecursion (Fit b P j) xs × Pairwise CoresDiffer xs)
      (λ _. candidates_are (get_or cells c no_cell) w d) (λ _. ((tt, (tt, (tt, tt))), ((tt, (tt, tt)), ((tt, tt), (tt, tt)))))
