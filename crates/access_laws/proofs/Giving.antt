-- A history that recalls a run gives each access the run's candidates.
use Rattle.std.proofs.Common.{◌≡◌, ℕ, zero, suc, ◌-◌, ◌<◌, ◌≤◌, Bool, true, false, cond, ◌&&◌, eqb, ltb, leb, ◌≢◌, ◌⊎◌, List, [], ◌∷◌, get_or, Some, None, Option, sym, refl, ap, ◌∙◌, subst, inl, inr, arith}
use mathlib.Core.Option.{none, some, none-ne-some, some-injective}
use mathlib.Core.Option as of_run
use native.Mathlib.Decide.{ℕ_discrete}
use Rattle.std.proofs.lemmas.Bool.{and_from, lt-ltb, le-leb, lt-leb, eq-eqb, ne_eqb, cond-true, cond-false, cases_lt, false≢true}
use Rattle.std.proofs.lemmas.Bool.Decides.{nat_tests}
use Rattle.std.specs.List.{AllByRecursion}
use Rattle.accesses.proofs.Order.{Pairwise}
use Rattle.accesses.proofs.Others.{other_differs, other_rises}
use Rattle.reducers.specs.declared.interface.AccessKind.{AccessKind}
use Rattle.reducers.specs.declared.interface.AccessKind.TheVariants.{Read, Write}
use Rattle.accesses.specs.declared.access.Access.{Access}
use Rattle.accesses.specs.declared.access.Candidate.{Candidate}
use Rattle.accesses.specs.declared.history.CellHistory.{CellHistory}
use Rattle.accesses.specs.Histories as history
use Rattle.accesses.specs.Histories.{no_cell, write_if, read_or, from_core, other, latest_first, candidates_of, candidates_at}
use Rattle.runs.proofs.CandidatesCover.{cases}
use Rattle.runs.proofs.NewestFirst.{position_inj, given_met, newest_first}
use Rattle.runs.proofs.WorkingOrder.{choose_yes, choose_no, if_same_cond}
use Rattle.runs.specs.Candidates as run_candidates
use Rattle.runs.specs.Candidates.{last_write, latest_read, made_by, or_else, candidate}
use Rattle.runs.specs.Positions.{position, Newest}
use Rattle.runs.specs.Recording.{In}
use Rattle.runs.specs.Runs.{Event, Instr, Run, ev, read, write, done}
use Rattle.access_laws.specs.Recalls.{Is, SameWrite, SameRead, Recalls, as_run, given, CandidatesAreTheRuns}
use Rattle.access_laws.proofs.Ordering.{sorted_in, sorted_out, PositionsDiffer, Good, sorted_falls}

module _ (r : Run) where
  -- what the history gives for a core is what the run gives
  abbrev Gives : Option Candidate → of_run.Option run_candidates.Candidate → Type 0
  Gives None none = Unit {0}
  Gives None (some y) = ⊥
  Gives (Some x) none = ⊥
  Gives (Some x) (some y) = (as_run x ≡ y) × (x.position ≡ position r y.source)

  is_same : (a : Access) (x : Instr) → Is r a x → ◌≡◌ {A = Instr} (record { core = a.core; count = a.count }) x
  is_same a x s = λ i. record { core = s.core i; count = s.count i }

  wrote_by : (k : ℕ) (a : Access) (x : Instr) → Is r a x → (b : Bool) →
      Gives (cond b (Some (history.candidate a Write)) None) (cond b (some (record { source = x; kind = Write })) none)
  wrote_by k a x s true = ((λ i. record { source = is_same a x s i; kind = Write }), s.position)
  wrote_by k a x s false = tt

  wrote_gives : (k : ℕ) (o : Option Access) (w : of_run.Option Instr) → SameWrite r o w → Gives (write_if (λ i. eqb i k) o) (made_by k w)
  wrote_gives k None none s = tt
  wrote_gives k None (some x) s = absurd s
  wrote_gives k (Some a) none s = absurd s
  wrote_gives k (Some a) (some x) s =
      subst (Gives (cond (eqb a.core k) (Some (history.candidate a Write)) None)) (sym (if_same_cond x.core k (some (record { source = x; kind = Write })) none))
      (subst (λ b. Gives (cond (eqb a.core k) (Some (history.candidate a Write)) None) (cond b (some (record { source = x; kind = Write })) none)) (ap (λ i. eqb i k) s.core) (wrote_by k a x s (eqb a.core k)))

  else_gives : (k : ℕ) (o : Option Access) (t : of_run.Option ℕ) (p : Option Access) (w : of_run.Option Instr) → SameRead r k o t → SameWrite r p w →
      Gives (read_or o (write_if (λ i. eqb i k) p)) (or_else k t w)
  else_gives k None none p w s u = wrote_gives k p w u
  else_gives k None (some b) p w s u = absurd s
  else_gives k (Some a) none p w s u = absurd s
  else_gives k (Some a) (some b) p w s u = ((λ i. record { source = is_same a (record { core = k; count = b }) s i; kind = Read }), s.position)

  -- core by core
  module _ (e : Event) where
    abbrev Each : List (Option Candidate) → List ℕ → Type 0
    Each [] [] = Unit {0}
    Each [] (k ∷ ks) = ⊥
    Each (o ∷ os) [] = ⊥
    Each (o ∷ os) (k ∷ ks) = Gives o (candidate r e k) × Each os ks

    abbrev Among : ℕ → List ℕ → Type 0
    Among k [] = ⊥
    Among k (i ∷ is) = (k ≡ i) ⊎ Among k is

    one_to : (o : Option Candidate) (t : of_run.Option run_candidates.Candidate) (os : List (Option Candidate)) (z : run_candidates.Candidate) → Gives o t → In z (given (o ∷ os)) → (t ≡ some z) ⊎ In z (given os)
    one_to None none os z g m = inr m
    one_to None (some y) os z g m = absurd g
    one_to (Some x) none os z g m = absurd g
    one_to (Some x) (some y) os z g (inl q) = inl (ap some (sym (q ∙ g.0)))
    one_to (Some x) (some y) os z g (inr m) = inr m

    each_to : (os : List (Option Candidate)) (ks : List ℕ) (z : run_candidates.Candidate) → Each os ks → In z (given os) → (k : ℕ) × (candidate r e k ≡ some z)
    each_to [] [] z h m = absurd m
    each_to [] (k ∷ ks) z h m = absurd h
    each_to (o ∷ os) [] z h m = absurd h
    each_to (o ∷ os) (k ∷ ks) z h m = elim (one_to o (candidate r e k) os z h.0 m) [ inl q ↦ (k, q) | inr n ↦ each_to os ks z h.1 n ]

    one_from : (o : Option Candidate) (t : of_run.Option run_candidates.Candidate) (os : List (Option Candidate)) (z : run_candidates.Candidate) → Gives o t → t ≡ some z → In z (given (o ∷ os))
    one_from None none os z g q = absurd (none-ne-some z q)
    one_from None (some y) os z g q = absurd g
    one_from (Some x) none os z g q = absurd g
    one_from (Some x) (some y) os z g q = inl (sym (g.0 ∙ some-injective y z q))

    keep_in : (o : Option Candidate) (os : List (Option Candidate)) (z : run_candidates.Candidate) → In z (given os) → In z (given (o ∷ os))
    keep_in None os z m = m
    keep_in (Some x) os z m = inr m

    each_from : (os : List (Option Candidate)) (ks : List ℕ) (z : run_candidates.Candidate) (k : ℕ) → Each os ks → Among k ks → candidate r e k ≡ some z → In z (given os)
    each_from [] [] z k h a q = absurd a
    each_from [] (i ∷ is) z k h a q = absurd h
    each_from (o ∷ os) [] z k h a q = absurd h
    each_from (o ∷ os) (i ∷ is) z k h (inl p) q = one_from o (candidate r e i) os z h.0 (ap (candidate r e) (sym p) ∙ q)
    each_from (o ∷ os) (i ∷ is) z k h (inr p) q = keep_in o os z (each_from os is z k h.1 p q)

    good_one : (o : Option Candidate) (t : of_run.Option run_candidates.Candidate) → Gives o t → Good r o
    good_one None t g = tt
    good_one (Some x) none g = absurd g
    good_one (Some x) (some y) g = g.1 ∙ ap (λ v. position r v.source) (sym g.0)

    each_good : (os : List (Option Candidate)) (ks : List ℕ) → Each os ks → AllByRecursion (Good r) os
    each_good [] [] h = tt
    each_good [] (k ∷ ks) h = absurd h
    each_good (o ∷ os) [] h = absurd h
    each_good (o ∷ os) (k ∷ ks) h = (good_one o (candidate r e k) h.0, each_good os ks h.1)

    -- from different cores
    apart_two : (o p : Option Candidate) (k l : ℕ) (s t : of_run.Option run_candidates.Candidate) → candidate r e k ≡ s → candidate r e l ≡ t → Gives o s → Gives p t → k ≢ l → PositionsDiffer o p
    apart_two None p k l s t a b g h n = tt
    apart_two (Some x) None k l s t a b g h n = tt
    apart_two (Some x) (Some y) k l none t a b g h n = absurd g
    apart_two (Some x) (Some y) k l (some u) none a b g h n = absurd h
    apart_two (Some x) (Some y) k l (some u) (some v) a b g h n = λ q.
        let m = given_met r e k u a in
        let m' = given_met r e l v b in
        let same : u.source ≡ v.source = position_inj r u.source v.source m.some m'.some m.inside m'.inside (sym g.1 ∙ q ∙ h.1) in
        n (sym (cases r e k u a).core ∙ ap (λ x. x.core) same ∙ (cases r e l v b).core)

-- the cores other than j
other_small : (j k : ℕ) → k < 3 → other j k < 4
other_small j k h = grind (arith, nat_tests)

other_reaches : (i j : ℕ) → i < 4 → j < 4 → (i ≡ j → ⊥) → (k : ℕ) × (k < 3) × (i ≡ other j k)
other_reaches i j h l n = elim (cases_lt i j) [ inl s ↦ (i, omega arith, grind (arith, nat_tests)) | inr s ↦ (i - 1, omega arith, grind (arith, nat_tests)) ]

module _ (r : Run) (cells : List CellHistory) (P j c : ℕ) (w : Recalls r cells) (four : P ≤ 4) (mine : j < P) (inside : c < 256) (few : (k : ℕ) → P ≤ k → done r k ≡ 0) where
  abbrev here : CellHistory
  here = get_or cells c no_cell

  -- a core that the session has not gives nothing
  absent : (e : Event) (k : ℕ) → P ≤ k → candidate r e k ≡ none
  absent e k h = go (candidate r e k) refl
    where
      go : (t : of_run.Option run_candidates.Candidate) → candidate r e k ≡ t → candidate r e k ≡ none
      go none q = q
      go (some y) q =
          let m = given_met r e k y q in
          let core = (cases r e k y q).core in
          absurd (omega (arith, m.some, m.inside, ap (done r) core, few k h))

  -- a write
  abbrev e : Event
  e = ev j (write c)

  abbrev f : ℕ → Option Candidate
  f i = from_core P here i

  core_gives : (i : ℕ) → i < 4 → (i ≡ j → ⊥) → Gives r (f i) (candidate r e i)
  core_gives i h n = elim (cases_lt i P) [
    | inl l ↦ subst (λ o. Gives r o (candidate r e i)) (sym (cond-false (leb P i) None (read_or (get_or here.reads i None) (write_if (λ k. eqb k i) here.last_write)) (lt-leb P i l)))
        (subst (Gives r (read_or (get_or here.reads i None) (write_if (λ k. eqb k i) here.last_write))) (sym (choose_no (ℕ_discrete i j) _ _ n))
        (else_gives r i (get_or here.reads i None) (latest_read r c i) here.last_write (last_write r c) (w.reads c i inside h) (w.writes c inside)))
    | inr l ↦ subst (λ o. Gives r o (candidate r e i)) (sym (cond-true (leb P i) None (read_or (get_or here.reads i None) (write_if (λ k. eqb k i) here.last_write)) (le-leb P i l)))
        (subst (Gives r None) (sym (absent e i l)) tt)
  ]

  abbrev three : List (Option Candidate)
  three = f (other j 0) ∷ f (other j 1) ∷ f (other j 2) ∷ []

  abbrev others : List ℕ
  others = other j 0 ∷ other j 1 ∷ other j 2 ∷ []

  one_gives : (k : ℕ) → k < 3 → Gives r (f (other j k)) (candidate r e (other j k))
  one_gives k h = core_gives (other j k) (other_small j k h) (other_differs j k)

  each : Each r e three others
  each = (one_gives 0 (omega arith), (one_gives 1 (omega arith), (one_gives 2 (omega arith), tt)))

  two_apart : (k l : ℕ) → k < l → l < 3 → PositionsDiffer (f (other j k)) (f (other j l))
  two_apart k l h m =
      apart_two r e (f (other j k)) (f (other j l)) (other j k) (other j l) _ _ refl refl (one_gives k (omega arith)) (one_gives l m) (λ q. omega (arith, q, other_rises j k l h))

  all_apart : Pairwise PositionsDiffer three
  all_apart = ((two_apart 0 1 (omega arith) (omega arith), (two_apart 0 2 (omega arith) (omega arith), tt)), ((two_apart 1 2 (omega arith) (omega arith), tt), (tt, tt)))

  place_of : (k : ℕ) → k < 3 → (i : ℕ) → i ≡ other j k → Among r e i others
  place_of zero h i q = inl q
  place_of (suc zero) h i q = inr (inl q)
  place_of (suc (suc zero)) h i q = inr (inr (inl q))
  place_of (suc (suc (suc k))) h i q = absurd (omega arith)

  member_in : (y : run_candidates.Candidate) → candidate r e y.source.core ≡ some y → In y (given (latest_first three))
  member_in y q =
      let i = y.source.core in
      let n : i ≡ j → ⊥ = (cases r e i y q).other in
      let below : i < P = elim (cases_lt i P) [ inl l ↦ l | inr l ↦ absurd (none-ne-some y (sym (absent e i l) ∙ q)) ] in
      let p = other_reaches i j (omega arith) (omega arith) n in
      sorted_in y three (each_from r e three others y i each (place_of p.0 p.1 i p.2) q)

  member_out : (y : run_candidates.Candidate) → In y (given (latest_first three)) → candidate r e y.source.core ≡ some y
  member_out y m =
      let p = each_to r e three others y each (sorted_out y three m) in
      ap (candidate r e) (cases r e p.0 y p.1).core ∙ p.1

  write_newest : Newest r e (given (latest_first three))
  write_newest = record { members = λ y. (member_out y, member_in y); falls = sorted_falls r three (each_good r e three others each) all_apart }

  -- a read
  abbrev d : Event
  d = ev j (read c)

  abbrev passes : ℕ → Bool
  passes k = cond (eqb k j) false (ltb k P)

  passes_not : (k : ℕ) → k ≡ j → passes k ≡ false
  passes_not k q = cond-true (eqb k j) false (ltb k P) (eq-eqb k j q)

  passes_yes : (k : ℕ) → (k ≡ j → ⊥) → k < P → passes k ≡ true
  passes_yes k n l = cond-false (eqb k j) false (ltb k P) (ne_eqb k j n) ∙ lt-ltb k P l

  by_write : (x : Instr) → last_write r c ≡ some x → (y : run_candidates.Candidate) → candidate r d y.source.core ≡ some y →
      (y ≡ record { source = x; kind = Write }) × (x.core ≡ j → ⊥) × (x.core < P)
  by_write x q y p =
      let s = cases r d y.source.core y p in
      let same : y.source ≡ x = some-injective y.source x (sym s.is.last ∙ q) in (
        (λ i. record { source = same i; kind = s.is.kind i }),
        (λ t. s.other (ap (λ z. z.core) same ∙ t)),
        elim (cases_lt x.core P) [ inl l ↦ l | inr l ↦ absurd (none-ne-some y (sym (ap (candidate r d) (ap (λ z. z.core) same) ∙ absent d x.core l) ∙ p)) ],
      )

  is_given : (x : Instr) → last_write r c ≡ some x → (x.core ≡ j → ⊥) → candidate r d x.core ≡ some (record { source = x; kind = Write })
  is_given x q n = choose_no (ℕ_discrete x.core j) _ _ n ∙ ap (made_by x.core) q ∙ choose_yes (ℕ_discrete x.core x.core) _ _ refl

  none_given : last_write r c ≡ none → (k : ℕ) (y : run_candidates.Candidate) → candidate r d k ≡ some y → ⊥
  none_given q k y p = none-ne-some y.source (sym q ∙ (cases r d k y p).is.last)

  read_newest : (o : Option Access) (t : of_run.Option Instr) → last_write r c ≡ t → SameWrite r o t → Newest r d (given (write_if passes o ∷ None ∷ None ∷ []))
  read_newest None none q s = record { members = λ y. ((λ m. absurd m), (λ p. absurd (none_given q y.source.core y p))); falls = tt }
  read_newest None (some x) q s = absurd s
  read_newest (Some a) none q s = absurd s
  read_newest (Some a) (some x) q s = go (passes a.core) refl
    where
      same : as_run (history.candidate a Write) ≡ record { source = x; kind = Write }
      same = λ i. record { source = is_same r a x s i; kind = Write }

      go : (b : Bool) → passes a.core ≡ b → Newest r d (given (cond b (Some (history.candidate a Write)) None ∷ None ∷ None ∷ []))
      go true p = record {
        members = λ y. (out y, λ m. inl ((by_write x q y m).0 ∙ sym same));
        falls = ((λ z m. absurd m), tt);
      }
        where
          other_core : x.core ≡ j → ⊥
          other_core t = false≢true (sym (passes_not a.core (s.core ∙ t)) ∙ p)

          out : (y : run_candidates.Candidate) → (y ≡ as_run (history.candidate a Write)) ⊎ ⊥ → candidate r d y.source.core ≡ some y
          out y (inl m) = let e : y ≡ record { source = x; kind = Write } = m ∙ same in ap (λ z. candidate r d z.source.core) e ∙ is_given x q other_core ∙ ap some (sym e)
          out y (inr m) = absurd m
      go false p = record {
        members = λ y. ((λ m. absurd m), λ m. let v = by_write x q y m in absurd (false≢true (sym p ∙ passes_yes a.core (λ t. v.1 (sym s.core ∙ t)) (omega (arith, v.2, s.core)))));
        falls = tt;
      }

pub candidates_are_the_runs : CandidatesAreTheRuns
candidates_are_the_runs r cells P j c Read w four mine inside few =
    ap given (in_range Read) ∙ (newest_first r (ev j (read c)) (given (candidates_of P (get_or cells c no_cell) j Read))).1
    (read_newest r cells P j c w four mine inside few (get_or cells c no_cell).last_write (last_write r c) refl (w.writes c inside))
  where
    in_range : (k : AccessKind) → candidates_at P cells c j k ≡ candidates_of P (get_or cells c no_cell) j k
    in_range k = cond-true (ltb j 4 && ltb c 256) _ _ (and_from (ltb j 4) (ltb c 256) (lt-ltb j 4 (omega arith)) (lt-ltb c 256 inside))
candidates_are_the_runs r cells P j c Write w four mine inside few =
    ap given (in_range Write) ∙ (newest_first r (ev j (write c)) (given (candidates_of P (get_or cells c no_cell) j Write))).1 (write_newest r cells P j c w four mine inside few)
  where
    in_range : (k : AccessKind) → candidates_at P cells c j k ≡ candidates_of P (get_or cells c no_cell) j k
    in_range k = cond-true (ltb j 4 && ltb c 256) _ _ (and_from (ltb j 4) (ltb c 256) (lt-ltb j 4 (omega arith)) (lt-ltb c 256 inside))
