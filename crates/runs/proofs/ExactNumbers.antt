-- What the exact reducer's numbers mean is kept from turn to turn.
use Rattle.std.proofs.Common.{◌≡◌, ℕ, suc, ◌≤◌, true, false, cond, ◌&&◌, eqb, ◌≢◌, ◌⊎◌, ◌↔◌, List, [], ◌∷◌, sym, refl, ap, ◌∙◌, subst, inl, inr, arith}
use mathlib.Core.Option.{some, none-ne-some}
use native.Mathlib.Decide.{ℕ_discrete}
use Rattle.std.proofs.lemmas.Bool.{eq-eqb, ne_eqb, eqb-true, and_from, and_parts, cases_Bool, cond-true, cond-false}
use Rattle.reducers.specs.declared.interface.AccessKind.{AccessKind}
use Rattle.reducers.specs.Numbers.{Numbers, taken}
use Rattle.runs.specs.Runs.{local, read, write, Event, ev, Run, Instr, core_of, access_of, choose, done, next}
use Rattle.runs.specs.Candidates.{last_write, latest_read, Candidate, candidates}
use Rattle.runs.specs.Recording.{Arc, arc, place_of, Judged, none_left, answers_yes, answers_no, Noted, Recording, begin, turn}
use Rattle.runs.proofs.WorkingOrder.{Pre, Bef, Inside, new, pre_idle, dep_idle, bef_right, same}
use Rattle.runs.proofs.ExactWalk.{Holds, Stamps, knows, one, walked, sources}
use Rattle.runs.proofs.Bounds.{with_arc}
use Rattle.runs.proofs.Remembered.{Found, lw_found, lr_found, placed_in, lw_write, lr_read, lr_write}
use Rattle.runs.proofs.ExactTurn.{Inv, taken_row}

-- what taking leaves alone

pub record Same (j : ℕ) (s t : Numbers) : Type 0 where
  pub known : (l : ℕ) → l ≢ j → s.known l ≡ t.known l
  pub written : s.written ≡ t.written
  pub read : s.read ≡ t.read

taken_other : (s : Numbers) (i a c : ℕ) (w : AccessKind) (j l : ℕ) → l ≢ j → (k : ℕ) → (taken s i a c w j).known l k ≡ s.known l k
taken_other s i a c w j l n k = cond-false (eqb l j) _ _ (ne_eqb l j n)

one_same : (s : Numbers) (e : Event) (y : Candidate) → Same (core_of e) (one s e y) s
one_same s e y = go (knows s (core_of e) y.source)
  where
    go : {A : Type 0} (d : Dec A) → Same (core_of e) (choose d s (with_arc s e y)) s
    go (yes _) = record { known = λ l n. refl; written = refl; read = refl }
    go (no _) = record { known = λ l n. λ i k. taken_other s y.source.core y.source.count (place_of (access_of e)) y.kind (core_of e) l n k i; written = refl; read = refl }

taken_same : (s : Numbers) (e : Event) (l : List Candidate) → Same (core_of e) (walked s e l) s
taken_same s e [] = record { known = λ l n. refl; written = refl; read = refl }
taken_same s e (y ∷ l) = go (taken_same (one s e y) e l) (one_same s e y)
  where
    go : Same (core_of e) (walked (one s e y) e l) (one s e y) → Same (core_of e) (one s e y) s → Same (core_of e) (walked (one s e y) e l) s
    go p q = record {
      known = λ k n. p.known k n ∙ q.known k n;
      written = p.written ∙ q.written;
      read = p.read ∙ q.read;
    }

-- after the candidates of e, before its access is noted
pub record Mid (h : Run) (e : Event) (s : Numbers) : Type 0 where
  pub row : Holds s (core_of e) (Pre h e)
  pub others : (l : ℕ) → l ≢ core_of e → Holds s l (Pre h (ev l local))
  pub writes : (c : ℕ) (w : Instr) → last_write h c ≡ some w → Stamps h (s.written c) w
  pub reads : (c k a : ℕ) → latest_read h c k ≡ some a → Stamps h (s.read k c) (record { core = k; count = a })

mid : (h : Run) (e : Event) (s : Numbers) → Inv h s → Mid h e (walked s e (candidates h e))
mid h e s v =
    let q : Same (core_of e) (walked s e (candidates h e)) s = taken_same s e (candidates h e) in
    record {
      row = taken_row h e s v;
      others = λ l n x m o. subst (λ r. (x.count ≤ r x.core) ↔ Pre h (ev l local) x) (sym (q.known l n)) (v.knows l x m o);
      writes = λ c w p. subst (λ r. Stamps h (r c) w) (sym q.written) (v.writes c w p);
      reads = λ c k a p. subst (λ r. Stamps h (r k c) (record { core = k; count = a })) (sym q.read) (v.reads c k a p);
    }

-- the known rows after the turn

own_row : (h : Run) (e : Event) (s : Numbers) → Holds s (core_of e) (Pre h e) → Holds s (core_of e) (Pre (e ∷ h) (ev (core_of e) local))
own_row h e s k x n o = (λ l. inr (inl refl, inr ((k x n o).0 l)), from)
  where
    from : Pre (e ∷ h) (ev (core_of e) local) x → x.count ≤ s.known (core_of e) x.core
    from (inl p) = (k x n o).1 (pre_idle h e x p)
    from (inr (_, inl q)) = absurd (n (ap (λ z. z.core) q))
    from (inr (_, inr p)) = (k x n o).1 p

other_row : (h : Run) (e : Event) (l : ℕ) (s : Numbers) → l ≢ core_of e → Holds s l (Pre h (ev l local)) → Holds s l (Pre (e ∷ h) (ev l local))
other_row h e l s m k x n o = (λ i. inl ((k x n o).0 i), from)
  where
    from : Pre (e ∷ h) (ev l local) x → x.count ≤ s.known l x.core
    from (inl p) = (k x n o).1 p
    from (inr (d, _)) = absurd (m (sym (dep_idle e (ev l local) d)))

rows : (h : Run) (e : Event) (s : Numbers) → Mid h e s → (l : ℕ) → Holds s l (Pre (e ∷ h) (ev l local))
rows h e s m l = go (ℕ_discrete l (core_of e))
  where
    go : Dec (l ≡ core_of e) → Holds s l (Pre (e ∷ h) (ev l local))
    go (yes q) = subst (λ z. Holds s z (Pre (e ∷ h) (ev z local))) (sym q) (own_row h e s m.row)
    go (no q) = other_row h e l s q (m.others l q)

-- the stamps after the turn

stamps_up : (h : Run) (e : Event) (v : ℕ → ℕ) (w : Instr) → Inside h w → Stamps h v w → Stamps (e ∷ h) v w
stamps_up h e v w i k x n o = (λ l. inl ((k x n o).0 l), from)
  where
    from : Bef (e ∷ h) x w → x.count ≤ v x.core
    from (inl b) = (k x n o).1 b
    from (inr (q, _)) = absurd (new e h w q i)

stamps_new : (h : Run) (e : Event) (s : Numbers) (w : Instr) → w ≡ next h e → Holds s (core_of e) (Pre h e) →
    Stamps (e ∷ h) (s.known (core_of e)) w
stamps_new h e s w q k x n o = (λ l. inr (q, (k x m o).0 l), from)
  where
    m : x.core ≢ core_of e
    m r = n (r ∙ sym (ap (λ z. z.core) q))

    from : Bef (e ∷ h) x w → x.count ≤ s.known (core_of e) x.core
    from (inl b) = absurd (new e h w q (bef_right h x w b))
    from (inr (_, p)) = (k x m o).1 p

writes_up : (h : Run) (e : Event) (s : Numbers) → Mid h e s → (c : ℕ) (w : Instr) → last_write h c ≡ some w → Stamps (e ∷ h) (s.written c) w
writes_up h e s m c w p =
    let f : Found h w (write c) = lw_found h c w p in
    stamps_up h e (s.written c) w (placed_in h f.position w f.event f.placed) (m.writes c w p)

reads_up : (h : Run) (e : Event) (s : Numbers) → Mid h e s → (c k a : ℕ) → latest_read h c k ≡ some a →
    Stamps (e ∷ h) (s.read k c) (record { core = k; count = a })
reads_up h e s m c k a p =
    let f : Found h (record { core = k; count = a }) (read c) = lr_found h c k a p in
    stamps_up h e (s.read k c) _ (placed_in h f.position _ f.event f.placed) (m.reads c k a p)

noted_write : (h : Run) (j d : ℕ) (s : Numbers) → Mid h (ev j (write d)) s → (c : ℕ) (w : Instr) →
    last_write (ev j (write d) ∷ h) c ≡ some w → Stamps (ev j (write d) ∷ h) (cond (eqb c d) (s.known j) (s.written c)) w
noted_write h j d s m c w p = go (lw_write j d c h w p)
  where
    go : ((d ≡ c) × (w ≡ next h (ev j (write d)))) ⊎ ((d ≢ c) × (last_write h c ≡ some w)) →
        Stamps (ev j (write d) ∷ h) (cond (eqb c d) (s.known j) (s.written c)) w
    go (inl (q, r)) = subst (λ v. Stamps (ev j (write d) ∷ h) v w) (sym (cond-true (eqb c d) _ _ (eq-eqb c d (sym q))))
        (stamps_new h (ev j (write d)) s w r m.row)
    go (inr (q, r)) = subst (λ v. Stamps (ev j (write d) ∷ h) v w) (sym (cond-false (eqb c d) _ _ (ne_eqb c d (λ y. q (sym y)))))
        (writes_up h (ev j (write d)) s m c w r)

noted_read : (h : Run) (j d : ℕ) (s : Numbers) → Mid h (ev j (read d)) s → (c k a : ℕ) →
    latest_read (ev j (read d) ∷ h) c k ≡ some a →
    Stamps (ev j (read d) ∷ h) (cond (eqb k j && eqb c d) (s.known j) (s.read k c)) (record { core = k; count = a })
noted_read h j d s m c k a p = go (lr_read j d c k a h p) (cases_Bool (eqb k j && eqb c d))
  where
    Goal : (ℕ → ℕ) → Type 0
    Goal v = Stamps (ev j (read d) ∷ h) v (record { core = k; count = a })

    new_one : j ≡ k → a ≡ suc (done h j) → Goal (s.known j)
    new_one t r = stamps_new h (ev j (read d)) s _ (same _ _ (sym t) r) m.row

    go : ((d ≡ c) × (j ≡ k) × (a ≡ suc (done h j))) ⊎ (((d ≡ c) → (j ≡ k) → ⊥) × (latest_read h c k ≡ some a)) →
        ((eqb k j && eqb c d) ≡ true) ⊎ ((eqb k j && eqb c d) ≡ false) → Goal (cond (eqb k j && eqb c d) (s.known j) (s.read k c))
    go (inl (q, t, r)) b = subst Goal (sym (cond-true (eqb k j && eqb c d) _ _ (and_from (eqb k j) (eqb c d) (eq-eqb k j (sym t)) (eq-eqb c d (sym q))))) (new_one t r)
    go (inr (n, r)) (inl b) =
        absurd (n (sym (eqb-true c d (and_parts (eqb k j) (eqb c d) b).1)) (sym (eqb-true k j (and_parts (eqb k j) (eqb c d) b).0)))
    go (inr (n, r)) (inr b) = subst Goal (sym (cond-false (eqb k j && eqb c d) _ _ b)) (reads_up h (ev j (read d)) s m c k a r)

-- after the access is noted
noted_inv : (h : Run) (e : Event) (s t : Numbers) → Mid h e s → Noted ◌≡◌ e s t → Inv (e ∷ h) t
noted_inv h (ev j local) s t m n = subst (λ z. Inv (ev j local ∷ h) z) (sym n) (record {
  knows = rows h (ev j local) s m;
  writes = writes_up h (ev j local) s m;
  reads = reads_up h (ev j local) s m;
})
noted_inv h (ev j (read d)) s t m n = subst (λ z. Inv (ev j (read d) ∷ h) z) (sym n) (record {
  knows = rows h (ev j (read d)) s m;
  writes = writes_up h (ev j (read d)) s m;
  reads = noted_read h j d s m;
})
noted_inv h (ev j (write d)) s t m n = subst (λ z. Inv (ev j (write d) ∷ h) z) (sym n) (record {
  knows = rows h (ev j (write d)) s m;
  writes = noted_write h j d s m;
  reads = λ c k a p. reads_up h (ev j (write d)) s m c k a (lr_write j d c k a h p).1;
})

-- what the exact reducer's candidates come to

abbrev pub onto : Instr → List Instr → List Arc → List Arc
onto y [] l = l
onto y (x ∷ xs) l = onto y xs (arc x y ∷ l)

abbrev pub Walked : Event → Instr → List Candidate → Numbers → List Arc → Numbers → List Arc → Type 0
Walked e y l N L N' L' = (N' ≡ walked N e l) × (L' ≡ onto y (sources N e l) L)

abbrev One : {A : Type 0} → Dec A → Event → Instr → Candidate → List Candidate → Numbers → List Arc → Numbers → List Arc → Type 0
One d e y x l N L N' L' =
    (N' ≡ walked (choose d N (with_arc N e x)) e l)
    × (L' ≡ onto y (choose d (sources (choose d N (with_arc N e x)) e l) (x.source ∷ sources (choose d N (with_arc N e x)) e l)) L)

pub collapse : {e : Event} {y : Instr} {l : List Candidate} {N N' : Numbers} {L L' : List Arc} → Judged ◌≡◌ e y l N L N' L' →
    Walked e y l N L N' L'
collapse none_left = (refl, refl)
collapse {e} {y} (answers_yes {x = x} {l = l} {N = N} {N' = N'} {L = L} {L' = L'} p rest) = go (collapse rest) (knows N (core_of e) x.source)
  where
    go : Walked e y l N L N' L' → (d : Dec (x.source.count ≤ N.known (core_of e) x.source.core)) → One d e y x l N L N' L'
    go w (yes _) = (w.0, w.1)
    go w (no n) = absurd (n p)
collapse {e} {y} (answers_no {x = x} {l = l} {N = N} {N₁ = N₁} {N' = N'} {L = L} {L' = L'} p b rest) = go (collapse rest) (knows N (core_of e) x.source)
  where
    go : Walked e y l N₁ (arc x.source y ∷ L) N' L' → (d : Dec (x.source.count ≤ N.known (core_of e) x.source.core)) → One d e y x l N L N' L'
    go w (yes m) = absurd (omega arith)
    go w (no _) = (w.0 ∙ ap (λ n. walked n e l) b, w.1 ∙ ap (λ n. onto y (sources n e l) (arc x.source y ∷ L)) b)

pub kept : {r : Run} {N : Numbers} {L : List Arc} → Recording ◌≡◌ r N L → Inv r N
kept begin = record {
  knows = λ j x n o. ((λ l. omega arith), λ p. absurd p);
  writes = λ c w p. absurd (none-ne-some w p);
  reads = λ c k a p. absurd (none-ne-some a p);
}
kept (turn {e = e} {h = h} {N = N} {N₁ = N₁} {N₂ = N₂} r jd n) =
    noted_inv h e N₁ N₂ (subst (λ z. Mid h e z) (sym (collapse jd).0) (mid h e N (kept r))) n
