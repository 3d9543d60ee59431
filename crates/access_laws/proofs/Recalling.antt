-- Remembering each access keeps what the run says of each cell's last write and latest reads.
use Rattle.std.proofs.Common.{◌≡◌, ℕ, zero, suc, ◌<◌, ◌&&◌, ltb, List, [], ◌∷◌, length, get_or, set, Some, None, Option, sym, refl, ap, ◌∙◌, subst, inl, inr, arith}
use mathlib.Core.Option.{none, some}
use mathlib.Core.Option as of_run
use native.Mathlib.Decide.{ℕ_discrete}
use Rattle.std.proofs.lemmas.List.{get_or-set_same, get_or-set_other, length-set, length-replicate, get_or-replicate}
use Rattle.std.proofs.lemmas.Bool.{and_from, lt-ltb, cond-true, cases_eq}
use Rattle.reducers.specs.declared.interface.AccessKind.{AccessKind}
use Rattle.reducers.specs.declared.interface.AccessKind.TheVariants.{Read, Write}
use Rattle.accesses.specs.declared.access.Access.{Access}
use Rattle.accesses.specs.declared.history.CellHistory.{CellHistory}
use Rattle.accesses.specs.Histories.{no_reads, untouched, no_cell, remembered, remembering}
use Rattle.runs.proofs.NewestFirst.{position_new, position_old}
use Rattle.runs.proofs.Remembered.{Found, placed_in, lw_found, lr_found}
use Rattle.runs.proofs.WorkingOrder.{Inside, choose_yes, choose_no}
use Rattle.runs.specs.Candidates.{last_write, latest_read}
use Rattle.runs.specs.Runs as run
use Rattle.runs.specs.Runs.{Instr, Run, Event, ev, local, read, write, core_of, done}
use Rattle.access_laws.specs.Recalls.{Is, SameWrite, SameRead, Recalls, NothingIsRecalledAtFirst, next_access, RememberingRecallsTheRun}

found_inside : (r : Run) (x : Instr) (a : run.Access) → Found r x a → Inside r x
found_inside r x a f = placed_in r f.position x f.event f.placed

-- what was remembered stays where it was
old_is : (r : Run) (e : Event) (a : Access) (x : Instr) → Inside r x → Is r a x → Is (e ∷ r) a x
old_is r e a x i s = record { core = s.core; count = s.count; position = s.position ∙ sym (position_old e r x i) }

old_write : (r : Run) (e : Event) (c : ℕ) (o : Option Access) (w : of_run.Option Instr) → last_write r c ≡ w → SameWrite r o w → SameWrite (e ∷ r) o w
old_write r e c None none q s = tt
old_write r e c None (some x) q s = s
old_write r e c (Some a) none q s = s
old_write r e c (Some a) (some x) q s = old_is r e a x (found_inside r x (write c) (lw_found r c x q)) s

old_read : (r : Run) (e : Event) (c k : ℕ) (o : Option Access) (w : of_run.Option ℕ) → latest_read r c k ≡ w → SameRead r k o w → SameRead (e ∷ r) k o w
old_read r e c k None none q s = tt
old_read r e c k None (some x) q s = s
old_read r e c k (Some a) none q s = s
old_read r e c k (Some a) (some b) q s = old_is r e a (record { core = k; count = b }) (found_inside r (record { core = k; count = b }) (read c) (lr_found r c k b q)) s

-- the new access is the run's newest instruction
new_is : (r : Run) (e : Event) (k : ℕ) → core_of e ≡ k → Is (e ∷ r) (next_access r (core_of e)) (record { core = k; count = suc (done r (core_of e)) })
new_is r e k q = record { core = q; count = refl; position = sym (position_new e r (record { core = k; count = suc (done r (core_of e)) }) (λ i. record { core = sym q i; count = suc (done r (core_of e)) })) }

remembered_is : (r : Run) (cells : List CellHistory) (j c : ℕ) (w : AccessKind) → j < 4 → c < 256 →
    remembering cells c (next_access r j) w ≡ set cells c (remembered (get_or cells c no_cell) (next_access r j) w)
remembered_is r cells j c w h k =
    cond-true (ltb j 4 && ltb c 256) (set cells c (remembered (get_or cells c no_cell) (next_access r j) w)) cells (and_from (ltb j 4) (ltb c 256) (lt-ltb j 4 h) (lt-ltb c 256 k))

no_read : (k : ℕ) → ◌≡◌ {A = Option Access} (get_or no_reads k None) None
no_read zero = refl
no_read (suc zero) = refl
no_read (suc (suc zero)) = refl
no_read (suc (suc (suc zero))) = refl
no_read (suc (suc (suc (suc k)))) = refl

pub nothing_is_recalled_at_first : NothingIsRecalledAtFirst
nothing_is_recalled_at_first = record {
  size = length-replicate 256 untouched;
  rows = λ c h. ap (λ x. length x.reads) (get_or-replicate 256 c untouched no_cell h);
  writes = λ c h. subst (λ (x : CellHistory). SameWrite [] x.last_write none) (sym (get_or-replicate 256 c untouched no_cell h)) tt;
  reads = λ c k h l. subst (λ (o : Option Access). SameRead [] k o none) (sym (ap (λ x. get_or x.reads k None) (get_or-replicate 256 c untouched no_cell h) ∙ no_read k)) tt;
}

module _ (r : Run) (cells : List CellHistory) (w : Recalls r cells) where
  abbrev cell : ℕ → CellHistory
  cell c = get_or cells c no_cell

  pub local_kept : (j : ℕ) → Recalls (ev j local ∷ r) cells
  local_kept j = record {
    size = w.size;
    rows = w.rows;
    writes = λ c h. old_write r (ev j local) c (cell c).last_write (last_write r c) refl (w.writes c h);
    reads = λ c k h l. old_read r (ev j local) c k (get_or (cell c).reads k None) (latest_read r c k) refl (w.reads c k h l);
  }

  -- the cell d replaced by x
  module _ (e : Event) (d : ℕ) (inside : d < 256) (x : CellHistory) where
    here : get_or (set cells d x) d no_cell ≡ x
    here = get_or-set_same cells d x no_cell (omega (arith, w.size))

    there : (c : ℕ) → (c ≡ d → ⊥) → get_or (set cells d x) c no_cell ≡ cell c
    there c q = get_or-set_other cells d c x no_cell q

    replaced : length x.reads ≡ 4 →
        SameWrite (e ∷ r) x.last_write (last_write (e ∷ r) d) → ((c : ℕ) → (c ≡ d → ⊥) → last_write (e ∷ r) c ≡ last_write r c) →
        ((k : ℕ) → k < 4 → SameRead (e ∷ r) k (get_or x.reads k None) (latest_read (e ∷ r) d k)) → ((c k : ℕ) → (c ≡ d → ⊥) → latest_read (e ∷ r) c k ≡ latest_read r c k) →
        Recalls (e ∷ r) (set cells d x)
    replaced row wrote other-writes saw other-reads = record {
      size = length-set cells d x ∙ w.size;
      rows = λ c h. elim (cases_eq c d) [
        | inl q ↦ ap (λ i. length (get_or (set cells d x) i no_cell).reads) q ∙ ap (λ (y : CellHistory). length y.reads) here ∙ row
        | inr q ↦ ap (λ (y : CellHistory). length y.reads) (there c q) ∙ w.rows c h
      ];
      writes = λ c h. elim (cases_eq c d) [
        | inl q ↦ subst (λ i. SameWrite (e ∷ r) (get_or (set cells d x) i no_cell).last_write (last_write (e ∷ r) i)) (sym q)
            (subst (λ (y : CellHistory). SameWrite (e ∷ r) y.last_write (last_write (e ∷ r) d)) (sym here) wrote)
        | inr q ↦ subst (λ (y : CellHistory). SameWrite (e ∷ r) y.last_write (last_write (e ∷ r) c)) (sym (there c q))
            (subst (SameWrite (e ∷ r) (cell c).last_write) (sym (other-writes c q)) (old_write r e c (cell c).last_write (last_write r c) refl (w.writes c h)))
      ];
      reads = λ c k h l. elim (cases_eq c d) [
        | inl q ↦ subst (λ i. SameRead (e ∷ r) k (get_or (get_or (set cells d x) i no_cell).reads k None) (latest_read (e ∷ r) i k)) (sym q)
            (subst (λ (y : CellHistory). SameRead (e ∷ r) k (get_or y.reads k None) (latest_read (e ∷ r) d k)) (sym here) (saw k l))
        | inr q ↦ subst (λ (y : CellHistory). SameRead (e ∷ r) k (get_or y.reads k None) (latest_read (e ∷ r) c k)) (sym (there c q))
            (subst (SameRead (e ∷ r) k (get_or (cell c).reads k None)) (sym (other-reads c k q)) (old_read r e c k (get_or (cell c).reads k None) (latest_read r c k) refl (w.reads c k h l)))
      ];
    }

  pub read_kept : (j c : ℕ) → j < 4 → c < 256 → Recalls (ev j (read c) ∷ r) (remembering cells c (next_access r j) Read)
  read_kept j d h inside =
      let e = ev j (read d) in
      let a = next_access r j in
      let x = remembered (cell d) a Read in
      subst (Recalls (e ∷ r)) (sym (remembered_is r cells j d Read h inside))
      (replaced e d inside x (length-set (cell d).reads j (Some a) ∙ w.rows d inside)
      (old_write r e d (cell d).last_write (last_write r d) refl (w.writes d inside)) (λ c q. refl)
      (λ k l. elim (cases_eq k j) [
        | inl q ↦ subst (SameRead (e ∷ r) k (get_or x.reads k None)) (sym (choose_yes (ℕ_discrete d d) _ _ refl ∙ choose_yes (ℕ_discrete j k) _ _ (sym q)))
            (subst (λ (o : Option Access). SameRead (e ∷ r) k o (some (suc (done r j)))) (sym (ap (λ i. get_or x.reads i None) q ∙ get_or-set_same (cell d).reads j (Some a) None (omega (arith, w.rows d inside))))
            (new_is r e k (sym q)))
        | inr q ↦ subst (SameRead (e ∷ r) k (get_or x.reads k None)) (sym (choose_yes (ℕ_discrete d d) _ _ refl ∙ choose_no (ℕ_discrete j k) _ _ (λ p. q (sym p))))
            (subst (λ (o : Option Access). SameRead (e ∷ r) k o (latest_read r d k)) (sym (get_or-set_other (cell d).reads j k (Some a) None q))
            (old_read r e d k (get_or (cell d).reads k None) (latest_read r d k) refl (w.reads d k inside l)))
      ])
      (λ c k q. choose_no (ℕ_discrete d c) _ _ (λ p. q (sym p))))

  pub write_kept : (j c : ℕ) → j < 4 → c < 256 → Recalls (ev j (write c) ∷ r) (remembering cells c (next_access r j) Write)
  write_kept j d h inside =
      let e = ev j (write d) in
      let a = next_access r j in
      subst (Recalls (e ∷ r)) (sym (remembered_is r cells j d Write h inside))
      (replaced e d inside (remembered (cell d) a Write) refl
      (subst (SameWrite (e ∷ r) (Some a)) (sym (choose_yes (ℕ_discrete d d) _ _ refl)) (new_is r e j refl))
      (λ c q. choose_no (ℕ_discrete d c) _ _ (λ p. q (sym p)))
      (λ k l. subst (λ (o : Option Access). SameRead (e ∷ r) k o (latest_read (e ∷ r) d k)) (sym (no_read k)) (subst (SameRead (e ∷ r) k None) (sym (choose_yes (ℕ_discrete d d) _ _ refl)) tt))
      (λ c k q. choose_no (ℕ_discrete d c) _ _ (λ p. q (sym p))))

pub remembering_recalls_the_run : RememberingRecallsTheRun
remembering_recalls_the_run = record {
  local_kept = λ r cells j w. local_kept r cells w j;
  read_kept = λ r cells j c h k w. read_kept r cells w j c h k;
  write_kept = λ r cells j c h k w. write_kept r cells w j c h k;
}
