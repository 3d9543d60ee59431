-- The list of a turn's candidates: its members, and its order by position.
use Rattle.std.proofs.Common.{◌≡◌, ℕ, suc, ◌≤◌, List, [], ◌∷◌, sym, refl, ap, ◌∙◌, subst, inl, inr, arith}
use mathlib.Core.Option.{Option, none, some}
use native.Mathlib.Decide.{ℕ_discrete, dec_le}
use Rattle.runs.specs.Candidates.{Candidate, candidate, candidates, keep, pick}
use Rattle.runs.specs.Recording.{In}
use Rattle.runs.specs.Runs.{Event, Instr, Run, choose, core_of, done, next}
use Rattle.runs.proofs.WorkingOrder.{choose_yes, Bef, Inside, Upto, in_up, in_next, new, same, done_own, done_other, bef_left}
use Rattle.runs.proofs.CandidatesCover.{Sound, cases, Met, cand_met, ByCand}

-- membership

pub record Picked (h : Run) (e : Event) (t : Run) (y : Candidate) : Type 0 where
  pub given : candidate h e y.source.core ≡ some y
  pub inside : Inside t y.source

picked_up : (h : Run) (e f : Event) (t : Run) (y : Candidate) → Picked h e t y → Picked h e (f ∷ t) y
picked_up h e f t y p = record { given = p.given; inside = in_up f t y.source p.inside }

-- the candidate that `core_of f` gives, if it is the turn f itself
pub kept_source : (h : Run) (e f : Event) (t : Run) (x : Candidate) → candidate h e (core_of f) ≡ some x →
    x.source.count ≡ suc (done t (core_of f)) → x.source ≡ next t f
kept_source h e f t x o q = same x.source (next t f) (cases h e (core_of f) x o).core q

kept : (h : Run) (e f : Event) (t : Run) (y : Candidate) (l : List Candidate) (o : Option Candidate) → candidate h e (core_of f) ≡ o →
    (In y l → Picked h e t y) → In y (keep o (suc (done t (core_of f))) l) → Picked h e (f ∷ t) y
kept h e f t y l none o r m = picked_up h e f t y (r m)
kept h e f t y l (some x) o r m = go (ℕ_discrete x.source.count (suc (done t (core_of f)))) m
  where
    go : (d : Dec (x.source.count ≡ suc (done t (core_of f)))) → In y (choose d (x ∷ l) l) → Picked h e (f ∷ t) y
    go (yes q) (inl i) = subst (λ z. Picked h e (f ∷ t) z) (sym i) (record {
      given = ap (candidate h e) (cases h e (core_of f) x o).core ∙ o;
      inside = in_next f t x.source (kept_source h e f t x o q);
    })
    go (yes q) (inr i) = picked_up h e f t y (r i)
    go (no q) i = picked_up h e f t y (r i)

pub pick_sound : (h : Run) (e : Event) (t : Run) (y : Candidate) → In y (pick h e t) → Picked h e t y
pick_sound h e [] y m = absurd m
pick_sound h e (f ∷ t) y m = kept h e f t y (pick h e t) (candidate h e (core_of f)) refl (λ n. pick_sound h e t y n) m

keep_old : (y : Candidate) (n : ℕ) (l : List Candidate) (o : Option Candidate) → In y l → In y (keep o n l)
keep_old y n l none m = m
keep_old y n l (some x) m = go (ℕ_discrete x.source.count n)
  where
    go : (d : Dec (x.source.count ≡ n)) → In y (choose d (x ∷ l) l)
    go (yes q) = inr m
    go (no q) = m

keep_new : (y : Candidate) (n : ℕ) (l : List Candidate) (o : Option Candidate) → o ≡ some y → y.source.count ≡ n → In y (keep o n l)
keep_new y n l o p q = subst (λ z. In y (keep z n l)) (sym p)
    (subst (λ z. In y z) (sym (choose_yes (ℕ_discrete y.source.count n) (y ∷ l) l q)) (inl refl))

pub pick_full : (h : Run) (e : Event) (t : Run) (y : Candidate) → candidate h e y.source.core ≡ some y → 1 ≤ y.source.count →
    Inside t y.source → In y (pick h e t)
pick_full h e [] y p one i = absurd (omega arith)
pick_full h e (f ∷ t) y p one i =
    go (λ j. pick_full h e t y p one j) (ℕ_discrete (core_of f) y.source.core) (dec_le y.source.count (done t y.source.core))
  where
    go : (Inside t y.source → In y (pick h e t)) → Dec (core_of f ≡ y.source.core) →
        Dec (y.source.count ≤ done t y.source.core) → In y (pick h e (f ∷ t))
    go r d (yes l) = keep_old y (suc (done t (core_of f))) (pick h e t) (candidate h e (core_of f)) (r l)
    go r (yes q) (no l) = keep_new y (suc (done t (core_of f))) (pick h e t) (candidate h e (core_of f)) (ap (candidate h e) q ∙ p)
        (rw q (omega (arith, done_own f t y.source.core q)))
    go r (no q) (no l) = absurd (omega (arith, done_other f t y.source.core q))

-- order

-- no candidate is at or before a later one of the list
abbrev pub Sorted : Run → List Candidate → Type 0
Sorted h [] = Unit {0}
Sorted h (y ∷ l) = ((z : Candidate) → In z l → Upto h y.source z.source → ⊥) × Sorted h l

-- t is an older part of h
abbrev pub Older : Run → Run → Type 0
Older t h = (x z : Instr) → Inside t z → Bef h x z → Bef t x z

older_tail : (f : Event) (t h : Run) → Older (f ∷ t) h → Older t h
older_tail f t h o x z i b = go (o x z (in_up f t z i) b)
  where
    go : Bef (f ∷ t) x z → Bef t x z
    go (inl c) = c
    go (inr (q, _)) = absurd (new f t z q i)

keep_sorted : (h : Run) (e f : Event) (t : Run) (o : Option Candidate) → candidate h e (core_of f) ≡ o → Older t h →
    Sorted h (pick h e t) → Sorted h (keep o (suc (done t (core_of f))) (pick h e t))
keep_sorted h e f t none o u s = s
keep_sorted h e f t (some y) o u s = go (ℕ_discrete y.source.count (suc (done t (core_of f))))
  where
    go : (d : Dec (y.source.count ≡ suc (done t (core_of f)))) → Sorted h (choose d (y ∷ pick h e t) (pick h e t))
    go (no q) = s
    go (yes q) = (first, s)
      where
        first : (z : Candidate) → In z (pick h e t) → Upto h y.source z.source → ⊥
        first z m (inl p) = new f t z.source (sym p ∙ kept_source h e f t y o q) (pick_sound h e t z m).inside
        first z m (inr b) = new f t y.source (kept_source h e f t y o q)
            (bef_left t y.source z.source (u y.source z.source (pick_sound h e t z m).inside b))

pick_sorted : (h : Run) (e : Event) (t : Run) → Older t h → Sorted h (pick h e t)
pick_sorted h e [] u = tt
pick_sorted h e (f ∷ t) u = keep_sorted h e f t (candidate h e (core_of f)) refl (older_tail f t h u) (pick_sorted h e t (older_tail f t h u))

-- the whole list

pub listed : (h : Run) (e : Event) (y : Candidate) → In y (candidates h e) → Sound h e y.source.core y
listed h e y m = cases h e y.source.core y (pick_sound h e h y m).given

pub listed_met : (h : Run) (e : Event) (y : Candidate) → In y (candidates h e) → Met h e y.source
listed_met h e y m = cand_met h e y (listed h e y m).other (listed h e y m).is

pub in_list : (h : Run) (e : Event) (x : Instr) (b : ByCand h e x) → In b.cand (candidates h e)
in_list h e x b =
    let c : Sound h e b.cand.source.core b.cand = cases h e b.cand.source.core b.cand b.given in
    let m : Met h e b.cand.source = cand_met h e b.cand c.other c.is in
    pick_full h e h b.cand b.given m.some m.inside

pub sorted : (h : Run) (e : Event) → Sorted h (candidates h e)
sorted h e = pick_sorted h e h (λ x z i b. b)
