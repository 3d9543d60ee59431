-- What is seen at a place of a log: the record was read there, it stands in the bytes, and the rules let it follow.
use Rattle.std.proofs.Common.{◌≡◌, ℕ, ◌+◌, ◌-◌, ◌≤◌, min, Bool, true, false, cond, ltb, List, [], ◌∷◌, length, get_or, take, drop, Some, None, Ok, Err, Result, sym, refl, ap, ◌∙◌, inl, inr, arith}
use Rattle.std.proofs.lemmas.List.{take_rest, drop_all, length-drop}
use Rattle.std.proofs.lemmas.Bool.{cases_lt}
use Rattle.records.specs.declared.format.Record.{Record}
use Rattle.records.specs.declared.faults.ByteFault.{ByteFault}
use Rattle.records.specs.declared.reading.State.{State}
use Rattle.records.specs.declared.reading.State.TheVariants.{Before, Among, After}
use Rattle.records.specs.declared.settings.Heading.{Heading}
use Rattle.records.specs.Format.{Entry, head, arc, end, entry, bytes_of}
use Rattle.records.specs.Faults.{Fault, byte_fault}
use Rattle.records.specs.Reading.{broken, head_after, arc_after, end_after, marked, entry_at, follows, Sight, passed, judged, seen, sourced, held_at, held, read_as}

-- the bytes from the cursor on, as the code cuts them
pub rest_is : (log : List ℕ) (at from : ℕ) → from ≡ min at (length log) → take (length log - from) (drop from log) ≡ drop at log
rest_is log at from f =
    take_rest log from ∙
    elim (cases_lt at (length log)) [
      | inl h ↦ (let e : from ≡ at = omega arith in ap (λ n. drop n log) e)
      | inr h ↦ (let e : length log ≤ from = omega arith in drop_all from log e ∙ sym (drop_all at log h))
    ]

-- before the end, a record is read and judged
seen_open : (g : Heading) (log : List ℕ) (at : ℕ) (s : State) → ((n : ℕ) → s ≡ After n → ⊥) →
    judged g s at (entry_at g.core at (drop at log)) ≡ seen g log at s
seen_open g log at Before h = refl
seen_open g log at (Among last latest m) h = refl
seen_open g log at (After n) h = absurd (h n refl)

-- the three ways out of a look, where the code cut the log at `from`
module _ (g : Heading) (log : List ℕ) (at : ℕ) (s : State) (from : ℕ) (going : (n : ℕ) → s ≡ After n → ⊥) (f : from ≡ min at (length log)) where
  looked : (x : Result Entry Fault) → x ≡ entry_at g.core at (take (length log - from) (drop from log)) → judged g s at x ≡ seen g log at s
  looked x h = ap (judged g s at) (h ∙ ap (entry_at g.core at) (rest_is log at from f)) ∙ seen_open g log at s going

  pub bytes_bad : (e : ByteFault) → read_as (Err e) ≡ entry_at g.core at (take (length log - from) (drop from log)) → Err (byte_fault e) ≡ seen g log at s
  bytes_bad e h = looked (Err (byte_fault e)) h

  pub record_good : (r : Record) → read_as (Ok r) ≡ entry_at g.core at (take (length log - from) (drop from log)) →
      passed (entry r) (follows g s at (entry r)) ≡ seen g log at s
  record_good r h = looked (Ok (entry r)) h

-- a record that is read stands in the bytes
pick_fits : (cut mark : Fault) (b₁ b₂ b₃ : Bool) (rest : List ℕ) (e : Entry) →
    cond b₁ (head_after rest cut) (cond b₂ (arc_after rest cut) (cond b₃ (end_after rest cut) (Err mark))) ≡ Ok e →
    length (bytes_of e) ≤ 2 + length rest
pick_fits cut mark true b₂ b₃ [] e q = grind arith
pick_fits cut mark true b₂ b₃ (_ ∷ []) e q = grind arith
pick_fits cut mark true b₂ b₃ (_ ∷ _ ∷ []) e q = grind arith
pick_fits cut mark true b₂ b₃ (_ ∷ _ ∷ _ ∷ []) e q = grind arith
pick_fits cut mark true b₂ b₃ (_ ∷ _ ∷ _ ∷ _ ∷ _) e q = grind arith
pick_fits cut mark false true b₃ [] e q = grind arith
pick_fits cut mark false true b₃ (_ ∷ []) e q = grind arith
pick_fits cut mark false true b₃ (_ ∷ _ ∷ []) e q = grind arith
pick_fits cut mark false true b₃ (_ ∷ _ ∷ _ ∷ []) e q = grind arith
pick_fits cut mark false true b₃ (_ ∷ _ ∷ _ ∷ _ ∷ []) e q = grind arith
pick_fits cut mark false true b₃ (_ ∷ _ ∷ _ ∷ _ ∷ _ ∷ _) e q = grind arith
pick_fits cut mark false false true [] e q = grind arith
pick_fits cut mark false false true (_ ∷ []) e q = grind arith
pick_fits cut mark false false true (_ ∷ _ ∷ []) e q = grind arith
pick_fits cut mark false false true (_ ∷ _ ∷ _ ∷ []) e q = grind arith
pick_fits cut mark false false true (_ ∷ _ ∷ _ ∷ _ ∷ _) e q = grind arith
pick_fits cut mark false false false rest e q = grind arith

pub entry_fits : (core at : ℕ) (bs : List ℕ) (e : Entry) → entry_at core at bs ≡ Ok e → length (bytes_of e) ≤ length bs
entry_fits core at [] e q = grind arith
entry_fits core at (x ∷ []) e q = grind arith
entry_fits core at (x ∷ y ∷ rest) e q =
    omega (arith, pick_fits (broken 1 core at 1) (broken 1 core at 2) (marked 0x48 0x43 x y) (marked 0x41 0x52 x y) (marked 0x45 0x44 x y) rest e q)

passed_both : (x e : Entry) (t : State) (f : Result State Fault) → passed x f ≡ Ok (Some (e, t)) → (x ≡ e) × (f ≡ Ok t)
passed_both x e t (Ok y) q = let v : ◌≡◌ {A = Entry × State} (x, y) (e, t) = cc in (ap (λ w. w.0) v, ap (λ w. Ok w.1) v)
passed_both x e t (Err y) q = let z : ◌≡◌ {A = ℕ} 0 1 = cc in absurd (omega arith)

judged_both : (g : Heading) (s : State) (at : ℕ) (e : Entry) (t : State) (f : Result Entry Fault) → judged g s at f ≡ Ok (Some (e, t)) → (f ≡ Ok e) × (follows g s at e ≡ Ok t)
judged_both g s at e t (Ok x) q =
    let v = passed_both x e t (follows g s at x) q in
    (ap Ok v.0, ap (follows g s at) (sym v.0) ∙ v.1)
judged_both g s at e t (Err x) q = let z : ◌≡◌ {A = ℕ} 0 1 = cc in absurd (omega arith)

-- what is seen was read and may follow
pub seen_both : (g : Heading) (log : List ℕ) (at : ℕ) (s : State) (e : Entry) (t : State) → seen g log at s ≡ Ok (Some (e, t)) →
    (entry_at g.core at (drop at log) ≡ Ok e) × (follows g s at e ≡ Ok t)
seen_both g log at Before e t q = judged_both g Before at e t _ q
seen_both g log at (Among last latest m) e t q = judged_both g (Among last latest m) at e t _ q
seen_both g log at (After n) e t q = let z : ◌≡◌ {A = ℕ} 0 1 = cc in absurd (omega arith)

pub seen_fits : (g : Heading) (log : List ℕ) (at : ℕ) (s : State) (e : Entry) (t : State) →
    seen g log at s ≡ Ok (Some (e, t)) → length (bytes_of e) ≤ length log - at
seen_fits g log at s e t q = rw (← length-drop at log) (entry_fits g.core at (drop at log) e (seen_both g log at s e t q).0)

pub size_pos : (e : Entry) → 6 ≤ length (bytes_of e)
size_pos (head _ _ _) = omega arith
size_pos (arc _) = omega arith
size_pos (end _ _) = omega arith

-- what is held was seen
cond_some : (b : Bool) (f : Fault) (x y : Entry × State) → cond b (Err f) (Ok (Some x)) ≡ Ok (Some y) → x ≡ y
cond_some true f x y q = let z : ◌≡◌ {A = ℕ} 0 1 = cc in absurd (omega arith)
cond_some false f x y q = cc

sourced_both : (counts : List ℕ) (g : Heading) (at : ℕ) (x e : Entry) (u t : State) → sourced counts g at x u ≡ Ok (Some (e, t)) → ◌≡◌ {A = Entry × State} (x, u) (e, t)
sourced_both counts g at (head _ _ _) e u t q = cc
sourced_both counts g at (end _ _) e u t q = cc
sourced_both counts g at (arc a) e u t q = cond_some (ltb (get_or counts a.source 0) a.count) (broken 3 g.core at 6) _ _ q

held_seen : (counts : List ℕ) (g : Heading) (at : ℕ) (e : Entry) (t : State) (x : Sight) → held_at counts g at x ≡ Ok (Some (e, t)) → x ≡ Ok (Some (e, t))
held_seen counts g at e t (Ok (Some (y, u))) q = ap (λ v. Ok (Some v)) (sourced_both counts g at y e u t q)
held_seen counts g at e t (Ok None) q = let z : ◌≡◌ {A = ℕ} 0 1 = cc in absurd (omega arith)
held_seen counts g at e t (Err f) q = let z : ◌≡◌ {A = ℕ} 0 1 = cc in absurd (omega arith)

pub held_fits : (counts : List ℕ) (g : Heading) (log : List ℕ) (at : ℕ) (s : State) (e : Entry) (t : State) →
    held counts g log at s ≡ Ok (Some (e, t)) → length (bytes_of e) ≤ length log - at
held_fits counts g log at s e t q = seen_fits g log at s e t (held_seen counts g at e t (seen g log at s) q)
