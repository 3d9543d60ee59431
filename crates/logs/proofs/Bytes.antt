-- A record is read as it is written, bytes that are read as a record are its bytes, and bytes that are not break a rule of layer 1.
use Rattle.std.proofs.Common.{◌≡◌, ℕ, ◌+◌, ◌/◌, ◌%◌, ◌<◌, Bool, true, false, cond, eqb, List, [], ◌∷◌, ◌++◌, length, get_or, take, drop, Ok, Err, Result, refl, ap, subst, arith}
use native.Mathlib.Nat.{div-add-mod}
use Rattle.std.specs.List.{AllByRecursion}
use Rattle.std.proofs.lemmas.List.Elements.{All-from_recursion, recursion_from_All, All-from_get_or, All-take, All-drop}
use Rattle.std.proofs.lemmas.Bool.{and_parts, eqb-true}
use Rattle.records.specs.declared.settings.Heading.{Heading}
use Rattle.records.specs.Faults.{Fault}
use Rattle.records.specs.Format.{Entry, head, arc, end, bytes_of}
use Rattle.records.specs.Reading.{broken, count_of, marked, head_after, arc_after, end_after, entry_at}
use Rattle.logs.specs.Lawful.{Marks, head_mark, arc_mark, end_mark, Breaks, no_mark, cut, unknown_mark}

-- the bytes of a store, and of what is cut from it
pub octets_of : (xs : List ℕ) → ((i : ℕ) → i < length xs → get_or xs i 0 < 256) → AllByRecursion (λ b. b < 256) xs
octets_of xs small = recursion_from_All (λ b. b < 256) xs (All-from_get_or (λ b. b < 256) xs 0 small)

pub octets_take : (n : ℕ) (xs : List ℕ) → AllByRecursion (λ b. b < 256) xs → AllByRecursion (λ b. b < 256) (take n xs)
octets_take n xs o = recursion_from_All (λ b. b < 256) (take n xs) (All-take (λ b. b < 256) n xs (All-from_recursion (λ b. b < 256) xs o))

pub octets_drop : (n : ℕ) (xs : List ℕ) → AllByRecursion (λ b. b < 256) xs → AllByRecursion (λ b. b < 256) (drop n xs)
octets_drop n xs o = recursion_from_All (λ b. b < 256) (drop n xs) (All-drop (λ b. b < 256) n xs (All-from_recursion (λ b. b < 256) xs o))

pub read_back : (core at : ℕ) (e : Entry) (junk : List ℕ) → entry_at core at (bytes_of e ++ junk) ≡ Ok e
read_back core at (head c p n) junk = ap (λ x. Ok (head c p x)) (div-add-mod n 256)
read_back core at (arc a) junk =
    λ i. Ok (arc (record { source = a.source; count = div-add-mod a.count 256 i; target = div-add-mod a.target 256 i }))
read_back core at (end n k) junk = λ i. Ok (end (div-add-mod n 256 i) (div-add-mod k 256 i))

high_byte : (h l : ℕ) → l < 256 → count_of h l / 256 ≡ h
high_byte h l s = omega arith

low_byte : (h l : ℕ) → l < 256 → count_of h l % 256 ≡ l
low_byte h l s = omega arith

mark_is : (m n x y : ℕ) → marked m n x y ≡ true → (x ≡ m) × (y ≡ n)
mark_is m n x y q = let p = and_parts (eqb x m) (eqb y n) q in (eqb-true x m p.0, eqb-true y n p.1)

abbrev Starts : List ℕ → Entry → Type 0
Starts bs e = bs ≡ bytes_of e ++ drop (length (bytes_of e)) bs

head_back : (f : Fault) (x y : ℕ) (rest : List ℕ) (e : Entry) → AllByRecursion (λ b. b < 256) rest → (x ≡ 0x48) × (y ≡ 0x43) → head_after rest f ≡ Ok e → Starts (x ∷ y ∷ rest) e
head_back f x y (c ∷ p ∷ h ∷ l ∷ zs) e o m q =
    let s = o.1.1.1.0 in
    let u = high_byte h l s in
    let v = low_byte h l s in
    let r : head c p (count_of h l) ≡ e = cc in
    subst (Starts (x ∷ y ∷ c ∷ p ∷ h ∷ l ∷ zs)) r cc
head_back f x y [] e o m q = absurd cc
head_back f x y (_ ∷ []) e o m q = absurd cc
head_back f x y (_ ∷ _ ∷ []) e o m q = absurd cc
head_back f x y (_ ∷ _ ∷ _ ∷ []) e o m q = absurd cc

arc_back : (f : Fault) (x y : ℕ) (rest : List ℕ) (e : Entry) → AllByRecursion (λ b. b < 256) rest → (x ≡ 0x41) × (y ≡ 0x52) → arc_after rest f ≡ Ok e → Starts (x ∷ y ∷ rest) e
arc_back f x y (i ∷ a ∷ b ∷ c ∷ d ∷ zs) e o m q =
    let s = o.1.1.0 in
    let t = o.1.1.1.1.0 in
    let u = high_byte a b s in
    let v = low_byte a b s in
    let u' = high_byte c d t in
    let v' = low_byte c d t in
    let r : arc (record { source = i; count = count_of a b; target = count_of c d }) ≡ e = cc in
    subst (Starts (x ∷ y ∷ i ∷ a ∷ b ∷ c ∷ d ∷ zs)) r cc
arc_back f x y [] e o m q = absurd cc
arc_back f x y (_ ∷ []) e o m q = absurd cc
arc_back f x y (_ ∷ _ ∷ []) e o m q = absurd cc
arc_back f x y (_ ∷ _ ∷ _ ∷ []) e o m q = absurd cc
arc_back f x y (_ ∷ _ ∷ _ ∷ _ ∷ []) e o m q = absurd cc

end_back : (f : Fault) (x y : ℕ) (rest : List ℕ) (e : Entry) → AllByRecursion (λ b. b < 256) rest → (x ≡ 0x45) × (y ≡ 0x44) → end_after rest f ≡ Ok e → Starts (x ∷ y ∷ rest) e
end_back f x y (a ∷ b ∷ c ∷ d ∷ zs) e o m q =
    let s = o.1.0 in
    let t = o.1.1.1.0 in
    let u = high_byte a b s in
    let v = low_byte a b s in
    let u' = high_byte c d t in
    let v' = low_byte c d t in
    let r : end (count_of a b) (count_of c d) ≡ e = cc in
    subst (Starts (x ∷ y ∷ a ∷ b ∷ c ∷ d ∷ zs)) r cc
end_back f x y [] e o m q = absurd cc
end_back f x y (_ ∷ []) e o m q = absurd cc
end_back f x y (_ ∷ _ ∷ []) e o m q = absurd cc
end_back f x y (_ ∷ _ ∷ _ ∷ []) e o m q = absurd cc

-- the four ways of two bytes: each mark, or none
module _ (core at : ℕ) (x y : ℕ) (rest : List ℕ) where
  abbrev picked : Bool → Bool → Bool → Result Entry Fault
  picked b₁ b₂ b₃ =
      cond b₁ (head_after rest (broken 1 core at 1)) (cond b₂ (arc_after rest (broken 1 core at 1)) (cond b₃ (end_after rest (broken 1 core at 1)) (Err (broken 1 core at 2))))

  pick_back : (e : Entry) → AllByRecursion (λ b. b < 256) rest → (b₁ : Bool) → marked 0x48 0x43 x y ≡ b₁ → (b₂ : Bool) → marked 0x41 0x52 x y ≡ b₂ → (b₃ : Bool) → marked 0x45 0x44 x y ≡ b₃ →
      picked b₁ b₂ b₃ ≡ Ok e → Starts (x ∷ y ∷ rest) e
  pick_back e o true m₁ b₂ m₂ b₃ m₃ q = head_back (broken 1 core at 1) x y rest e o (mark_is 0x48 0x43 x y m₁) q
  pick_back e o false m₁ true m₂ b₃ m₃ q = arc_back (broken 1 core at 1) x y rest e o (mark_is 0x41 0x52 x y m₂) q
  pick_back e o false m₁ false m₂ true m₃ q = end_back (broken 1 core at 1) x y rest e o (mark_is 0x45 0x44 x y m₃) q
  pick_back e o false m₁ false m₂ false m₃ q = absurd cc

pub written_back : (core at : ℕ) (bs : List ℕ) (e : Entry) → AllByRecursion (λ b. b < 256) bs → entry_at core at bs ≡ Ok e → bs ≡ bytes_of e ++ drop (length (bytes_of e)) bs
written_back core at [] e o q = absurd cc
written_back core at (x ∷ []) e o q = absurd cc
written_back core at (x ∷ y ∷ rest) e o q =
    pick_back core at x y rest e o.1.1 (marked 0x48 0x43 x y) refl (marked 0x41 0x52 x y) refl (marked 0x45 0x44 x y) refl q

-- bytes that are no record
module _ (g : Heading) (before : List Entry) (core at : ℕ) where
  abbrev Unread : List ℕ → Fault → Type 0
  Unread bs f = (f.core ≡ core) × (f.offset ≡ at) × Breaks g before bs f.layer f.cause

  is_cut : (bs : List ℕ) (f : Fault) → Breaks g before bs 1 1 → broken 1 core at 1 ≡ f → Unread bs f
  is_cut bs f b q = subst (Unread bs) q (refl, refl, b)

  cut_head : (rest : List ℕ) (f : Fault) → head_after rest (broken 1 core at 1) ≡ Err f → (broken 1 core at 1 ≡ f) × (length rest < 4)
  cut_head (_ ∷ _ ∷ _ ∷ _ ∷ _) f q = absurd cc
  cut_head (_ ∷ _ ∷ _ ∷ []) f q = (cc, omega arith)
  cut_head (_ ∷ _ ∷ []) f q = (cc, omega arith)
  cut_head (_ ∷ []) f q = (cc, omega arith)
  cut_head [] f q = (cc, omega arith)

  cut_arc : (rest : List ℕ) (f : Fault) → arc_after rest (broken 1 core at 1) ≡ Err f → (broken 1 core at 1 ≡ f) × (length rest < 5)
  cut_arc (_ ∷ _ ∷ _ ∷ _ ∷ _ ∷ _) f q = absurd cc
  cut_arc (_ ∷ _ ∷ _ ∷ _ ∷ []) f q = (cc, omega arith)
  cut_arc (_ ∷ _ ∷ _ ∷ []) f q = (cc, omega arith)
  cut_arc (_ ∷ _ ∷ []) f q = (cc, omega arith)
  cut_arc (_ ∷ []) f q = (cc, omega arith)
  cut_arc [] f q = (cc, omega arith)

  cut_end : (rest : List ℕ) (f : Fault) → end_after rest (broken 1 core at 1) ≡ Err f → (broken 1 core at 1 ≡ f) × (length rest < 4)
  cut_end (_ ∷ _ ∷ _ ∷ _ ∷ _) f q = absurd cc
  cut_end (_ ∷ _ ∷ _ ∷ []) f q = (cc, omega arith)
  cut_end (_ ∷ _ ∷ []) f q = (cc, omega arith)
  cut_end (_ ∷ []) f q = (cc, omega arith)
  cut_end [] f q = (cc, omega arith)

  no_marks : (x y : ℕ) → marked 0x48 0x43 x y ≡ false → marked 0x41 0x52 x y ≡ false → marked 0x45 0x44 x y ≡ false → (size : ℕ) → Marks x y size → ⊥
  no_marks x y m₁ m₂ m₃ size head_mark = let z : ◌≡◌ {A = Bool} true false = m₁ in cc
  no_marks x y m₁ m₂ m₃ size arc_mark = let z : ◌≡◌ {A = Bool} true false = m₂ in cc
  no_marks x y m₁ m₂ m₃ size end_mark = let z : ◌≡◌ {A = Bool} true false = m₃ in cc

  marked_cut : (x y m n size : ℕ) (rest : List ℕ) (f : Fault) → Marks m n size → (x ≡ m) × (y ≡ n) → (broken 1 core at 1 ≡ f) × (2 + length rest < size) → Unread (x ∷ y ∷ rest) f
  marked_cut x y m n size rest f k e q =
      is_cut (x ∷ y ∷ rest) f (cut m n size rest k (λ i. e.0 i ∷ e.1 i ∷ rest) (omega (arith, q.1))) q.0

  pick_unread : (x y : ℕ) (rest : List ℕ) (f : Fault) → (b₁ : Bool) → marked 0x48 0x43 x y ≡ b₁ → (b₂ : Bool) → marked 0x41 0x52 x y ≡ b₂ → (b₃ : Bool) → marked 0x45 0x44 x y ≡ b₃ →
      picked core at x y rest b₁ b₂ b₃ ≡ Err f → Unread (x ∷ y ∷ rest) f
  pick_unread x y rest f true m₁ b₂ m₂ b₃ m₃ q = let c = cut_head rest f q in marked_cut x y 0x48 0x43 6 rest f head_mark (mark_is 0x48 0x43 x y m₁) (c.0, omega (arith, c.1))
  pick_unread x y rest f false m₁ true m₂ b₃ m₃ q = let c = cut_arc rest f q in marked_cut x y 0x41 0x52 7 rest f arc_mark (mark_is 0x41 0x52 x y m₂) (c.0, omega (arith, c.1))
  pick_unread x y rest f false m₁ false m₂ true m₃ q = let c = cut_end rest f q in marked_cut x y 0x45 0x44 6 rest f end_mark (mark_is 0x45 0x44 x y m₃) (c.0, omega (arith, c.1))
  pick_unread x y rest f false m₁ false m₂ false m₃ q =
      let e : broken 1 core at 2 ≡ f = cc in
      subst (Unread (x ∷ y ∷ rest)) e (refl, refl, unknown_mark x y rest refl (no_marks x y m₁ m₂ m₃))

  pub unread : (bs : List ℕ) (f : Fault) → entry_at core at bs ≡ Err f → Unread bs f
  unread [] f q = is_cut [] f (no_mark (omega arith)) cc
  unread (x ∷ []) f q = is_cut (x ∷ []) f (no_mark (omega arith)) cc
  unread (x ∷ y ∷ rest) f q = pick_unread x y rest f (marked 0x48 0x43 x y) refl (marked 0x41 0x52 x y) refl (marked 0x45 0x44 x y) refl q
