-- A word read digit by digit has the value of its digits, or is refused at the first byte that is none or makes it too large.
use Rattle.std.proofs.Common.{◌≡◌, ℕ, ◌+◌, ◌-◌, ◌*◌, ◌<◌, ◌≤◌, Bool, true, false, cond, ◌&&◌, ltb, leb, List, [], ◌∷◌, ◌++◌, length, get_or, take, drop, Some, None, sym, refl, ap, ◌∙◌, subst, arith}
use Rattle.std.specs.Str.Parse.{digits_value, digits_value_after}
use Rattle.std.specs.Char.{is_ascii_digit, digit_value}
use Rattle.std.specs.Int.{IsInRange}
use Rattle.std.specs.Str.{all_ascii_digits}
use Rattle.std.proofs.lemmas.List.{take_more, take-append-drop}
use Rattle.std.proofs.lemmas.Bool.{leb-true, le-leb, and_parts, and_from, cond-true}
use Rattle.std.proofs.lemmas.Str.{digit_value_digit}
use Rattle.listing.specs.Words.{argument, with_digit}

-- the bytes w are digits, and write n
pub record Begun (w : List ℕ) (n : ℕ) : Type 0 where
  pub digits : all_ascii_digits w ≡ true
  pub writes : digits_value 10 w ≡ n
  pub small : n ≤ 65535

value_after_append : (n : ℕ) (xs ys : List ℕ) → digits_value_after 10 n (xs ++ ys) ≡ digits_value_after 10 (digits_value_after 10 n xs) ys
value_after_append n [] ys = refl
value_after_append n (x ∷ xs) ys = value_after_append (n * 10 + digit_value x) xs ys

value_after_ge : (n : ℕ) (xs : List ℕ) → n ≤ digits_value_after 10 n xs
value_after_ge n [] = omega arith
value_after_ge n (x ∷ xs) = omega (arith, value_after_ge (n * 10 + digit_value x) xs)

digits_append : (xs ys : List ℕ) → all_ascii_digits (xs ++ ys) ≡ true → (all_ascii_digits xs ≡ true) × (all_ascii_digits ys ≡ true)
digits_append [] ys h = (refl, h)
digits_append (x ∷ xs) ys h =
    let p = and_parts _ _ h in
    let q = digits_append xs ys p.1 in
    (and_from _ _ p.0 q.0, q.1)

digits_push : (xs : List ℕ) (c : ℕ) → all_ascii_digits xs ≡ true → is_ascii_digit c ≡ true → all_ascii_digits (xs ++ (c ∷ [])) ≡ true
digits_push [] c h d = and_from _ _ d refl
digits_push (x ∷ xs) c h d = let p = and_parts _ _ h in and_from _ _ p.0 (digits_push xs c p.1 d)

digit_value_is : (c : ℕ) → is_ascii_digit c ≡ true → digit_value c ≡ c - 48
digit_value_is c d =
    let p = and_parts _ _ d in
    let inside : IsInRange 48 57 c = (leb-true _ _ p.0, leb-true _ _ p.1) in
    omega (arith, digit_value_digit c inside)

-- one digit more
value_more : (w : List ℕ) (n c : ℕ) → digits_value 10 w ≡ n → is_ascii_digit c ≡ true → digits_value 10 (w ++ (c ∷ [])) ≡ n * 10 + (c - 48)
value_more w n c e d = value_after_append 0 w (c ∷ []) ∙ (λ i. e i * 10 + digit_value_is c d i)

argument_none : (w : List ℕ) → (all_ascii_digits w ≡ true → digits_value 10 w ≤ 65535 → ⊥) → argument w ≡ None
argument_none w no_number = go (ltb 0 (length w)) (all_ascii_digits w) (leb (digits_value 10 w) 65535) refl refl
  where
    go : (a d s : Bool) → all_ascii_digits w ≡ d → leb (digits_value 10 w) 65535 ≡ s → cond (a && (d && s)) (Some (digits_value 10 w)) None ≡ None
    go false d s p q = refl
    go true false s p q = refl
    go true true false p q = refl
    go true true true p q = absurd (no_number p (leb-true _ _ q))

-- the word w, read up to place i
module _ (w : List ℕ) (n i : ℕ) (b : Begun (take i w) n) where
  whole : i < length w → w ≡ (take i w ++ (get_or w i 0 ∷ [])) ++ drop (i + 1) w
  whole lt = sym (ap (λ l. l ++ drop (i + 1) w) (sym (take_more w i 0 lt)) ∙ take-append-drop (i + 1) w)

  pub digit_more : (m : ℕ) → i < length w → with_digit n (get_or w i 0) ≡ Some m → Begun (take (i + 1) w) m
  digit_more m lt e = subst (λ l. Begun l m) (sym (take_more w i 0 lt)) (by_test (is_ascii_digit (get_or w i 0) && leb (n * 10 + (get_or w i 0 - 48)) 65535) refl e)
    where
      by_test : (t : Bool) → (is_ascii_digit (get_or w i 0) && leb (n * 10 + (get_or w i 0 - 48)) 65535) ≡ t → cond t (Some (n * 10 + (get_or w i 0 - 48))) None ≡ Some m → Begun (take i w ++ (get_or w i 0 ∷ [])) m
      by_test true t e =
          let q = and_parts (is_ascii_digit (get_or w i 0)) (leb (n * 10 + (get_or w i 0 - 48)) 65535) t in
          let same : n * 10 + (get_or w i 0 - 48) ≡ m = cc in
          let le = leb-true _ _ q.1 in
          record { digits = digits_push (take i w) (get_or w i 0) b.digits q.0; writes = value_more (take i w) n (get_or w i 0) b.writes q.0 ∙ same; small = omega arith }
      by_test false t e = absurd (let z : ◌≡◌ {A = ℕ} 0 1 = cc in omega arith)

  -- a byte that is refused is refused whatever follows it
  pub digit_bad : i < length w → with_digit n (get_or w i 0) ≡ None → argument w ≡ None
  digit_bad lt e = ap argument (whole lt) ∙ argument_none ((take i w ++ (get_or w i 0 ∷ [])) ++ drop (i + 1) w) wrong
    where
      wrong : all_ascii_digits ((take i w ++ (get_or w i 0 ∷ [])) ++ drop (i + 1) w) ≡ true → digits_value 10 ((take i w ++ (get_or w i 0 ∷ [])) ++ drop (i + 1) w) ≤ 65535 → ⊥
      wrong ds few =
          let first = (digits_append (take i w ++ (get_or w i 0 ∷ [])) (drop (i + 1) w) ds).0 in
          let d : is_ascii_digit (get_or w i 0) ≡ true = (and_parts _ _ (digits_append (take i w) (get_or w i 0 ∷ []) first).1).0 in
          let le : n * 10 + (get_or w i 0 - 48) ≤ 65535 = omega (arith, value_more (take i w) n (get_or w i 0) b.writes d, value_after_append 0 (take i w ++ (get_or w i 0 ∷ [])) (drop (i + 1) w), value_after_ge (digits_value 10 (take i w ++ (get_or w i 0 ∷ []))) (drop (i + 1) w)) in
          let is : with_digit n (get_or w i 0) ≡ Some (n * 10 + (get_or w i 0 - 48)) = cond-true _ _ _ (and_from _ _ d (le-leb _ _ le)) in
          let z : ◌≡◌ {A = ℕ} 0 1 = cc in
          omega arith
