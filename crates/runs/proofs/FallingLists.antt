-- Lists whose keys fall are equal where their members are, and what is gathered core by core is such a list of all that there is.
use Rattle.std.proofs.Common.{◌≡◌, ℕ, zero, suc, ◌<◌, ◌≢◌, ◌⊎◌, List, [], ◌∷◌, sym, refl, ap, ◌∙◌, subst, ap₂, inl, inr, arith}
use mathlib.Core.Option.{Option, none, some}
use native.Mathlib.Decide.{dec_lt}
use Rattle.runs.specs.Positions.{Falls, add, gather, insert}
use Rattle.runs.specs.Recording.{In}
use Rattle.runs.specs.Runs.{choose}

-- two falling lists with the same members are equal
pub unique : {A : Type 0} (key : A → ℕ) (l m : List A) → Falls key l → Falls key m →
    ((x : A) → In x l → In x m) → ((x : A) → In x m → In x l) → l ≡ m
unique key [] [] s t i j = refl
unique key [] (z ∷ m) s t i j = absurd (j z (inl refl))
unique key (y ∷ l) [] s t i j = absurd (i y (inl refl))
unique {A} key (y ∷ l) (z ∷ m) s t i j =
    ap₂ (λ a b. a ∷ b) same (unique key l m s.1 t.1 to from)
  where
    heads : (y ≡ z) ⊎ In y m → (z ≡ y) ⊎ In z l → y ≡ z
    heads (inl p) q = p
    heads (inr n) (inl q) = sym q
    heads (inr n) (inr o) = absurd (omega (arith, t.0 y n, s.0 z o))

    same : y ≡ z
    same = heads (i y (inl refl)) (j z (inl refl))

    to_of : (x : A) → In x l → (x ≡ z) ⊎ In x m → In x m
    to_of x n (inl q) = absurd (omega (arith, s.0 x n, ap key (q ∙ sym same)))
    to_of x n (inr o) = o

    to : (x : A) → In x l → In x m
    to x n = to_of x n (i x (inr n))

    from_of : (x : A) → In x m → (x ≡ y) ⊎ In x l → In x l
    from_of x n (inl q) = absurd (omega (arith, t.0 x n, ap key (q ∙ same)))
    from_of x n (inr o) = o

    from : (x : A) → In x m → In x l
    from x n = from_of x n (j x (inr n))

insert_to : {A : Type 0} (key : A → ℕ) (x y : A) (l : List A) → In x (insert key y l) → (x ≡ y) ⊎ In x l
insert_to key x y [] m = m
insert_to key x y (z ∷ l) m = go (λ n. insert_to key x y l n) (dec_lt (key z) (key y)) m
  where
    swap : (x ≡ y) ⊎ In x l → (x ≡ y) ⊎ In x (z ∷ l)
    swap (inl q) = inl q
    swap (inr n) = inr (inr n)

    go : (In x (insert key y l) → (x ≡ y) ⊎ In x l) → (d : Dec (key z < key y)) →
        In x (choose d (y ∷ z ∷ l) (z ∷ insert key y l)) → (x ≡ y) ⊎ In x (z ∷ l)
    go r (yes _) n = n
    go r (no _) (inl q) = inr (inl q)
    go r (no _) (inr n) = swap (r n)

insert_from : {A : Type 0} (key : A → ℕ) (x y : A) (l : List A) → (x ≡ y) ⊎ In x l → In x (insert key y l)
insert_from key x y [] m = m
insert_from key x y (z ∷ l) m = go (λ n. insert_from key x y l n) (dec_lt (key z) (key y)) m
  where
    go : ((x ≡ y) ⊎ In x l → In x (insert key y l)) → (d : Dec (key z < key y)) → (x ≡ y) ⊎ In x (z ∷ l) →
        In x (choose d (y ∷ z ∷ l) (z ∷ insert key y l))
    go r (yes _) n = n
    go r (no _) (inl q) = inr (r (inl q))
    go r (no _) (inr (inl q)) = inl q
    go r (no _) (inr (inr n)) = inr (r (inr n))

insert_falls : {A : Type 0} (key : A → ℕ) (y : A) (l : List A) → Falls key l → ((z : A) → In z l → key z ≢ key y) → Falls key (insert key y l)
insert_falls key y [] s n = ((λ z m. absurd m), tt)
insert_falls {A} key y (z ∷ l) s n = go (insert_falls key y l s.1 (λ w m. n w (inr m))) (dec_lt (key z) (key y))
  where
    first : key z < key y → (w : A) → In w (z ∷ l) → key w < key y
    first d w (inl q) = omega (arith, ap key q)
    first d w (inr m) = omega (arith, s.0 w m)

    rest_of : ¬ (key z < key y) → (w : A) → (w ≡ y) ⊎ In w l → key w < key z
    rest_of d w (inl q) = omega (arith, ap key q, n z (inl refl))
    rest_of d w (inr m) = s.0 w m

    go : Falls key (insert key y l) → (d : Dec (key z < key y)) → Falls key (choose d (y ∷ z ∷ l) (z ∷ insert key y l))
    go r (yes d) = (first d, s)
    go r (no d) = ((λ w m. rest_of d w (insert_to key w y l m)), r)

-- what is gathered

pub gather_to : {A : Type 0} (key : A → ℕ) (f : ℕ → Option A) (n : ℕ) (x : A) → In x (gather key f n) →
    (k : ℕ) × (k < n) × (f k ≡ some x)
gather_to key f zero x m = absurd m
gather_to {A} key f (suc n) x m = go (f n) refl (λ i. gather_to key f n x i) m
  where
    up : (k : ℕ) × (k < n) × (f k ≡ some x) → (k : ℕ) × (k < suc n) × (f k ≡ some x)
    up r = (r.0, omega (arith, r.1), r.2)

    at : (y : A) → f n ≡ some y → (In x (gather key f n) → (k : ℕ) × (k < n) × (f k ≡ some x)) →
        (x ≡ y) ⊎ In x (gather key f n) → (k : ℕ) × (k < suc n) × (f k ≡ some x)
    at y p r (inl q) = (n, omega arith, p ∙ ap some (sym q))
    at y p r (inr i) = up (r i)

    go : (o : Option A) → f n ≡ o → (In x (gather key f n) → (k : ℕ) × (k < n) × (f k ≡ some x)) →
        In x (add key o (gather key f n)) → (k : ℕ) × (k < suc n) × (f k ≡ some x)
    go none p r i = up (r i)
    go (some y) p r i = at y p r (insert_to key x y (gather key f n) i)

add_old : {A : Type 0} (key : A → ℕ) (o : Option A) (x : A) (l : List A) → In x l → In x (add key o l)
add_old key none x l m = m
add_old key (some y) x l m = insert_from key x y l (inr m)

pub gather_from : {A : Type 0} (key : A → ℕ) (f : ℕ → Option A) (n : ℕ) (x : A) (k : ℕ) → k < n → f k ≡ some x → In x (gather key f n)
gather_from key f zero x k l p = absurd (omega arith)
gather_from key f (suc n) x k l p = go (λ i. gather_from key f n x k i p) (dec_lt k n)
  where
    go : (k < n → In x (gather key f n)) → Dec (k < n) → In x (add key (f n) (gather key f n))
    go r (yes i) = add_old key (f n) x (gather key f n) (r i)
    go r (no i) =
        let q : k ≡ n = omega arith in
        subst (λ o. In x (add key o (gather key f n))) (sym p ∙ ap f q) (insert_from key x x (gather key f n) (inl refl))

pub gather_falls : {A : Type 0} (key : A → ℕ) (f : ℕ → Option A) (n : ℕ) →
    ((k l : ℕ) (y z : A) → k ≢ l → f k ≡ some y → f l ≡ some z → key y ≢ key z) → Falls key (gather key f n)
gather_falls key f zero d = tt
gather_falls {A} key f (suc n) d = go (f n) refl (gather_falls key f n d)
  where
    go : (o : Option A) → f n ≡ o → Falls key (gather key f n) → Falls key (add key o (gather key f n))
    go none p s = s
    go (some y) p s = insert_falls key y (gather key f n) s apart
      where
        apart : (z : A) → In z (gather key f n) → key z ≢ key y
        apart z m =
            let r : (k : ℕ) × (k < n) × (f k ≡ some z) = gather_to key f n z m in
            d r.0 n z y (omega (arith, r.1)) r.2 p
