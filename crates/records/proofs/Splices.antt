-- Bytes put into a store in the place of others: what is put stands there, and the rest stays.
use Rattle.std.proofs.Common.{◌≡◌, ℕ, suc, ◌+◌, ◌-◌, ◌≤◌, List, [], ◌∷◌, ◌++◌, length, take, drop, sym, refl, ap, ◌∙◌, arith}
use Rattle.std.proofs.lemmas.List.{drop-drop, drop_at, take_at, append_assoc, length-append, length-take-le, length-drop, take-append-le, drop-append-le, take-append-drop, take-take, drop-take}
use Rattle.records.specs.Format.{splice}

-- nothing put anywhere
pub splice_none : (at : ℕ) (xs : List ℕ) → splice at [] xs ≡ xs
splice_none at xs = let k : at + 0 ≡ at = omega arith in rw k (take-append-drop at xs)

-- one after another
pub splice_splice : (at : ℕ) (bs cs xs : List ℕ) → at ≤ length xs → splice (at + length bs) cs (splice at bs xs) ≡ splice at (bs ++ cs) xs
splice_splice at bs cs xs h =
    let F = take at xs ++ bs in
    let X = drop (at + length bs) xs in
    let f : length F ≡ at + length bs = length-append (take at xs) bs ∙ ap (λ n. n + length bs) (length-take-le at xs h) in
    let k : at + length (bs ++ cs) ≡ at + length bs + length cs = omega (arith, length-append bs cs) in
    ap (splice (at + length bs) cs) (sym (append_assoc (take at xs) bs X))
    ∙ ap (λ y. y ++ (cs ++ drop (at + length bs + length cs) (F ++ X))) (take_at F X (at + length bs) f)
    ∙ ap (λ y. F ++ (cs ++ y)) (sym (drop-drop (length cs) (at + length bs) (F ++ X)) ∙ ap (drop (length cs)) (drop_at F X (at + length bs) f) ∙ drop-drop (length cs) (at + length bs) xs ∙ ap (λ n. drop n xs) (sym k))
    ∙ append_assoc (take at xs) bs (cs ++ drop (at + length (bs ++ cs)) xs)
    ∙ ap (λ y. take at xs ++ y) (sym (append_assoc bs cs (drop (at + length (bs ++ cs)) xs)))

pub length_splice : (at : ℕ) (bs xs : List ℕ) → at + length bs ≤ length xs → length (splice at bs xs) ≡ length xs
length_splice at bs xs h =
    let a = length-append (take at xs) (bs ++ drop (at + length bs) xs) in
    let b = length-append bs (drop (at + length bs) xs) in
    let c = length-take-le at xs (omega arith) in
    let d = length-drop (at + length bs) xs in
    omega (arith, a, b, c, d)

-- a part in front
pub take_front : (n at : ℕ) (bs xs : List ℕ) → n ≤ at → at ≤ length xs → take n (splice at bs xs) ≡ take n xs
take_front n at bs xs h k =
    let l : n ≤ length (take at xs) = omega (arith, length-take-le at xs k) in
    take-append-le n (take at xs) (bs ++ drop (at + length bs) xs) l ∙ take-take n at xs h

-- a part behind
pub drop_behind : (n at : ℕ) (bs xs : List ℕ) → at + length bs ≤ n → at ≤ length xs → drop n (splice at bs xs) ≡ drop n xs
drop_behind n at bs xs h k =
    let F = take at xs ++ bs in
    let X = drop (at + length bs) xs in
    let f : length F ≡ at + length bs = length-append (take at xs) bs ∙ ap (λ z. z + length bs) (length-take-le at xs k) in
    let e : n ≡ at + length bs + (n - (at + length bs)) = omega arith in
    ap (λ z. drop n z) (sym (append_assoc (take at xs) bs X))
    ∙ ap (λ z. drop z (F ++ X)) e
    ∙ sym (drop-drop (n - (at + length bs)) (at + length bs) (F ++ X))
    ∙ ap (drop (n - (at + length bs))) (drop_at F X (at + length bs) f)
    ∙ drop-drop (n - (at + length bs)) (at + length bs) xs
    ∙ ap (λ z. drop z xs) (sym e)

-- from n on
pub drop_within : (n e : ℕ) (bs xs : List ℕ) → n + e ≤ length xs → drop n (splice (n + e) bs xs) ≡ splice e bs (drop n xs)
drop_within n e bs xs h =
    let l : n ≤ length (take (n + e) xs) = omega (arith, length-take-le (n + e) xs h) in
    let k : n + e + length bs ≡ n + (e + length bs) = omega arith in
    drop-append-le n (take (n + e) xs) (bs ++ drop (n + e + length bs) xs) l
    ∙ ap (λ z. z ++ (bs ++ drop (n + e + length bs) xs)) (drop-take n e xs)
    ∙ ap (λ z. take e (drop n xs) ++ (bs ++ drop z xs)) k
    ∙ ap (λ z. take e (drop n xs) ++ (bs ++ z)) (sym (drop-drop (e + length bs) n xs))

-- up to n
pub take_within : (n e : ℕ) (bs xs : List ℕ) → e + length bs ≤ n → n ≤ length xs → take n (splice e bs xs) ≡ splice e bs (take n xs)
take_within n e bs xs h k =
    let m = n - (e + length bs) in
    let F = take e xs ++ bs in
    let X = drop (e + length bs) xs in
    let f : length F ≡ e + length bs = length-append (take e xs) bs ∙ ap (λ z. z + length bs) (length-take-le e xs (omega arith)) in
    let is : n ≡ e + length bs + m = omega arith in
    ap (take n) (sym (append_assoc (take e xs) bs X))
    ∙ take_past F X n m (is ∙ ap (λ z. z + m) (sym f))
    ∙ append_assoc (take e xs) bs (take m X)
    ∙ ap (λ z. z ++ (bs ++ take m X)) (sym (take-take e n xs (omega arith)))
    ∙ ap (λ z. take e (take n xs) ++ (bs ++ z)) (sym (drop-take (e + length bs) m xs) ∙ ap (λ z. drop (e + length bs) (take z xs)) (sym is))
  where
    take_past : (F X : List ℕ) (n m : ℕ) → n ≡ length F + m → take n (F ++ X) ≡ F ++ take m X
    take_past [] X n m q = let z : n ≡ m = omega arith in ap (λ i. take i X) z
    take_past (x ∷ F) X n m q = let z : n ≡ suc (length F + m) = omega arith in ap (λ i. take i (x ∷ (F ++ X))) z ∙ ap (λ zs. x ∷ zs) (take_past F X (length F + m) m refl)
