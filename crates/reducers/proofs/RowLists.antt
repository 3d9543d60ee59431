-- What stands in a list after a write, and what holds of each of its places.
use Rattle.std.proofs.Common.{◌≡◌, ℕ, zero, suc, ◌<◌, Bool, true, false, cond, ◌&&◌, eqb, List, length, get_or, set, replicate, sym, refl, ap, ◌∙◌, subst, inl, inr, arith}
use Rattle.std.specs.Array.{AllOfLen}
use Rattle.std.proofs.lemmas.List.{get_or-set_same, get_or-set_other, get_or_past}
use Rattle.std.proofs.lemmas.Bool.{cases_eq, cases_lt, eq-eqb, ne_eqb, cond-true, cond-false}

-- what stands at t after a write at j
pub get_d_set : {A : Type 0} (xs : List A) (j : ℕ) (x d : A) (t : ℕ) → j < length xs → get_or (set xs j x) t d ≡ cond (eqb t j) x (get_or xs t d)
get_d_set xs j x d t within =
    elim (cases_eq t j) [
      | inl e ↦ ap (λ s. get_or (set xs j x) s d) e ∙ get_or-set_same xs j x d within ∙ sym (cond-true (eqb t j) x (get_or xs t d) (eq-eqb t j e))
      | inr n ↦ get_or-set_other xs j t x d n ∙ sym (cond-false (eqb t j) x (get_or xs t d) (ne_eqb t j n))
    ]

pub cond_under : {A B : Type 0} (f : A → B) (b : Bool) (x y : A) → f (cond b x y) ≡ cond b (f x) (f y)
cond_under f true x y = refl
cond_under f false x y = refl

-- what holds of each of n elements and of the default holds of each place
pub each_place : {A : Type 0} (P Q : A → Type 0) (xs : List A) (n : ℕ) (d : A) → ((x : A) → P x → Q x) → Q d → AllOfLen P xs n → (j : ℕ) → Q (get_or xs j d)
each_place P Q xs n d f hd h j =
    elim (cases_lt j n) [
      | inl i ↦ f _ (h.at j d i)
      | inr o ↦ subst Q (sym (get_or_past xs j d (omega (arith, h.long)))) hd
    ]

pub cond_and : (p q : Bool) (x y z : ℕ) → (p ≡ true → y ≡ z) → cond p (cond q x y) z ≡ cond (q && p) x z
cond_and true true x y z f = refl
cond_and true false x y z f = f refl
cond_and false true x y z f = refl
cond_and false false x y z f = refl

pub cond_same : {A : Type 0} (b : Bool) (x y : A) → (b ≡ true → x ≡ y) → cond b x y ≡ y
cond_same true x y f = f refl
cond_same false x y f = refl

pub each_replicate : {A : Type 0} (P : A → Type 0) (x d : A) → P x → P d → (n j : ℕ) → P (get_or (replicate n x) j d)
each_replicate P x d hx hd zero j = hd
each_replicate P x d hx hd (suc n) zero = hx
each_replicate P x d hx hd (suc n) (suc j) = each_replicate P x d hx hd n j
