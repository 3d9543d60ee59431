-- Reading word by word gives the numbers of a text.
use Rattle.std.proofs.Common.{◌≡◌, ℕ, Bool, true, false, cond, ltb, List, [], ◌∷◌, ◌++◌, length, Some, None, Option, sym, refl, ap, ◌∙◌, append_assoc, append-nil}
use Rattle.std.specs.Iterator.{AlwaysYields}
use Rattle.std.specs.List.{slice_split, onto_first}
use Rattle.listing.specs.Words.{argument}
use Rattle.bench_input.specs.Numbers.{white, onto, parts, words, with_first, each, numbers_in, numbers, after}

-- what is found once the part w is read too, and then the others
abbrev bind : Option (List ℕ) → List (List ℕ) → Option (List ℕ)
bind None ps = None
bind (Some found) ps = after found (numbers_in ps)

after_after : (xs ys : List ℕ) (o : Option (List ℕ)) → after xs (after ys o) ≡ after (xs ++ ys) o
after_after xs ys None = refl
after_after xs ys (Some zs) = ap Some (sym (append_assoc xs ys zs))

after_nil : (o : Option (List ℕ)) → after [] o ≡ o
after_nil None = refl
after_nil (Some ys) = refl

after_one : (n : ℕ) (o : Option (List ℕ)) → with_first (Some n) o ≡ after (n ∷ []) o
after_one n None = refl
after_one n (Some ys) = refl

first_part : (xs w : List ℕ) (ps : List (List ℕ)) → after xs (numbers_in (w ∷ ps)) ≡ bind (after xs (numbers_in (w ∷ []))) ps
first_part xs w ps = by_length (ltb 0 (length w))
  where
    by_number : (o : Option ℕ) → after xs (with_first o (each (words ps))) ≡ bind (after xs (with_first o (Some []))) ps
    by_number None = refl
    by_number (Some n) = ap (after xs) (after_one n _) ∙ after_after xs (n ∷ []) _

    by_length : (t : Bool) → after xs (each (cond t (w ∷ words ps) (words ps))) ≡ bind (after xs (each (cond t (w ∷ []) []))) ps
    by_length true = by_number (argument w)
    by_length false = ap (λ l. after l (numbers_in ps)) (sym (append-nil xs))

onto_same : (c : ℕ) (ps : List (List ℕ)) → onto c ps ≡ onto_first c ps
onto_same c [] = refl
onto_same c (p ∷ ps) = refl

-- a text is cut as `split` cuts it
parts_split : (bs : List ℕ) → parts bs ≡ slice_split white bs
parts_split [] = refl
parts_split (c ∷ cs) =
    ap (λ ps. cond (white c) ([] ∷ ps) (onto c ps)) (parts_split cs) ∙ ap (λ ps. cond (white c) ([] ∷ slice_split white cs) ps) (onto_same c (slice_split white cs))

-- with these numbers found, an iterator at s yields the parts that are left of the text bs
module _ {S A : Type 0} (steps : S → Option A → S → Type 0) (part : A → List ℕ) (bs : List ℕ) where
  abbrev pub ReadUpTo : S → List ℕ → Type 0
  ReadUpTo s found = (left : List (List ℕ)) × AlwaysYields steps part s left × (numbers bs ≡ after found (numbers_in left))

  pub none_read : (s : S) (found : List ℕ) → found ≡ [] → AlwaysYields steps part s (slice_split white bs) → ReadUpTo s found
  unfolding numbers
  none_read s found none yields =
      (slice_split white bs, yields, ap numbers_in (parts_split bs) ∙ sym (after_nil _) ∙ ap (λ l. after l (numbers_in (slice_split white bs))) (sym none))

  module _ (s t : S) (found : List ℕ) where
    pub word_read : (x : A) (next : List ℕ) → steps s (Some x) t → after found (numbers_in (part x ∷ [])) ≡ Some next → ReadUpTo s found → ReadUpTo t next
    word_read x next step kept (left, yields, e) = go left yields e
      where
        go : (left : List (List ℕ)) → AlwaysYields steps part s left → numbers bs ≡ after found (numbers_in left) → ReadUpTo t next
        go [] yields e = absurd (yields x t step)
        go (w ∷ ps) yields e =
            let m = yields.1 x t step in
            (ps, m.1, e ∙ first_part found w ps ∙ ap (λ v. bind (after found (numbers_in (v ∷ []))) ps) (sym m.0) ∙ ap (λ o. bind o ps) kept)

    pub word_bad : (x : A) → steps s (Some x) t → ReadUpTo s found → after found (numbers_in (part x ∷ [])) ≡ None → numbers bs ≡ None
    word_bad x step (left, yields, e) bad = go left yields e
      where
        go : (left : List (List ℕ)) → AlwaysYields steps part s left → numbers bs ≡ after found (numbers_in left) → numbers bs ≡ None
        go [] yields e = absurd (yields x t step)
        go (w ∷ ps) yields e =
            let m = yields.1 x t step in
            e ∙ first_part found w ps ∙ ap (λ v. bind (after found (numbers_in (v ∷ []))) ps) (sym m.0) ∙ ap (λ o. bind o ps) bad

    pub all_read : steps s None t → ReadUpTo s found → numbers bs ≡ Some found
    all_read step (left, yields, e) = go left yields e
      where
        go : (left : List (List ℕ)) → AlwaysYields steps part s left → numbers bs ≡ after found (numbers_in left) → numbers bs ≡ Some found
        go [] yields e = e ∙ ap Some (append-nil found)
        go (w ∷ ps) yields e = absurd (yields.0 t step)
