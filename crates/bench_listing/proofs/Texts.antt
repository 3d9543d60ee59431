-- Texts written one after another, and lines that are written word by word.
use Rattle.std.proofs.Common.{◌≡◌, ℕ, ◌+◌, ◌<◌, List, [], ◌∷◌, ◌++◌, map, length, get_or, take, decimal, sym, refl, ap, ◌∙◌, append_assoc, append-nil}
use Rattle.std.proofs.lemmas.List.{take_more}
use Rattle.bench_listing.specs.Lines.{spaced, joined, text_of}

-- one text after another
pub in_turn : (s₀ s₁ s₂ a b : List ℕ) → s₁ ≡ s₀ ++ a → s₂ ≡ s₁ ++ b → s₂ ≡ s₀ ++ (a ++ b)
in_turn s₀ s₁ s₂ a b p q = q ∙ ap (λ l. l ++ b) p ∙ append_assoc s₀ a b

pub text_append : (xs ys : List (List (List ℕ))) → text_of (xs ++ ys) ≡ text_of xs ++ text_of ys
text_append [] ys = refl
text_append (line ∷ xs) ys =
    ap (λ l. joined line ++ (10 ∷ l)) (text_append xs ys) ∙ sym (append_assoc (joined line) (10 ∷ text_of xs) (text_of ys))

spaced_more : (xs : List ℕ) (n : ℕ) → spaced (map decimal (xs ++ (n ∷ []))) ≡ spaced (map decimal xs) ++ (32 ∷ decimal n)
spaced_more [] n = ap (λ l. 32 ∷ l) (append-nil (decimal n))
spaced_more (x ∷ xs) n = ap (λ l. 32 ∷ (decimal x ++ l)) (spaced_more xs n) ∙ ap (λ l. 32 ∷ l) (sym (append_assoc (decimal x) (spaced (map decimal xs)) (32 ∷ decimal n)))

-- a line of a word and numbers, with one number more
pub number_more : (word xs : List ℕ) (i d : ℕ) → i < length xs →
    joined (word ∷ map decimal (take i xs)) ++ (32 ∷ decimal (get_or xs i d)) ≡ joined (word ∷ map decimal (take (i + 1) xs))
number_more word xs i d lt =
    append_assoc word (spaced (map decimal (take i xs))) (32 ∷ decimal (get_or xs i d))
    ∙ ap (λ l. word ++ l) (sym (spaced_more (take i xs) (get_or xs i d)) ∙ ap (λ ns. spaced (map decimal ns)) (sym (take_more xs i d lt)))
