-- Two texts written one after the other stand behind what was there.
use Rattle.std.proofs.Common.{◌≡◌, ℕ, List, ◌++◌, ap, ◌∙◌, append_assoc}

pub in_turn : (s₀ s₁ s₂ a b : List ℕ) → s₁ ≡ s₀ ++ a → s₂ ≡ s₁ ++ b → s₂ ≡ s₀ ++ (a ++ b)
in_turn s₀ s₁ s₂ a b p q = q ∙ ap (λ l. l ++ b) p ∙ append_assoc s₀ a b
