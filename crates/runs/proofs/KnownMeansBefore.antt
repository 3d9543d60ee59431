-- The exact reducer's known numbers say what is before some instruction of a core.
use Rattle.std.proofs.Common.{◌≡◌, ℕ, ◌≤◌, [], ◌∷◌, refl, ap, ◌∙◌, subst, inl, inr, arith}
use Rattle.runs.specs.Runs.{Before, Instr, Run, ev, local}
use Rattle.runs.specs.Theorems.{KnownMeansBefore}
use Rattle.runs.proofs.WorkingOrder.{Pre, Bef, Upto, same, bef_right, pre_own, pre_down, dep_idle}
use Rattle.runs.proofs.Remembered.{Split, pre_split, placed_core}
use Rattle.runs.proofs.ExactNumbers.{kept}
use Rattle.runs.proofs.OrderAsClosure.{before_to, before_from}

bef_some : (h : Run) (x y : Instr) → Bef h x y → 1 ≤ y.count
bef_some [] x y b = absurd b
bef_some (e ∷ h) x y (inl b) = bef_some h x y b
bef_some (e ∷ h) x y (inr (q, _)) = omega (arith, ap (λ z. z.count) q)

pub known_means_before : KnownMeansBefore
known_means_before r N L rec j x n o = ((λ l. to (pre_split r (ev j local) x (((kept rec).knows j x n o).0 l))), λ b. ((kept rec).knows j x n o).1 (from b))
  where
    at : (s : Split r (ev j local) x) → s.inst.core ≡ j → Upto r x s.inst → (b : ℕ) × Before r x (record { core = j; count = b })
    at s q (inl p) = absurd (n (ap (λ z. z.core) p ∙ q))
    at s q (inr b) = (s.inst.count, before_from r x _ (subst (λ z. Bef r x z) (same s.inst _ q refl) b))

    to : Split r (ev j local) x → (b : ℕ) × Before r x (record { core = j; count = b })
    to s = at s (placed_core r s.position s.inst s.event s.placed ∙ dep_idle s.event (ev j local) s.dep) s.upto

    from : (b : ℕ) × Before r x (record { core = j; count = b }) → Pre r (ev j local) x
    from p =
        let b : Bef r x (record { core = j; count = p.0 }) = before_to r p.1 in
        pre_down r (ev j local) x _ b (pre_own r (ev j local) _ (bef_some r x _ b) (bef_right r x _ b) refl)
