-- A begin that is refused, and one that is not, leave what `begun` says.
use Rattle.std.proofs.Common.{◌≡◌, ℕ, true, false, List, [], ◌∷◌, length, replicate, sym, ◌∙◌}
use Rattle.std.proofs.lemmas.Bool.{cond-true, cond-false}
use Rattle.accesses.specs.Histories.{untouched}
use Rattle.accesses.specs.declared.history.CellHistory.{CellHistory}
use Rattle.records.specs.declared.settings.Sizes.{Sizes}
use Rattle.reducers.specs.Numbers.{Numbers, zeros}
use Rattle.recorder.specs.Refusals.{Book, started}
use Rattle.recorder.specs.Turns.{Tape, Begun, begun, headed_from}
use Rattle.records.specs.Settings.{can_begin}

module _ (z : Sizes) (cores cells : ℕ) (t : Tape) where
  pub begun_refused : can_begin z cores cells (length t.store) ≡ false → ◌≡◌ {A = Begun} (record { says = 8 ∷ []; leaves = t }) (begun z cores cells t)
  unfolding begun
  begun_refused e = sym (cond-false _ _ _ e)

  pub begun_done : (store : List ℕ) (b : Book) (history : List CellHistory) (n : Numbers) →
      can_begin z cores cells (length t.store) ≡ true → store ≡ headed_from z z.cores 0 t.store → b ≡ started z → history ≡ replicate 256 untouched → n ≡ zeros →
      ◌≡◌ {A = Begun} (record { says = 0 ∷ []; leaves = record { store = store; book = b; history = history; numbers = n } }) (begun z cores cells t)
  unfolding begun
  begun_done store b history n e p q r u =
      (λ i. record { says = 0 ∷ []; leaves = record { store = p i; book = q i; history = r i; numbers = u i } }) ∙ sym (cond-true _ _ _ e)
