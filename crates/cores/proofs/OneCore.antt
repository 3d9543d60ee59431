-- Telling one core of several changes its state by its rule, and no other core.
use Rattle.std.proofs.Common.{◌≡◌, ℕ, ◌+◌, ◌<◌, List, [], map, length, get_or, set, sym, ap, ◌∙◌, arith}
use Rattle.std.proofs.lemmas.List.{get_or-map, map-set, take-set, drop-set-lt}
use Rattle.cores.specs.Acting.{told, OthersKept}

module _ {K : Type 0} (state : K → List ℕ) (text : List ℕ) (cores : List K) (j : ℕ) where
  pub here : j < length cores → (core : K) → core ≡ get_or cores j core → get_or (map state cores) j [] ≡ state core
  here h core at = get_or-map state cores j core [] h ∙ ap state (sym at)

  pub tells : (after : List ℕ → List ℕ → ℕ → List ℕ) (number : ℕ) → j < length cores → (core : K) → core ≡ get_or cores j core → (later : K) → state later ≡ after text (state core) number →
      map state (set cores j later) ≡ told after text (map state cores) j number
  tells after number h core at later e =
      map-set state cores j later ∙ ap (set (map state cores) j) (e ∙ ap (λ s. after text s number) (sym (here h core at)))

pub others_kept : {K : Type 0} (cores : List K) (j : ℕ) (later : K) → OthersKept j cores (set cores j later)
others_kept cores j later = (take-set cores j later, drop-set-lt (j + 1) cores j later (omega arith))
