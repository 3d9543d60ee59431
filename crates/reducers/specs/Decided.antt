-- Reducers whose bounds leave them one choice.
use Rattle.std.specs.Prelude.{◌≡◌}
use Rattle.reducers.specs.Numbers.{Numbers, Meets, zeros}

-- whatever meets a bound is what F makes of it
abbrev pub Decides : Meets → (Numbers → Numbers) → Type 0
Decides meets F = (n b : Numbers) → meets n b → n ≡ F b

-- what two reducers make of a bound: exact the bound itself, keep-all 0; pairwise makes `known_only` of it
abbrev pub exactly : Numbers → Numbers
exactly b = b

abbrev pub nothing : Numbers → Numbers
nothing b = zeros
