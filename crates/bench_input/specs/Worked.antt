-- The text of a worked run, and texts that describe no session.
use Rattle.std.specs.Prelude.{◌≡◌, [], ◌∷◌, Some, None, codes}
use Rattle.bench_input.specs.declared.input.Kind.TheVariants.{Script}
use Rattle.bench_input.specs.declared.input.Reduction.TheVariants.{Exact}
use Rattle.bench_input.specs.Described.{described}

abbrev pub WorkedInput : Type 0
WorkedInput =
    described (codes "0 2 3 2 8\n2 0 0 7 255 0 0 0 1 0 0 0 2 1 0 9 255 0 0 0 1 1 0 0 2 0 0 4 255 0 0 0\n0 2 5\n5\n0 1 1 2 2\n")
    ≡ Some (record {
      kind = Script;
      reduction = Exact;
      cores = 3;
      cells = 2;
      text = 2 ∷ 0 ∷ 0 ∷ 7 ∷ 255 ∷ 0 ∷ 0 ∷ 0 ∷ 1 ∷ 0 ∷ 0 ∷ 0 ∷ 2 ∷ 1 ∷ 0 ∷ 9 ∷ 255 ∷ 0 ∷ 0 ∷ 0 ∷ 1 ∷ 1 ∷ 0 ∷ 0 ∷ 2 ∷ 0 ∷ 0 ∷ 4 ∷ 255 ∷ 0 ∷ 0 ∷ 0 ∷ [];
      starts = 0 ∷ 2 ∷ 5 ∷ [];
      turns = 0 ∷ 1 ∷ 1 ∷ 2 ∷ 2 ∷ [];
    })

-- no number, one too few, one too many, one too large, a sign, an item of more than a byte, no core
abbrev pub WorkedBad : Type 0
WorkedBad =
    (described [] ≡ None)
    × (described (codes "0 0 1 1 0 0") ≡ None)
    × (described (codes "0 0 1 1 0 0 0 0") ≡ None)
    × (described (codes "0 0 1 1 0 65536 0") ≡ None)
    × (described (codes "0 0 1 1 0 +1 0") ≡ None)
    × (described (codes "0 0 1 1 1 0 0 0 256 0 0") ≡ None)
    × (described (codes "0 0 0 1 0 0") ≡ None)
