-- The numbers of a reducer that forgets: the count of the last arc taken to a core, for its source core, and no stamps.
use Rattle.std.specs.Prelude.{◌≡◌, cond, [], ◌∷◌, ◌==◌, slice_index_or}
use Rattle.reducers.specs.Numbers.{Numbers}
use Rattle.records.specs.declared.format.Source.{Source}
use Rattle.reducer_tests.specs.declared.forgetful.Forgetful.{Forgetful}

abbrev pub nothing : Source
nothing = record { core = 0; count = 0 }

abbrev pub forgetful_numbers : Forgetful → Numbers
forgetful_numbers f = record {
  known = λ j i. cond ((slice_index_or f.latest j nothing).core == i) (slice_index_or f.latest j nothing).count 0;
  written = λ _ _. 0;
  read = λ _ _ _. 0;
}

-- its numbers are not all 0
abbrev pub KnowsSomething : Type 0
KnowsSomething = (forgetful_numbers (record { latest = nothing ∷ record { core = 3; count = 7 } ∷ nothing ∷ nothing ∷ [] })).known 1 3 ≡ 7
