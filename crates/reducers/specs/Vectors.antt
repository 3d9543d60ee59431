-- What a reducer that meets every bound with equality knows after some calls, the newest first.
use Rattle.std.specs.Prelude.{◌≡◌, ℕ, ◌+◌, true, false, List, [], ◌∷◌}
use Rattle.reducers.specs.Calls.{Call, takes, notes, largest, most}
use Rattle.reducers.specs.Numbers.{knows}
use Rattle.reducers.specs.declared.interface.AccessKind.TheVariants.{Read, Write}

-- i:a is known to j, and i:(a + 1) is not
abbrev KnowsUpTo : List Call → ℕ → ℕ → ℕ → Type 0
KnowsUpTo calls i a j = (knows (most calls) i a j ≡ true) × (knows (most calls) i (a + 1) j ≡ false)

-- core 0 takes 1:3 and then writes cell 5
abbrev told : List Call
told = notes 0 5 Write ∷ takes 1 3 9 Write 0 ∷ []

-- core 2 takes 0:5 and reads cell 3, and core 1 writes it
abbrev read_then_written : List Call
read_then_written = notes 1 3 Write ∷ notes 2 3 Read ∷ takes 0 5 1 Write 2 ∷ []

pub record Knowing : Type 0 where
  -- the write's stamp speaks of core 1, which takes the arc 0:2 from it
  pub of_the_target : KnowsUpTo (takes 0 2 5 Write 1 ∷ told) 1 3 1 × KnowsUpTo (takes 0 2 5 Write 1 ∷ told) 0 2 1
  -- an arc from a core to itself
  pub of_the_target_alone : KnowsUpTo (takes 2 4 9 Write 2 ∷ []) 2 4 2
  -- of the source core the count is taken, whatever the stamp says of that core
  pub count_for_stamp : KnowsUpTo (takes 0 2 5 Write 1 ∷ notes 0 5 Write ∷ takes 0 7 9 Write 0 ∷ []) 0 2 1
  -- the larger number stands
  pub larger : KnowsUpTo (takes 0 2 9 Write 1 ∷ takes 0 6 9 Write 1 ∷ []) 0 6 1
  -- a write leaves the stamps of the reads before it, and has its own
  pub read_stands : KnowsUpTo (takes 2 6 3 Read 3 ∷ read_then_written) 0 5 3 × KnowsUpTo (takes 2 6 3 Read 3 ∷ read_then_written) 2 6 3
  pub write_stands : KnowsUpTo (takes 1 6 3 Write 3 ∷ read_then_written) 0 0 3 × KnowsUpTo (takes 1 6 3 Write 3 ∷ read_then_written) 1 6 3
  -- a read leaves the stamp of the write, and of the reads of other cores and cells
  pub write_left : KnowsUpTo (takes 0 2 5 Write 3 ∷ notes 2 5 Read ∷ told) 1 3 3
  pub read_left : KnowsUpTo (takes 2 6 3 Read 3 ∷ notes 0 3 Read ∷ notes 2 4 Read ∷ takes 0 9 9 Write 2 ∷ read_then_written) 0 5 3
  -- count 0 is known to each core of each, and nothing else at first
  pub at_first : KnowsUpTo [] 3 0 2 × KnowsUpTo [] 2 0 2
  -- of no core 4 and to none
  pub from_4 : knows (most told) 4 0 2 ≡ false
  pub to_4 : knows (most told) 1 0 4 ≡ false
  -- the last core and cell count, and none beyond
  pub last_ones : KnowsUpTo (takes 3 5 255 Write 0 ∷ notes 3 255 Write ∷ takes 1 8 255 Write 3 ∷ []) 1 8 0
  pub takes_from_4 : most (takes 4 5 9 Write 1 ∷ told) ≡ most told
  pub takes_to_4 : most (takes 0 5 9 Write 4 ∷ told) ≡ most told
  pub takes_256 : most (takes 0 5 256 Write 1 ∷ told) ≡ most told
  pub notes_4 : most (notes 4 9 Write ∷ told) ≡ most told
  pub notes_256 : most (notes 0 256 Write ∷ told) ≡ most told
  -- pairwise: of the same calls the largest count, and nothing of what the source was told
  pub pairwise : (largest (takes 0 2 5 Write 1 ∷ told) 1 0 ≡ 2) × (largest (takes 0 2 5 Write 1 ∷ told) 1 1 ≡ 0)
