-- What the numbers of each reducer are.
use Rattle.std.specs.Prelude.{◌≡◌, ℕ, List, [], get_or, slice_index, slice_index_or, slice_set}
use Rattle.reducers.specs.declared.interface.AccessKind.{AccessKind}
use Rattle.reducers.specs.declared.interface.AccessKind.TheVariants.{Read, Write}
use Rattle.reducers.specs.Numbers.{Numbers}
use Rattle.reducers.specs.declared.rows.Row.{Row}
use Rattle.reducers.specs.declared.rows.Stamps.{Stamps}
use Rattle.reducers.specs.declared.exact.Exact.{Exact}
use Rattle.reducers.specs.declared.pairwise.Pairwise.{Pairwise}

abbrev pub no_row : Row
no_row = record { at = [] }

abbrev pub no_stamps : Stamps
no_stamps = record { written = no_row; read = [] }

abbrev pub row : List Row → ℕ → ℕ → ℕ
row rows j k = slice_index (get_or rows j no_row).at k

abbrev pub exact_numbers : Exact → Numbers
exact_numbers e = record {
  known = row e.known.rows;
  written = λ c k. slice_index (get_or e.cells c no_stamps).written.at k;
  read = λ i c k. row (get_or e.cells c no_stamps).read i k;
}

abbrev pub pairwise_numbers : Pairwise → Numbers
pairwise_numbers p = record { known = row p.known.rows; written = λ _ _. 0; read = λ _ _ _. 0 }

-- the known numbers of a bound, and no stamp
abbrev pub known_only : Numbers → Numbers
known_only b = record { known = b.known; written = λ _ _. 0; read = λ _ _ _. 0 }

-- the same, number by number
pub record KnownOnly (n b : Numbers) : Type 0 where
  pub known_same : (j i : ℕ) → n.known j i ≡ b.known j i
  pub no_written : (c k : ℕ) → n.written c k ≡ 0
  pub no_read : (i c k : ℕ) → n.read i c k ≡ 0

abbrev pub stamp_in : Stamps → ℕ → AccessKind → Row
stamp_in s i Write = s.written
stamp_in s i Read = slice_index_or s.read i no_row

abbrev pub noted_in : Stamps → ℕ → AccessKind → Row → Stamps
noted_in s j Write row = record { written = row; read = s.read }
noted_in s j Read row = record { written = s.written; read = slice_set s.read j row }
