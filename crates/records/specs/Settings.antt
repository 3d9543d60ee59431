-- The sizes of a session, and where its logs stand in a store.
use Rattle.std.specs.Prelude.{◌≡◌, ℕ, ◌+◌, ◌-◌, ◌*◌, Bool, cond, ◌&&◌, ◌||◌, List, take, drop, Some, None, Option, ◌==◌, nat_le}
use Rattle.records.specs.declared.settings.Sizes.{Sizes}
use Rattle.records.specs.declared.settings.Heading.{Heading}
use Rattle.records.specs.Format.{end_size}

-- the least bytes of a log that is opened, and of one that is begun
abbrev pub least_opened : ℕ
least_opened = 12

abbrev pub least_begun : ℕ
least_begun = 12

-- 1 to 4 cores, 1 to 256 cells, the least to 16,384 bytes a log, and room for all logs in so many bytes
abbrev pub fits_from : ℕ → ℕ → Sizes → Bool
fits_from least bytes z =
    nat_le 1 z.cores && (nat_le z.cores 4 && (nat_le 1 z.cells && (nat_le z.cells 256
    && (nat_le least z.log_bytes && (nat_le z.log_bytes 16384 && nat_le (z.cores * z.log_bytes) bytes)))))

abbrev pub fits : ℕ → Sizes → Bool
fits bytes z = fits_from least_opened bytes z

-- the sizes before any session, which fit nothing
abbrev pub no_sizes : Sizes
no_sizes = record { cores = 0; cells = 0; log_bytes = 0 }

-- they fit, and so many cores and cells are enough for them
abbrev pub settled_from : ℕ → Sizes → ℕ → ℕ → ℕ → Bool
settled_from least z cores cells bytes = fits_from least bytes z && (nat_le z.cores cores && nat_le z.cells cells)

abbrev pub settled : Sizes → ℕ → ℕ → ℕ → Bool
settled z cores cells bytes = settled_from least_opened z cores cells bytes

-- sizes before any session, or in range: they fit a store of just their bytes
abbrev pub none_or_in_range : Sizes → Bool
none_or_in_range z = (z.cores == 0) || fits (z.cores * z.log_bytes) z

-- sizes that passed a test, or none
abbrev pub passed_by : Bool → Sizes → Option Sizes
passed_by test z = cond test (Some z) None

-- the same for a recording to begin
abbrev pub can_begin : Sizes → ℕ → ℕ → ℕ → Bool
can_begin z cores cells bytes = settled_from least_begun z cores cells bytes

-- core j's log
abbrev pub log_of : List ℕ → Sizes → ℕ → List ℕ
log_of store z j = take z.log_bytes (drop (j * z.log_bytes) store)

-- the bytes of a log behind an end record at an offset
abbrev pub free_behind : Sizes → ℕ → ℕ
free_behind z end = z.log_bytes - (end + end_size)

-- what core j's head must say
abbrev pub heading_of : Sizes → ℕ → Heading
heading_of z j = record { core = j; cores = z.cores; cells = z.cells }

-- cores and cells beyond the sizes are the same
abbrev pub SurplusKept : {K : Type 0} → Sizes → List K → List K → List ℕ → List ℕ → Type 0
SurplusKept z cores later cells cells' = (drop z.cores later ≡ drop z.cores cores) × (drop z.cells cells' ≡ drop z.cells cells)
