-- The records of a log and their bytes.
use Rattle.std.specs.Prelude.{ℕ, ◌+◌, ◌/◌, ◌%◌, List, [], ◌∷◌, ◌++◌, length, take, drop}
use Rattle.records.specs.declared.format.Record.{Record}
use Rattle.records.specs.declared.format.Record.TheVariants.{Head, Arc, End}

-- an arc in the log of its target core: from instruction `count` of core `source` to this core's instruction `target`
pub record LogArc : Type 0 where
  pub source : ℕ
  pub count : ℕ
  pub target : ℕ

-- what a record says
pub data Entry : Type 0 where
  head : (core cores cells : ℕ) → Entry
  arc : LogArc → Entry
  end : (instructions arcs : ℕ) → Entry

abbrev pub entry : Record → Entry
entry (Head h) = head h.core h.cores h.cells
entry (Arc a) = arc (record { source = a.source.core; count = a.source.count; target = a.target })
entry (End instructions arcs) = end instructions arcs

-- a count in two bytes, high byte first
abbrev pub two_bytes : ℕ → List ℕ
two_bytes n = n / 256 ∷ n % 256 ∷ []

-- the bytes of a record: its mark, then its fields
abbrev pub bytes_of : Entry → List ℕ
bytes_of (head core cores cells) = 0x48 ∷ 0x43 ∷ core ∷ cores ∷ two_bytes cells
bytes_of (arc a) = 0x41 ∷ 0x52 ∷ a.source ∷ (two_bytes a.count ++ two_bytes a.target)
bytes_of (end instructions arcs) = 0x45 ∷ 0x44 ∷ (two_bytes instructions ++ two_bytes arcs)

-- a record by its mark and its fields
abbrev pub record_numbers : Entry → List ℕ
record_numbers (head core cores cells) = 0x48 ∷ 0x43 ∷ core ∷ cores ∷ cells ∷ []
record_numbers (arc a) = 0x41 ∷ 0x52 ∷ a.source ∷ a.count ∷ a.target ∷ []
record_numbers (end instructions arcs) = 0x45 ∷ 0x44 ∷ instructions ∷ arcs ∷ []

-- how many bytes an end record takes
abbrev pub end_size : ℕ
end_size = 6

-- the bytes of records, one after another
abbrev pub written : List Entry → List ℕ
written [] = []
written (e ∷ more) = bytes_of e ++ written more

-- the bytes xs with bs in the place of those from `at` on
abbrev pub splice : ℕ → List ℕ → List ℕ → List ℕ
splice at bs xs = take at xs ++ (bs ++ drop (at + length bs) xs)
