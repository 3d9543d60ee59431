-- The recorder's sizes, counts and places, and which turns are refused.
use Rattle.std.specs.Prelude.{ℕ, ◌+◌, ◌-◌, ◌*◌, Bool, true, false, cond, List, replicate, Some, None, Option, ◌==◌, nat_lt, slice_index_or, slice_set}
use Rattle.cores.specs.Acting.{within}
use Rattle.cores.specs.declared.interface.Request.{Request}
use Rattle.cores.specs.declared.interface.Request.TheVariants.{Halt, Local, Read, Write, Exchange}
use Rattle.records.specs.Settings.{free_behind}
use Rattle.records.specs.declared.settings.Sizes.{Sizes}
use Rattle.reducers.specs.declared.interface.AccessKind.TheVariants.{Read as reads, Write as writes}
use Rattle.recorder.specs.declared.ledger.Ledger.{Ledger}
use Rattle.recorder.specs.declared.ledger.Log.{Log}
use Rattle.recorder.specs.declared.rules.Refusal.{Refusal}
use Rattle.recorder.specs.declared.rules.Refusal.TheVariants.{NoSuchCore, Halted, CountSpent, NoSuchCell, LogFull, BadSetting}
use Rattle.recorder.specs.declared.rules.Touch.{Touch}
use Rattle.recorder.specs.Sound.{no_log}

-- what a ledger holds, without its proof
pub record Book : Type 0 where
  pub sizes : Sizes
  pub logs : List Log
  pub position : ℕ

abbrev pub book : Ledger → Book
book l = record { sizes = l.sizes; logs = l.logs; position = l.position }

abbrev pub number_of : Refusal → ℕ
number_of NoSuchCore = 1
number_of Halted = 2
number_of CountSpent = 3
number_of NoSuchCell = 4
number_of LogFull = 5
number_of BadSetting = 8

-- 0 where nothing is refused
abbrev pub code : Option Refusal → ℕ
code None = 0
code (Some r) = number_of r

abbrev pub halts : Request → Bool
halts Halt = true
halts Local = false
halts (Read cell) = false
halts (Write cell number) = false
halts (Exchange cell number) = false

-- the cell that a request reads or writes; an exchange counts as a write
abbrev pub touched : Request → Option Touch
touched Halt = None
touched Local = None
touched (Read cell) = Some (record { cell = cell; kind = reads })
touched (Write cell number) = Some (record { cell = cell; kind = writes })
touched (Exchange cell number) = Some (record { cell = cell; kind = writes })

abbrev pub log_in : Book → ℕ → Log
log_in b j = slice_index_or b.logs j no_log

-- an access, with fewer bytes behind the end record than one arc from each other core takes
abbrev pub full : Book → ℕ → Option Touch → Bool
full b j None = false
full b j (Some t) = nat_lt (free_behind b.sizes (log_in b j).end) (7 * (b.sizes.cores - 1))

-- halted, count spent, no such cell, log full, in this order
abbrev pub barred : Book → ℕ → Request → ℕ
barred b j request =
    cond (halts request) 2
    (cond ((log_in b j).instructions == 65535) 3
    (cond (within request b.sizes.cells) (cond (full b j (touched request)) 5 0) 4))

-- one more instruction of core j
abbrev pub counted_in : Book → ℕ → ℕ → ℕ → Book
counted_in b j arcs end = record {
  sizes = b.sizes;
  logs = slice_set b.logs j (record { instructions = (log_in b j).instructions + 1; arcs = arcs; end = end });
  position = b.position + 1;
}

-- no instruction yet: the end record stands behind the head
abbrev pub started : Sizes → Book
started z = record { sizes = z; logs = replicate 4 (record { instructions = 0; arcs = 0; end = 6 }); position = 0 }
