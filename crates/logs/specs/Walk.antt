-- Reading a log record by record.
use Rattle.std.specs.Prelude.{ℕ, zero, suc, List, [], ◌∷◌, length, Some, None, Ok, Err, Result}
use Rattle.records.specs.declared.faults.SessionFault.{SessionFault}
use Rattle.records.specs.declared.reading.State.{State}
use Rattle.records.specs.declared.reading.State.TheVariants.{Before}
use Rattle.records.specs.declared.settings.Heading.{Heading}
use Rattle.records.specs.Faults.{Fault, session_fault}
use Rattle.records.specs.Format.{Entry}
use Rattle.records.specs.Reading.{Sight, View, moved, seen, held, instructions_in}

-- what reading on gives: the records, and the instructions that the end record gives, or the first fault
pub record Reading : Type 0 where
  pub entries : List Entry
  pub verdict : Result ℕ Fault

abbrev pub prefixed : Entry → Reading → Reading
prefixed e r = record { entries = e ∷ r.entries; verdict = r.verdict }

abbrev pub stopped : Result ℕ Fault → Reading
stopped v = record { entries = []; verdict = v }

abbrev pub told : Sight → State → (Entry → State → Reading) → Reading
told (Ok (Some (e, t))) s on = on e t
told (Ok None) s on = stopped (Ok (instructions_in s))
told (Err f) s on = stopped (Err f)

-- what is seen from where a reader stands on, at most as many records as the number says
abbrev pub walk : (View → Sight) → ℕ → View → Reading
walk look zero v = stopped (Ok (instructions_in v.state))
walk look (suc fuel) v = told (look v) v.state (λ e t. prefixed e (walk look fuel (moved v e t)))

abbrev pub look : View → Sight
look v = seen v.heading v.log v.cursor v.state

abbrev pub look_held : List ℕ → View → Sight
look_held counts v = held counts v.heading v.log v.cursor v.state

-- from where a reader stands on, to the end or the first fault; no log has as many records as bytes
unfoldable pub reading_from : View → Reading
reading_from v = walk look (suc (length v.log)) v

-- the same, each arc's source count held to the instructions of its source core
unfoldable pub holding_from : List ℕ → View → Reading
holding_from counts v = walk (look_held counts) (suc (length v.log)) v

-- a reader before the head of a log
abbrev pub at_front : Heading → List ℕ → View
at_front g log = record { heading = g; log = log; cursor = 0; state = Before }

-- what the calls answer, by the meaning of the code's faults
abbrev pub held_as : Result ℕ SessionFault → Result ℕ Fault
held_as (Ok n) = Ok n
held_as (Err e) = Err (session_fault e)
