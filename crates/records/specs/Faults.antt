-- What is wrong with a log, and the numbers of refusals.
use Rattle.std.specs.Prelude.{ℕ, List, [], ◌∷◌}
use Rattle.records.specs.declared.faults.Location.{Location}
use Rattle.records.specs.declared.faults.ByteFault.{ByteFault}
use Rattle.records.specs.declared.faults.ByteFault.TheVariants.{Cut, Mark}
use Rattle.records.specs.declared.faults.RecordFault.{RecordFault}
use Rattle.records.specs.declared.faults.RecordFault.TheVariants.{Bytes, BadHead, BadArc, BadEnd}
use Rattle.records.specs.declared.faults.SessionFault.{SessionFault}
use Rattle.records.specs.declared.faults.SessionFault.TheVariants.{Read, Source}
use Rattle.records.specs.declared.faults.Refusal.{Refusal}
use Rattle.records.specs.declared.faults.Refusal.TheVariants.{BadSetting, LogFault}

-- a fault by its numbers: the layer at which it arose, the core whose log has it, the record's offset in that log, the cause
pub record Fault : Type 0 where
  pub layer : ℕ
  pub core : ℕ
  pub offset : ℕ
  pub cause : ℕ

abbrev pub fault : ℕ → Location → ℕ → Fault
fault layer p cause = record { layer = layer; core = p.core; offset = p.offset; cause = cause }

abbrev pub byte_fault : ByteFault → Fault
byte_fault (Cut p) = fault 1 p 1
byte_fault (Mark p) = fault 1 p 2

abbrev pub record_fault : RecordFault → Fault
record_fault (Bytes e) = byte_fault e
record_fault (BadHead p) = fault 2 p 3
record_fault (BadArc p) = fault 2 p 4
record_fault (BadEnd p) = fault 2 p 5

abbrev pub session_fault : SessionFault → Fault
session_fault (Read e) = record_fault e
session_fault (Source p) = fault 3 p 6

-- a refusal by its number and values: 8 bad setting; 9 log fault, with layer, core, offset and cause
abbrev pub bad_setting : List ℕ
bad_setting = 8 ∷ []

abbrev pub log_fault : Fault → List ℕ
log_fault f = 9 ∷ f.layer ∷ f.core ∷ f.offset ∷ f.cause ∷ []

abbrev pub refusal : Refusal → List ℕ
refusal BadSetting = bad_setting
refusal (LogFault e) = log_fault (session_fault e)
