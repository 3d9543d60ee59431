-- The record that comes next in a log.
use Rattle.std.specs.Prelude.{ℕ, List, Some, None, Ok, Err, Option, Result}
use Rattle.records.specs.declared.faults.RecordFault.{RecordFault}
use Rattle.records.specs.Faults.{Fault, record_fault}
use Rattle.records.specs.Format.{entry, record_numbers}
use Rattle.listing.specs.declared.lines.RecordLine.{RecordLine}

-- a record of a core's log, by its mark and fields, and its offset there
pub data Told : Type 0 where
  line_of : (core offset : ℕ) → List ℕ → Told

abbrev pub told_as : Result (Option RecordLine) RecordFault → Result (Option Told) Fault
told_as (Ok (Some x)) = Ok (Some (line_of x.core x.offset (record_numbers (entry x.«record»))))
told_as (Ok None) = Ok None
told_as (Err e) = Err (record_fault e)

abbrev pub told_of : ℕ → ℕ → Result (Option (List ℕ)) Fault → Result (Option Told) Fault
told_of j at (Ok (Some r)) = Ok (Some (line_of j at r))
told_of j at (Ok None) = Ok None
told_of j at (Err f) = Err f
