-- A log's records, listed one by one.
use Rattle.std.proofs.Common.{◌≡◌, ℕ, ◌+◌, ◌-◌, ◌<◌, Bool, false, List, [], ◌++◌, length, is_ok, Some, None, Ok, Err, Option, Result, sym, refl, ap, ◌∙◌, append-nil, arith}
use Rattle.records.specs.declared.faults.RecordFault.{RecordFault}
use Rattle.records.specs.Faults.{Fault, record_fault}
use Rattle.records.specs.Format.{entry, bytes_of, record_numbers}
use Rattle.records.specs.Reading.{View, Next, advanced, next_record}
use Rattle.logs.specs.Walk.{Reading, prefixed, look}
use Rattle.logs.proofs.Going.{Going, look_fits, round_less, round_cursor, round_again, round_fault}
use Rattle.listing.specs.declared.lines.RecordLine.{RecordLine}
use Rattle.listing.specs.Lines.{full_line, record_text}
use Rattle.listing.specs.Listing.{entry_lines}
use Rattle.listing.specs.NextLines.{told_as, told_of}
use Rattle.listing.proofs.Texts.{in_turn}

-- a text with the lines of records behind it, and whether their log is read to its end
pub record Listed : Type 0 where
  pub text : List ℕ
  pub whole : Bool

abbrev pub listed : List ℕ → ℕ → ℕ → Reading → Listed
listed before j at x = record { text = before ++ entry_lines j at x.entries; whole = is_ok x.verdict }

-- no record is left
listed_none : (before : List ℕ) (b : Bool) (all : Listed) → ◌≡◌ {A = Listed} (record { text = before ++ []; whole = b }) all → (before ≡ all.text) × (b ≡ all.whole)
listed_none before b all e = (sym (append-nil before) ∙ ap (λ x. x.text) e, ap (λ x. x.whole) e)

-- what a step tells, by what the reader said
told_line : (x : RecordLine) (j at : ℕ) (s : Result (Option (List ℕ)) Fault) → told_as (Ok (Some x)) ≡ told_of j at s → (s ≡ Ok (Some (record_numbers (entry x.«record»)))) × (x.core ≡ j) × (x.offset ≡ at)
told_line x j at (Ok (Some y)) q = (let same : y ≡ record_numbers (entry x.«record») = cc in ap (λ x. Ok (Some x)) same, cc, cc)
told_line x j at (Ok None) q = absurd (let z : ◌≡◌ {A = ℕ} 0 1 = cc in omega arith)
told_line x j at (Err f) q = absurd (let z : ◌≡◌ {A = ℕ} 0 1 = cc in omega arith)

told_fault : (e : RecordFault) (j at : ℕ) (s : Result (Option (List ℕ)) Fault) → told_as (Err e) ≡ told_of j at s → s ≡ Err (record_fault e)
told_fault e j at (Ok (Some y)) q = absurd (let z : ◌≡◌ {A = ℕ} 0 1 = cc in omega arith)
told_fault e j at (Ok None) q = absurd (let z : ◌≡◌ {A = ℕ} 0 1 = cc in omega arith)
told_fault e j at (Err f) q = let same : f ≡ record_fault e = cc in ap Err same

-- a step of the loop: the reader at v told of core j's log, and stands at w now
module _ (v w : View) (stands : w ≡ (next_record v).reader) (before : List ℕ) (j : ℕ) (all : Listed) (g : Going (listed before j v.cursor) look all v) where
  step : ◌≡◌ {A = Next} (record { says = (next_record v).says; reader = w }) (advanced v (look v))
  step i = record { says = (next_record v).says; reader = stands i }

  -- a record, whose line is written
  module _ (x : RecordLine) (told : told_as (Ok (Some x)) ≡ told_of j v.cursor (next_record v).says) where
    says : ((next_record v).says ≡ Ok (Some (record_numbers (entry x.«record»)))) × (x.core ≡ j) × (x.offset ≡ v.cursor)
    says = told_line x j v.cursor (next_record v).says told

    pub line_less : length w.log - w.cursor < length v.log - v.cursor
    line_less = round_less look look_fits v w (next_record v).says step (entry x.«record») says.0

    pub line_again : (after : List ℕ) → after ≡ before ++ full_line (record_text x.core x.offset (entry x.«record»)) → Going (listed after j w.cursor) look all w
    line_again after wrote =
        round_again look look_fits v w (next_record v).says step (listed before j v.cursor) all g (entry x.«record») says.0 (listed after j w.cursor) past
      where
        line : List ℕ
        line = full_line (record_text j v.cursor (entry x.«record»))

        same : full_line (record_text x.core x.offset (entry x.«record»)) ≡ line
        same i = full_line (record_text (says.1 i) (says.2 i) (entry x.«record»))

        past : (y : Reading) → listed before j v.cursor (prefixed (entry x.«record») y) ≡ listed after j w.cursor y
        past y =
            ap (λ t. record { text = t; whole = is_ok y.verdict })
            (sym (in_turn before after _ line (entry_lines j (v.cursor + length (bytes_of (entry x.«record»))) y.entries) (wrote ∙ ap (λ l. before ++ l) same) refl)
            ∙ ap (λ n. after ++ entry_lines j n y.entries) (sym (round_cursor look look_fits v w (next_record v).says step (entry x.«record») says.0)))

  -- a fault
  pub fault_told : (e : RecordFault) → told_as (Err e) ≡ told_of j v.cursor (next_record v).says → (before ≡ all.text) × (false ≡ all.whole)
  fault_told e told =
      listed_none before false all
      (round_fault look look_fits v w (next_record v).says step (listed before j v.cursor) all g _ (told_fault e j v.cursor (next_record v).says told))
