-- A log's arcs, listed record by record.
use Rattle.std.proofs.Common.{◌≡◌, ℕ, ◌-◌, ◌<◌, List, [], ◌∷◌, ◌++◌, length, Some, Ok, Err, Option, Result, sym, ap, ◌∙◌, append-nil}
use Rattle.records.specs.declared.faults.RecordFault.{RecordFault}
use Rattle.records.specs.declared.format.Record.{Record}
use Rattle.records.specs.Faults.{record_fault}
use Rattle.records.specs.Format.{entry}
use Rattle.records.specs.Reading.{View, Next, next_record, said}
use Rattle.logs.specs.Walk.{Reading, look}
use Rattle.logs.proofs.Going.{Going, look_fits, round_less, round_again, round_fault}
use Rattle.bench_listing.specs.Runs.{log_text}
use Rattle.bench_listing.proofs.Arcs.{record_written}

-- a text with the lines of the arcs that are read behind it
abbrev pub listed : List ℕ → ℕ → Reading → List ℕ
listed before j x = before ++ log_text j x.entries

-- a step of the loop: the reader at v answered r, and stands at w now
module _ (v w : View) (r : Result (Option Record) RecordFault) (step : ◌≡◌ {A = Next} (record { says = said r; reader = w }) (next_record v))
    (before : List ℕ) (j : ℕ) (all : List ℕ) (g : Going (listed before j) look all v) where
  -- a record, whose line is written where it is an arc
  module _ (x : Record) (some : r ≡ Ok (Some x)) where
    pub record_less : length w.log - w.cursor < length v.log - v.cursor
    record_less = round_less look look_fits v w (said r) step (entry x) (ap said some)

    pub record_again : (after : List ℕ) → after ≡ before ++ log_text j (entry x ∷ []) → Going (listed after j) look all w
    record_again after wrote =
        round_again look look_fits v w (said r) step (listed before j) all g (entry x) (ap said some) (listed after j)
        (λ y. record_written j (entry x) y.entries before after wrote)

  -- a fault
  pub no_record : (e : RecordFault) → r ≡ Err e → before ≡ all
  no_record e broke =
      sym (append-nil before) ∙ round_fault look look_fits v w (said r) step (listed before j) all g (record_fault e) (ap said broke)
