-- Writing one record at its place of a log store.
use Rattle.std.specs.Prelude.{ℕ, ◌+◌, ◌*◌, cond, ◌&&◌, List, [], ◌∷◌, length, Ok, Err, Result, nat_le, nat_lt}
use Rattle.records.specs.declared.faults.Refusal.{Refusal}
use Rattle.records.specs.declared.settings.Sizes.{Sizes}
use Rattle.records.specs.Faults.{bad_setting, refusal}
use Rattle.records.specs.Format.{Entry, bytes_of, splice}
use Rattle.records.specs.Settings.{fits}

-- what a writing call answers, and the store that it leaves
pub record Wrote : Type 0 where
  pub says : List ℕ
  pub store : List ℕ

-- 0 and the offset behind the record, or the refusal
abbrev pub behind_as : Result ℕ Refusal → List ℕ
behind_as (Ok behind) = 0 ∷ behind ∷ []
behind_as (Err e) = refusal e

-- the store with a record's bytes at an offset of core j's log, and the offset behind them
abbrev pub put_at : List ℕ → Sizes → ℕ → ℕ → Entry → List ℕ
put_at store z j at e = splice (j * z.log_bytes + at) (bytes_of e) store

abbrev pub behind : ℕ → Entry → ℕ
behind at e = at + length (bytes_of e)

-- the record is put where that log has room for it there
abbrev pub write_at : List ℕ → Sizes → ℕ → ℕ → Entry → Wrote
write_at store z j at e =
    cond (fits (length store) z && (nat_lt j z.cores && nat_le (behind at e) z.log_bytes))
    (record { says = 0 ∷ behind at e ∷ []; store = put_at store z j at e })
    (record { says = bad_setting; store = store })
