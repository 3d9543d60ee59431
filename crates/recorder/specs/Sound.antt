-- What holds of a recorder's own numbers at all times.
use Rattle.std.specs.Prelude.{ℕ, ◌+◌, ◌*◌, ◌<◌, ◌≤◌, List, sum_by, slice_index_or}
use Rattle.records.specs.Format.{end_size}
use Rattle.records.specs.declared.settings.Sizes.{Sizes}
use Rattle.recorder.specs.declared.ledger.Log.{Log}

-- what stands for a log that there is not
abbrev pub no_log : Log
no_log = record { instructions = 0; arcs = 0; end = 0 }

-- the instructions of all logs
abbrev pub all_instructions : List Log → ℕ
all_instructions logs = sum_by (λ (l : Log). l.instructions) logs

-- each log's records fit its bytes
abbrev pub Roomy : Sizes → List Log → Type 0
Roomy z logs =
    (j : ℕ) → j < z.cores → (6 + 7 * (slice_index_or logs j no_log).arcs ≤ (slice_index_or logs j no_log).end) × ((slice_index_or logs j no_log).end + end_size ≤ z.log_bytes)

-- no core has more instructions than a count can tell, and there are no more positions than instructions
abbrev pub Sound : Sizes → List Log → ℕ → Type 0
Sound z logs position =
    (position ≤ all_instructions logs) × ((j : ℕ) → (slice_index_or logs j no_log).instructions ≤ 65535) × Roomy z logs
