-- Writing the logs of a session out, record by record as they are read.
use Rattle.std.specs.Prelude.{◌≡◌, ℕ, zero, suc, ◌+◌, ◌*◌, ◌<◌, cond, ◌&&◌, List, [], ◌∷◌, ◌++◌, length, take, drop, Ok, Err, Result, slice_index}
use Rattle.records.specs.declared.settings.Sizes.{Sizes}
use Rattle.records.specs.Faults.{Fault, bad_setting, log_fault}
use Rattle.records.specs.Format.{Entry, bytes_of, written}
use Rattle.records.specs.Settings.{fits, log_of, heading_of}
use Rattle.records.specs.Writing.{Wrote, write_at}
use Rattle.logs.specs.Lawful.{whole, LogHolds}
use Rattle.logs.specs.Session.{read_log, session}

-- records written one after another from an offset of core j's log on
abbrev pub copied : Sizes → ℕ → ℕ → List Entry → List ℕ → List ℕ
copied z j at [] out = out
copied z j at (e ∷ more) out = copied z j (at + length (bytes_of e)) more (write_at out z j at e).store

-- the records of k logs from core j on
unfoldable pub all_copied : List ℕ → Sizes → ℕ → ℕ → List ℕ → List ℕ
all_copied store z zero j out = out
all_copied store z (suc k) j out = all_copied store z k (j + 1) (copied z j 0 (read_log store z j).entries out)

abbrev pub copying : List ℕ → Sizes → List ℕ → Result (List ℕ) Fault → Wrote
copying store z out (Ok counts) = record { says = 0 ∷ []; store = all_copied store z z.cores 0 out }
copying store z out (Err f) = record { says = log_fault f; store = out }

-- what the call answers, and what the output holds then
abbrev pub write_session : List ℕ → Sizes → List ℕ → Wrote
write_session store z out =
    cond (fits (length out) z && fits (length store) z) (copying store z out (session store z)) (record { says = bad_setting; store = out })

-- how many bytes a log has up to its end
abbrev pub log_size : Sizes → List ℕ → (ℕ → List Entry) → ℕ → ℕ
log_size z counts bodies j = length (written (whole (heading_of z j) (bodies j) (slice_index counts j)))

-- each log has its old bytes up to its end, and the output's own behind it; so has what is behind all logs
pub record Restored (store : List ℕ) (z : Sizes) (out after : List ℕ) : Type 0 where
  pub counts : List ℕ
  pub bodies : ℕ → List Entry
  pub holds : (j : ℕ) → j < z.cores → LogHolds store z counts bodies j
  pub bytes : (j : ℕ) → j < z.cores →
      log_of after z j ≡ take (log_size z counts bodies j) (log_of store z j) ++ drop (log_size z counts bodies j) (log_of out z j)
  pub surplus : drop (z.cores * z.log_bytes) after ≡ drop (z.cores * z.log_bytes) out
