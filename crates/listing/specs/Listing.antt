-- What is listed of a log store.
use Rattle.std.specs.Prelude.{ℕ, zero, suc, ◌+◌, cond, List, [], ◌∷◌, ◌++◌, length, is_ok, Ok, Err, codes, Result}
use Rattle.records.specs.declared.faults.Refusal.{Refusal}
use Rattle.records.specs.declared.faults.Refusal.TheVariants.{BadSetting, LogFault}
use Rattle.records.specs.declared.settings.Sizes.{Sizes}
use Rattle.records.specs.Faults.{Fault, session_fault}
use Rattle.records.specs.Format.{Entry, bytes_of}
use Rattle.records.specs.Settings.{fits}
use Rattle.logs.specs.Session.{read_log, session}
use Rattle.listing.specs.Faults.{fault_text}
use Rattle.listing.specs.Lines.{full_line, record_text, title}

-- a line for each record of core j's log, the first at this offset
abbrev pub entry_lines : ℕ → ℕ → List Entry → List ℕ
entry_lines j at [] = []
entry_lines j at (e ∷ more) = full_line (record_text j at e) ++ entry_lines j (at + length (bytes_of e)) more

-- core j's log: its title, and the records that are read from it
abbrev pub log_lines : List ℕ → Sizes → ℕ → List ℕ
log_lines store z j = full_line (title j) ++ entry_lines j 0 (read_log store z j).entries

-- k logs from core j on; one whose reading ends in a fault is the last
unfoldable pub logs_from : List ℕ → Sizes → ℕ → ℕ → List ℕ
logs_from store z zero j = []
logs_from store z (suc k) j = log_lines store z j ++ cond (is_ok (read_log store z j).verdict) (logs_from store z k (j + 1)) []

-- the last line: accepted, or why not
abbrev pub accepted : List ℕ
accepted = full_line (codes "accepted")

abbrev pub refused : List ℕ → List ℕ
refused why = full_line (codes "refused: " ++ why)

abbrev pub faulty : Fault → List ℕ
faulty f = refused (fault_text f)

unfoldable pub bad_words : List ℕ
bad_words = codes "bad setting: cores 1 to 4, cells 1 to 256, log bytes 12 to 16384, and a store of at least cores x log bytes"

abbrev pub bad_sizes : List ℕ
bad_sizes = refused bad_words

abbrev pub verdict_line : Result (List ℕ) Fault → List ℕ
verdict_line (Ok _) = accepted
verdict_line (Err f) = faulty f

-- its text, by what reading all logs answers
abbrev pub verdict_text : Result (List ℕ) Refusal → List ℕ
verdict_text (Ok _) = codes "accepted"
verdict_text (Err BadSetting) = codes "refused: " ++ bad_words
verdict_text (Err (LogFault e)) = codes "refused: " ++ fault_text (session_fault e)

-- the whole text
abbrev pub listing : List ℕ → Sizes → List ℕ
listing store z = cond (fits (length store) z) (logs_from store z z.cores 0 ++ verdict_line (session store z)) bad_sizes
