-- The store, log by log: head, body and end, and behind them the bytes that were there before.
use Rattle.std.specs.Prelude.{◌≡◌, ℕ, ◌+◌, ◌*◌, ◌<◌, ◌≤◌, true, cond, List, [], ◌++◌, map, length, drop, ◌==◌}
use Rattle.accesses.specs.declared.history.CellHistory.{CellHistory}
use Rattle.cores.specs.declared.interface.Request.{Request}
use Rattle.logs.specs.Lawful.{arcs_in, front, whole}
use Rattle.recorder.specs.Refusals.{log_in, barred, started}
use Rattle.recorder.specs.Turns.{Tape, new_arcs, entered, headed_from}
use Rattle.recorder.specs.declared.ledger.Log.{Log}
use Rattle.records.specs.Format.{Entry, arc, end_size, written}
use Rattle.records.specs.Settings.{fits, log_of, heading_of}
use Rattle.records.specs.declared.settings.Sizes.{Sizes}
use Rattle.reducers.specs.Numbers.{Numbers}

-- the bytes of core j's log are a whole log of this body, and behind its end those that were there before
pub record HeldLog (z : Sizes) (j : ℕ) (log : Log) (bytes old : List ℕ) (body : List Entry) : Type 0 where
  pub many : log.arcs ≡ length (arcs_in body)
  pub place : log.end ≡ length (written (front (heading_of z j) body))
  pub inside : log.end + end_size ≤ z.log_bytes
  pub says : bytes ≡ written (whole (heading_of z j) body log.instructions) ++ drop (log.end + end_size) old

abbrev pub Held : Tape → List ℕ → ℕ → List Entry → Type 0
Held t old j body = HeldLog t.book.sizes j (log_in t.book j) (log_of t.store t.book.sizes j) (log_of old t.book.sizes j) body

abbrev pub AllHeld : Tape → List ℕ → (ℕ → List Entry) → Type 0
AllHeld t old bodies = (k : ℕ) → k < t.book.sizes.cores → Held t old k (bodies k)

-- what lies behind all logs
abbrev pub surplus : Sizes → List ℕ → List ℕ
surplus z store = drop (z.cores * z.log_bytes) store

-- after begin each log has no arcs and no instructions
abbrev pub BeginHolds : Type 0
BeginHolds =
    (z : Sizes) (store : List ℕ) (history : List CellHistory) (n : Numbers) → fits (length store) z ≡ true →
    let begun = headed_from z z.cores 0 store in
    AllHeld (record { store = begun; book = started z; history = history; numbers = n }) store (λ _. []) × (surplus z begun ≡ surplus z store)

-- a turn of j that is not refused adds its arcs to j's log, and leaves the others
abbrev pub TurnHolds : Type 0
TurnHolds =
    (t : Tape) (old : List ℕ) (bodies : ℕ → List Entry) (j : ℕ) (request : Request) (trail : List Numbers) (m : Numbers) →
    fits (length t.store) t.book.sizes ≡ true → j < t.book.sizes.cores → length t.book.logs ≡ 4 → barred t.book j request ≡ 0 →
    AllHeld t old bodies → AllHeld (entered t j request trail m) old (λ k. cond (k == j) (bodies k ++ map arc (new_arcs t j request trail)) (bodies k))

-- and what lies behind all logs
abbrev pub SurplusStays : Type 0
SurplusStays =
    (t : Tape) (old : List ℕ) (body : List Entry) (j : ℕ) (request : Request) (trail : List Numbers) (m : Numbers) →
    fits (length t.store) t.book.sizes ≡ true → j < t.book.sizes.cores → barred t.book j request ≡ 0 →
    Held t old j body → surplus t.book.sizes (entered t j request trail m).store ≡ surplus t.book.sizes t.store
