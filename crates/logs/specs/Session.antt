-- Reading all logs of a session.
use Rattle.std.specs.Prelude.{ℕ, zero, suc, ◌+◌, max, cond, List, [], ◌∷◌, length, Ok, Err, Result, slice_index, slice_set}
use Rattle.records.specs.declared.faults.Refusal.{Refusal}
use Rattle.records.specs.declared.settings.Sizes.{Sizes}
use Rattle.records.specs.Faults.{Fault, refusal, bad_setting, log_fault}
use Rattle.records.specs.Format.{Entry, head, arc, end}
use Rattle.records.specs.Settings.{fits, log_of, heading_of}
use Rattle.logs.specs.declared.session.Counted.{Counted}
use Rattle.logs.specs.Walk.{Reading, reading_from, holding_from, at_front}

-- core j's log, read from its front
abbrev pub read_log : List ℕ → Sizes → ℕ → Reading
read_log store z j = reading_from (at_front (heading_of z j) (log_of store z j))

-- the same, each arc's source count held to the instructions of its source core
abbrev pub hold_log : List ℕ → Sizes → List ℕ → ℕ → Reading
hold_log store z counts j = holding_from counts (at_front (heading_of z j) (log_of store z j))

abbrev pub onward : {A B E : Type 0} → Result A E → (A → Result B E) → Result B E
onward (Ok x) on = on x
onward (Err e) on = Err e

-- the instructions of k cores from core j on, put into their places, or the first fault
unfoldable pub gathered : List ℕ → Sizes → ℕ → ℕ → List ℕ → Result (List ℕ) Fault
gathered store z zero j counts = Ok counts
gathered store z (suc k) j counts = onward (read_log store z j).verdict (λ n. gathered store z k (j + 1) (slice_set counts j n))

-- k logs from core j on, held to these instructions, or the first fault
unfoldable pub tested : List ℕ → Sizes → List ℕ → ℕ → ℕ → Result (Unit {0}) Fault
tested store z counts zero j = Ok tt
tested store z counts (suc k) j = onward (hold_log store z counts j).verdict (λ _. tested store z counts k (j + 1))

abbrev pub no_counts : List ℕ
no_counts = 0 ∷ 0 ∷ 0 ∷ 0 ∷ []

-- each core's largest source count so far, with a record more
abbrev pub raised : List ℕ → Entry → List ℕ
raised largest (head core cores cells) = largest
raised largest (arc a) = slice_set largest a.source (max (slice_index largest a.source) a.count)
raised largest (end instructions arcs) = largest

-- with these records more
abbrev pub largest_in : List ℕ → List Entry → List ℕ
largest_in largest [] = largest
largest_in largest (e ∷ more) = largest_in (raised largest e) more

-- with the records of k logs from core j on
unfoldable pub all_largest : List ℕ → Sizes → ℕ → ℕ → List ℕ → List ℕ
all_largest store z zero j largest = largest
all_largest store z (suc k) j largest = all_largest store z k (j + 1) (largest_in largest (read_log store z j).entries)

-- all logs, core 0 first; then, where all pass, their sources
abbrev pub session : List ℕ → Sizes → Result (List ℕ) Fault
session store z =
    onward (gathered store z z.cores 0 no_counts) (λ counts. onward (tested store z counts z.cores 0) (λ _. Ok counts))

-- 0 and each core's instructions, or the refusal
abbrev pub answer : Result (List ℕ) Refusal → List ℕ
answer (Ok counts) = 0 ∷ counts
answer (Err e) = refusal e

-- the same, of what one reading gives
abbrev pub counted_as : Result Counted Refusal → List ℕ
counted_as (Ok c) = 0 ∷ c.counts
counted_as (Err e) = refusal e

abbrev pub outcome : Result (List ℕ) Fault → List ℕ
outcome (Ok counts) = 0 ∷ counts
outcome (Err f) = log_fault f

-- 0, or the refusal
abbrev pub done_as : Result (Unit {0}) Refusal → List ℕ
done_as (Ok _) = 0 ∷ []
done_as (Err e) = refusal e

abbrev pub done : Result (Unit {0}) Fault → List ℕ
done (Ok _) = 0 ∷ []
done (Err f) = log_fault f

abbrev pub read_session : List ℕ → Sizes → List ℕ
read_session store z = cond (fits (length store) z) (outcome (session store z)) bad_setting
