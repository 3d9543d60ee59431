-- What is remembered was done, and the arcs of every log obey the rules.
use Rattle.std.specs.Prelude.{◌≡◌, ℕ, ◌<◌, ◌≤◌, List, map, replicate, Some, None, Option, slice_index_or}
use Rattle.std.specs.List.{AllByRecursion}
use Rattle.accesses.specs.Histories.{no_cell, untouched}
use Rattle.accesses.specs.declared.access.Access.{Access}
use Rattle.accesses.specs.declared.history.CellHistory.{CellHistory}
use Rattle.cores.specs.Memory.{Rules}
use Rattle.logs.specs.Lawful.{Body, arcs_in, Accepted}
use Rattle.recorder.specs.Refusals.{Book, log_in, started}
use Rattle.recorder.specs.Turns.{World}
use Rattle.recorder.specs.declared.ledger.Log.{Log}
use Rattle.records.specs.Format.{Entry}
use Rattle.records.specs.Settings.{heading_of, no_sizes}
use Rattle.records.specs.declared.settings.Sizes.{Sizes}
use Rattle.reducers.specs.Numbers.{Meets}
use Rattle.traces.specs.Recording.{Recording, opened, recording_after, Faithful}
use Rattle.traces.specs.Trace.{Event, Trace}

-- how many instructions core k has done
abbrev pub done_by : Book → ℕ → ℕ
done_by b k = (log_in b k).instructions

-- an instruction that was done
abbrev pub Done : Book → ℕ → ℕ → Type 0
Done b core count = (0 < count) × (count ≤ done_by b core)

-- a remembered write, and what is remembered as core i's read
abbrev pub WriteDone : Book → Option Access → Type 0
WriteDone b None = Unit {0}
WriteDone b (Some a) = Done b a.core a.count

abbrev pub ReadDone : Book → ℕ → Option Access → Type 0
ReadDone b i None = Unit {0}
ReadDone b i (Some a) = (a.core ≡ i) × Done b a.core a.count

abbrev pub CellDone : Book → CellHistory → Type 0
CellDone b h = ((i : ℕ) → ReadDone b i (slice_index_or h.reads i None)) × WriteDone b h.last_write

-- the body of the log of core k: lawful, its arcs to and from instructions that were done
pub record OrderlyLog (b : Book) (k : ℕ) (body : List Entry) : Type 0 where
  pub lawful : Body (heading_of b.sizes k) body
  pub reached : AllByRecursion (λ a. a.target ≤ done_by b k) (arcs_in body)
  pub sources : AllByRecursion (λ a. a.count ≤ done_by b a.source) (arcs_in body)

pub record Orderly (w : World) (r : Recording) : Type 0 where
  pub remembered : (c : ℕ) → CellDone w.tape.book (slice_index_or w.tape.history c no_cell)
  pub logs : (k : ℕ) → k < w.tape.book.sizes.cores → OrderlyLog w.tape.book k (r.bodies k)
  pub idle : (k : ℕ) → w.tape.book.sizes.cores ≤ k → done_by w.tape.book k ≡ 0

-- and so it is after any calls
abbrev pub TracesAreOrderly : Meets → Type 0
TracesAreOrderly meets =
    (K : Rules) (w v : World) (es : List Event) (r : Recording) (t : Trace meets K w es v) → Faithful w r → Orderly w r → Orderly v (recording_after t r)

abbrev pub NewIsOrderly : Type 0
NewIsOrderly =
    (w : World) → let z : Sizes = no_sizes in
    w.tape.book ≡ started z → w.tape.history ≡ replicate 256 untouched → Orderly w (opened z w)

-- the store's logs are those of a session with these counts, and with the recording's arcs
abbrev pub OrderlyIsAccepted : Type 0
OrderlyIsAccepted =
    (w : World) (r : Recording) → Faithful w r → Orderly w r →
    (logs : Accepted w.tape.store w.tape.book.sizes (map (λ (l : Log). l.instructions) w.tape.book.logs)) × (logs.bodies ≡ r.bodies)
