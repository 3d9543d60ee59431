-- What is remembered of each place, and the candidates of an access.
use Rattle.std.specs.Prelude.{ℕ, suc, List, [], ◌∷◌}
use Rattle.std.proofs.Math.Option.{Option, none, some}
use Rattle.reducers.specs.declared.interface.AccessKind.{AccessKind}
use Rattle.reducers.specs.declared.interface.AccessKind.TheVariants.{Read, Write}
use Rattle.runs.specs.Runs.{Access, local, read, write, Event, ev, Run, Instr, core_of, access_of, if_same, done, next}

-- the last write at place c
abbrev pub last_write : Run → ℕ → Option Instr
last_write [] c = none
last_write (ev j local ∷ h) c = last_write h c
last_write (ev j (read d) ∷ h) c = last_write h c
last_write (ev j (write d) ∷ h) c = if_same d c (some (next h (ev j (write d)))) (last_write h c)

-- the count of core k's latest read at place c since that write
abbrev pub latest_read : Run → ℕ → ℕ → Option ℕ
latest_read [] c k = none
latest_read (ev j local ∷ h) c k = latest_read h c k
latest_read (ev j (read d) ∷ h) c k = if_same d c (if_same j k (some (suc (done h j))) (latest_read h c k)) (latest_read h c k)
latest_read (ev j (write d) ∷ h) c k = if_same d c none (latest_read h c k)

-- a remembered access
pub record Candidate : Type 0 where
  pub source : Instr
  pub kind : AccessKind

-- the last write, if core k made it
abbrev pub made_by : ℕ → Option Instr → Option Candidate
made_by k none = none
made_by k (some w) = if_same w.core k (some (record { source = w; kind = Write })) none

-- core k's remembered read, or else the last write, if core k made it
abbrev pub or_else : ℕ → Option ℕ → Option Instr → Option Candidate
or_else k none o = made_by k o
or_else k (some a) o = some (record { source = record { core = k; count = a }; kind = Read })

abbrev pub remembered : Run → Access → ℕ → Option Candidate
remembered h local k = none
remembered h (read c) k = made_by k (last_write h c)
remembered h (write c) k = or_else k (latest_read h c k) (last_write h c)

-- The candidate that core k gives a new turn e after h; the core of e gives none.
abbrev pub candidate : Run → Event → ℕ → Option Candidate
candidate h e k = if_same k (core_of e) none (remembered h (access_of e) k)

abbrev pub keep : Option Candidate → ℕ → List Candidate → List Candidate
keep none n l = l
keep (some x) n l = if_same x.source.count n (x ∷ l) l

-- Those candidates that stand in t, the latest position first.
abbrev pub pick : Run → Event → Run → List Candidate
pick h e [] = []
pick h e (f ∷ t) = keep (candidate h e (core_of f)) (suc (done t (core_of f))) (pick h e t)

-- The candidates of a new turn e after h, the latest position first.
abbrev pub candidates : Run → Event → List Candidate
candidates h e = pick h e h
