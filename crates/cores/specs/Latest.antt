-- What an instruction reads: the number of the latest earlier store to its cell, or the starting number.
use Rattle.std.specs.Prelude.{◌≡◌, ℕ, ◌⊎◌, List, ◌∷◌, ◌++◌, slice_index}
use Rattle.std.specs.List.{AllByRecursion}
use Rattle.cores.specs.declared.interface.Request.{Request}
use Rattle.cores.specs.declared.interface.Request.TheVariants.{Halt, Local, Read, Write, Exchange}
use Rattle.cores.specs.Memory.{Rules, Memory, Outcome, outcomes, Accepted}

-- a request brings the number of cell c: a read or an exchange of it
abbrev pub Reads : Request → ℕ → Type 0
Reads Halt c = ⊥
Reads Local c = ⊥
Reads (Read d) c = d ≡ c
Reads (Write d v) c = ⊥
Reads (Exchange d v) c = d ≡ c

-- a request stores n to cell c: a write or an exchange
abbrev pub Stores : Request → ℕ → ℕ → Type 0
Stores Halt c n = ⊥
Stores Local c n = ⊥
Stores (Read d) c n = ⊥
Stores (Write d v) c n = (d ≡ c) × (v ≡ n)
Stores (Exchange d v) c n = (d ≡ c) × (v ≡ n)

-- none of these instructions stores to the cell
abbrev pub Untouched : ℕ → List Outcome → Type 0
Untouched c es = AllByRecursion (λ e. (v : ℕ) → Stores e.request c v → ⊥) es

-- n is what the latest of these instructions, the newest first, stored to cell c, or the starting number if none stores to it
abbrev pub Latest : List ℕ → List Outcome → ℕ → ℕ → Type 0
Latest cells es c n =
    (Untouched c es × (n ≡ slice_index cells c))
    ⊎ ((between : List Outcome) × (w : Outcome) × (before : List Outcome) × (es ≡ between ++ (w ∷ before)) × Untouched c between × Stores w.request c n)

-- in every run of accepted turns, whatever the kind of core
abbrev pub ReadsBringTheLatestStore : Type 0
ReadsBringTheLatestStore = (K : Rules) (m : Memory) (turns : List ℕ) → Accepted K m turns →
    (later : List Outcome) (e : Outcome) (earlier : List Outcome) → outcomes K m turns ≡ later ++ (e ∷ earlier) →
    (c : ℕ) → Reads e.request c → Latest m.cells earlier c e.number
