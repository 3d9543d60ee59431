-- Requests by their numbers, and what telling a core does to it and to no other.
use Rattle.std.specs.Prelude.{◌≡◌, ℕ, ◌+◌, Bool, true, List, [], ◌∷◌, take, drop, nat_lt, slice_index_or, slice_set}
use Rattle.cores.specs.declared.interface.Request.{Request}
use Rattle.cores.specs.declared.interface.Request.TheVariants.{Halt, Local, Read, Write, Exchange}

-- a request by its number and values
abbrev pub request_numbers : Request → List ℕ
request_numbers Local = 0 ∷ []
request_numbers (Read cell) = 1 ∷ cell ∷ []
request_numbers (Write cell number) = 2 ∷ cell ∷ number ∷ []
request_numbers (Exchange cell number) = 3 ∷ cell ∷ number ∷ []
request_numbers Halt = 4 ∷ []

-- a request names no cell at or above a count of cells
abbrev pub within : Request → ℕ → Bool
within Halt count = true
within Local count = true
within (Read cell) count = nat_lt cell count
within (Write cell number) count = nat_lt cell count
within (Exchange cell number) count = nat_lt cell count

-- the states once core j is told a number
abbrev pub told : (List ℕ → List ℕ → ℕ → List ℕ) → List ℕ → List (List ℕ) → ℕ → ℕ → List (List ℕ)
told after text states j number = slice_set states j (after text (slice_index_or states j []) number)

-- all cores but core j are the same
abbrev pub OthersKept : {K : Type 0} → ℕ → List K → List K → Type 0
OthersKept j before later = (take j later ≡ take j before) × (drop (j + 1) later ≡ drop (j + 1) before)
