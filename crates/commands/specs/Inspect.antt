-- What the inspector does.
use Rattle.std.specs.Prelude.{◌≡◌, List, ℕ, [], ◌∷◌, ◌++◌, Some, codes}
use Rattle.listing.specs.Lines.{full_line}
use Rattle.listing.specs.Listing.{listing}
use Rattle.listing.specs.Words.{argument}
use Rattle.records.specs.declared.settings.Sizes.{Sizes}
use Rattle.worlds.specs.Worlds.{State, with_said}

-- the words are a name and three numbers, which are these sizes
pub record Asks (words : List (List ℕ)) (name : List ℕ) (z : Sizes) : Type 0 where
  pub p : List ℕ
  pub c : List ℕ
  pub l : List ℕ
  pub are : words ≡ name ∷ p ∷ c ∷ l ∷ []
  pub cores : argument p ≡ Some z.cores
  pub cells : argument c ≡ Some z.cells
  pub log_bytes : argument l ≡ Some z.log_bytes

-- the file of this name holds this text, with these sizes
abbrev pub HoldsText : State → List ℕ → Sizes → List ℕ → Type 0
HoldsText s name z text = (store : List ℕ) × (s.file name ≡ Some store) × (text ≡ listing store z)

-- the arguments name a file and sizes, and what the file holds is said
abbrev pub Inspected : State → State → Type 0
Inspected s t = (name text : List ℕ) × (z : Sizes) × Asks s.arguments name z × HoldsText s name z text × (t ≡ with_said s text)

abbrev pub inspect_line : List ℕ → List ℕ
inspect_line why = full_line (codes "inspect: " ++ (why ++ codes "; usage: inspect FILE P C L"))
