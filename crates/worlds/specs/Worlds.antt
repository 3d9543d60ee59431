-- What a command can reach, and how each of its acts changes it.
use Rattle.std.specs.Prelude.{◌≡◌, ℕ, cond, List, [], ◌++◌, Some, None, Option, ⊤}
use Rattle.std.specs.Str.{bytes_eq}

-- the words behind the program's name, the bytes of each file and those left of standard input, and what was said so far on
-- standard output and on standard error
pub record State : Type 0 where
  pub arguments : List (List ℕ)
  pub file : List ℕ → Option (List ℕ)
  pub input : List ℕ
  pub said : List ℕ
  pub complained : List ℕ

abbrev pub with_file : State → List ℕ → Option (List ℕ) → State
with_file s name bytes = record s { file = λ other. cond (bytes_eq other name) bytes (s.file other) }

abbrev pub with_input : State → List ℕ → State
with_input s left = record s { input = left }

abbrev pub with_said : State → List ℕ → State
with_said s text = record s { said = s.said ++ text }

abbrev pub with_complaint : State → List ℕ → State
with_complaint s line = record s { complained = s.complained ++ line }

-- where the state is known it is known afterwards, and this holds of the two; of a state that is not known nothing is claimed
abbrev pub Known : Option State → Option State → (State → State → Type 0) → Type 0
Known None new claim = ⊤
Known (Some s) None claim = ⊥
Known (Some s) (Some t) claim = claim s t

abbrev pub Stays : Option State → Option State → Type 0
Stays old new = Known old new (λ s t. t ≡ s)

abbrev pub GivesArguments : Option State → Option State → List (List ℕ) → Type 0
GivesArguments old new words = Known old new (λ s t. (words ≡ s.arguments) × (t ≡ s))

-- all that is left is read
abbrev pub GivesInput : Option State → Option State → List ℕ → Type 0
GivesInput old new bytes = Known old new (λ s t. (bytes ≡ s.input) × (t ≡ with_input s []))

-- something of it was read
abbrev pub InputRead : Option State → Option State → Type 0
InputRead old new = Known old new (λ s t. (left : List ℕ) × (t ≡ with_input s left))

abbrev pub GivesFile : Option State → Option State → List ℕ → List ℕ → Type 0
GivesFile old new name bytes = Known old new (λ s t. (s.file name ≡ Some bytes) × (t ≡ s))

abbrev pub Writes : Option State → Option State → List ℕ → List ℕ → Type 0
Writes old new name bytes = Known old new (λ s t. t ≡ with_file s name (Some bytes))

-- what the file has then is not known
abbrev pub WritesPart : Option State → Option State → List ℕ → Type 0
WritesPart old new name = Known old new (λ s t. (bytes : Option (List ℕ)) × (t ≡ with_file s name bytes))

abbrev pub Says : Option State → Option State → List ℕ → Type 0
Says old new text = Known old new (λ s t. t ≡ with_said s text)

-- something was said, or nothing
abbrev pub SaysPart : Option State → Option State → Type 0
SaysPart old new = Known old new (λ s t. (part : List ℕ) × (t ≡ with_said s part))

abbrev pub Complains : Option State → Option State → List ℕ → Type 0
Complains old new line = Known old new (λ s t. t ≡ with_complaint s line)
