-- A text as a list of lines, each a list of words.
use Rattle.std.specs.Prelude.{ℕ, List, [], ◌∷◌, ◌++◌}

-- each word with a space before it
abbrev pub spaced : List (List ℕ) → List ℕ
spaced [] = []
spaced (word ∷ more) = 32 ∷ (word ++ spaced more)

-- words joined by single spaces
abbrev pub joined : List (List ℕ) → List ℕ
joined [] = []
joined (word ∷ more) = word ++ spaced more

-- each line with a newline behind it
abbrev pub text_of : List (List (List ℕ)) → List ℕ
text_of [] = []
text_of (line ∷ more) = joined line ++ (10 ∷ text_of more)
