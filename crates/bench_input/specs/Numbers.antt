-- The numbers that a text writes.
use Rattle.std.specs.Prelude.{ℕ, Bool, cond, ◌||◌, List, [], ◌∷◌, ◌++◌, length, Some, None, Option, ◌==◌, nat_lt}
use Rattle.std.specs.List.{filter}
use Rattle.std.specs.Int.{is_in_range}
use Rattle.listing.specs.Words.{argument}

-- tab, line feed, vertical tab, form feed, carriage return, space
abbrev pub white : ℕ → Bool
white c = is_in_range 9 13 c || c == 32

-- c in front of the first part
abbrev pub onto : ℕ → List (List ℕ) → List (List ℕ)
onto c [] = (c ∷ []) ∷ []
onto c (p ∷ ps) = (c ∷ p) ∷ ps

-- a text cut at each white byte
abbrev pub parts : List ℕ → List (List ℕ)
parts [] = [] ∷ []
parts (c ∷ cs) = cond (white c) ([] ∷ parts cs) (onto c (parts cs))

-- the parts that are not empty
abbrev pub words : List (List ℕ) → List (List ℕ)
words ps = filter (λ w. nat_lt 0 (length w)) ps

abbrev pub with_first : Option ℕ → Option (List ℕ) → Option (List ℕ)
with_first None o = None
with_first (Some n) None = None
with_first (Some n) (Some ns) = Some (n ∷ ns)

-- the number of each word: decimal digits, with leading zeros or without, that write at most 65,535
abbrev pub each : List (List ℕ) → Option (List ℕ)
each [] = Some []
each (w ∷ ws) = with_first (argument w) (each ws)

abbrev pub numbers_in : List (List ℕ) → Option (List ℕ)
numbers_in ps = each (words ps)

-- the numbers of the words of a text, if each word has one
unfoldable pub numbers : List ℕ → Option (List ℕ)
numbers bs = numbers_in (parts bs)

-- further numbers behind those found, if there are any to be had
abbrev pub after : List ℕ → Option (List ℕ) → Option (List ℕ)
after found None = None
after found (Some more) = Some (found ++ more)
