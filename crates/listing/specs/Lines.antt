-- The lines of a listing.
use Rattle.std.specs.Prelude.{ℕ, cond, List, [], ◌∷◌, ◌++◌, codes, decimal, ◌==◌}
use Rattle.records.specs.Format.{Entry, head, arc, end}

-- parts of a text, one after another
abbrev pub joined : List (List ℕ) → List ℕ
joined [] = []
joined (part ∷ []) = part
joined (part ∷ next ∷ more) = part ++ joined (next ∷ more)

-- a text with its newline
abbrev pub full_line : List ℕ → List ℕ
full_line text = text ++ (10 ∷ [])

-- a noun's ending behind a number
abbrev pub ending : ℕ → List ℕ
ending n = cond (n == 1) [] (codes "s")

-- a record of core j's log, and its offset there
abbrev pub record_text : ℕ → ℕ → Entry → List ℕ
record_text j at (head core cores cells) =
    joined (codes "  " ∷ decimal at ∷ codes " head core " ∷ decimal core ∷ codes " of " ∷ decimal cores ∷ codes ", " ∷ decimal cells ∷ codes " cell" ∷ ending cells ∷ [])
record_text j at (arc a) =
    joined (codes "  " ∷ decimal at ∷ codes " arc from " ∷ decimal a.source ∷ codes ":" ∷ decimal a.count ∷ codes " to " ∷ decimal j ∷ codes ":" ∷ decimal a.target ∷ [])
record_text j at (end instructions arcs) =
    joined (codes "  " ∷ decimal at ∷ codes " end " ∷ decimal instructions ∷ codes " instruction" ∷ ending instructions ∷ codes ", " ∷ decimal arcs ∷ codes " arc" ∷ ending arcs ∷ [])

-- the line above a log's records
abbrev pub title : ℕ → List ℕ
title j = codes "log of core " ++ decimal j
