-- A fault in words.
use Rattle.std.specs.Prelude.{ℕ, cond, List, [], ◌∷◌, codes, decimal, ◌==◌}
use Rattle.records.specs.Faults.{Fault}
use Rattle.listing.specs.Lines.{joined}

-- what a cause says
unfoldable pub cause_words : ℕ → List ℕ
cause_words n =
    cond (n == 1) (codes "the record or its mark is cut by the end of the log")
    (cond (n == 2) (codes "the mark is not that of a head, an arc or an end")
    (cond (n == 3) (codes "the first record is not this log's head, or a head comes later")
    (cond (n == 4) (codes "the arc has a source core that is this core or not of the session, a count of 0, a target below the one before, or the same target and source core twice")
    (cond (n == 5) (codes "the end gives another number of arcs, or fewer instructions than the last target")
    (codes "the source count is above the instructions of the source core")))))

-- a fault's numbers, then words
abbrev pub told : Fault → List ℕ → List ℕ
told f words =
    joined (codes "layer " ∷ decimal f.layer ∷ codes " fault in the log of core " ∷ decimal f.core ∷ codes " at offset " ∷ decimal f.offset ∷ codes ", cause " ∷ decimal f.cause ∷ codes ": " ∷ words ∷ [])

-- a fault's numbers, and what its cause says
unfoldable pub fault_text : Fault → List ℕ
fault_text f = told f (cause_words f.cause)
