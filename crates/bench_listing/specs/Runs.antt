-- What is listed of a run: its arcs, its cells and its steps.
use Rattle.std.specs.Prelude.{ℕ, List, [], ◌∷◌, ◌++◌, map, codes, decimal}
use Rattle.records.specs.Format.{Entry}
use Rattle.logs.specs.Arcs.{RunArc, arc_to}
use Rattle.logs.specs.Lawful.{arcs_in}
use Rattle.bench_listing.specs.Lines.{text_of}

abbrev pub arc_line : RunArc → List (List ℕ)
arc_line a = codes "arc" ∷ decimal a.source ∷ decimal a.count ∷ decimal a.target_core ∷ decimal a.target ∷ []

abbrev pub cells_line : List ℕ → List (List ℕ)
cells_line cells = codes "cells" ∷ map decimal cells

abbrev pub replayed_line : ℕ → List (List ℕ)
replayed_line steps = codes "replayed" ∷ decimal steps ∷ []

-- a line for each arc, one of every cell's number in order, and one of the steps
abbrev pub run_lines : List RunArc → List ℕ → ℕ → List (List (List ℕ))
run_lines arcs cells steps = map arc_line arcs ++ (cells_line cells ∷ replayed_line steps ∷ [])

-- the lines of arcs, and of those among records of core j's log
abbrev pub arcs_text : List RunArc → List ℕ
arcs_text arcs = text_of (map arc_line arcs)

abbrev pub log_text : ℕ → List Entry → List ℕ
log_text j es = arcs_text (map (arc_to j) (arcs_in es))
