-- What is left of turns recorded by the rules, and a text that lists it.
use Rattle.std.specs.Prelude.{◌≡◌, ℕ, List, reverse, length}
use Rattle.bench_listing.specs.Lines.{text_of}
use Rattle.bench_listing.specs.Runs.{run_lines}
use Rattle.cores.specs.Memory.{Rules, Memory, plain}
use Rattle.logs.specs.Arcs.{all_arcs, arcs_by_core}
use Rattle.recordings.specs.ByTheRules.{ByTheRules}
use Rattle.recordings.specs.Tracks.{logs_of}
use Rattle.records.specs.declared.settings.Sizes.{Sizes}
use Rattle.reducers.specs.Numbers.{Numbers, Meets}
use Rattle.runs.specs.Recording.{Arc}

-- the store has the arcs of a recording of the turns, the cells are those of the plain memory, and every accepted turn was replayed
pub record Kept (meets : Meets) (K : Rules) (z : Sizes) (m : Memory) (turns store cells : List ℕ) (steps : ℕ) : Type 0 where
  pub says : List (List ℕ)
  pub accepted : List ℕ
  pub numbers : Numbers
  pub arcs : List Arc
  pub recorded : ByTheRules meets K z m (reverse turns) says accepted numbers arcs
  pub logged : all_arcs store z ≡ arcs_by_core (λ k. logs_of k arcs) z.cores
  pub left : cells ≡ (plain K m accepted).cells
  pub replayed : steps ≡ length accepted

-- the text lists what is left of such a recording
pub record Told (meets : Meets) (K : Rules) (z : Sizes) (m : Memory) (turns text : List ℕ) : Type 0 where
  pub store : List ℕ
  pub cells : List ℕ
  pub steps : ℕ
  pub kept : Kept meets K z m turns store cells steps
  pub lines : text ≡ text_of (run_lines (all_arcs store z) cells steps)
