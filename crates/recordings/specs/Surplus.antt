-- Cells and cores beyond the sizes are not touched by a turn.
use Rattle.std.specs.Prelude.{◌≡◌, ℕ, drop}
use Rattle.cores.specs.Memory.{Rules}
use Rattle.recorder.specs.Turns.{World, Answered, Turned}
use Rattle.reducers.specs.Numbers.{Meets}

abbrev pub TurnsKeepTheSurplus : Meets → Type 0
TurnsKeepTheSurplus meets =
    (K : Rules) (j : ℕ) (w : World) (o : Answered) → Turned meets K j w o →
    (drop w.tape.book.sizes.cells o.leaves.cells ≡ drop w.tape.book.sizes.cells w.cells)
    × (drop w.tape.book.sizes.cores o.leaves.states ≡ drop w.tape.book.sizes.cores w.states)
