-- Calls of a recorder one after another, each by what it promises.
use Rattle.std.specs.Prelude.{◌≡◌, ℕ, Bool, not, List, [], ◌∷◌, length, ◌==◌, slice_index_or}
use Rattle.cores.specs.Memory.{Rules}
use Rattle.recorder.specs.Turns.{World, world, Begun, begun, Answered, Turned}
use Rattle.records.specs.declared.settings.Sizes.{Sizes}
use Rattle.reducers.specs.Numbers.{Meets}

-- a call that was made, with its answer
pub data Event : Type 0 where
  began : Sizes → List ℕ → Event
  took : ℕ → List ℕ → Event

-- the calls, the newest first, lead from w to the last world
pub data Trace (meets : Meets) (K : Rules) (w : World) : List Event → World → Type 0 where
  none : Trace meets K w [] w
  begins : {es : List Event} {v : World} → Trace meets K w es v → (z : Sizes) (b : Begun) →
      b ≡ begun z (length v.states) (length v.cells) v.tape →
      Trace meets K w (began z b.says ∷ es) (world b.leaves v.cells v.states)
  turns : {es : List Event} {v : World} → Trace meets K w es v → (j : ℕ) (o : Answered) → Turned meets K j v o →
      Trace meets K w (took j o.says ∷ es) o.leaves

-- an answer that does not begin with 0 is a refusal
abbrev pub refused : List ℕ → Bool
refused says = not (slice_index_or says 0 1 == 0)
