-- What is remembered of the accesses to each cell, and the candidates that it gives.
use Rattle.std.specs.Prelude.{ℕ, ◌+◌, Bool, false, cond, ◌&&◌, List, [], ◌∷◌, Some, None, Option, ◌==◌, nat_eq, nat_le, nat_lt, slice_index_or, slice_set}
use Rattle.reducers.specs.declared.interface.AccessKind.{AccessKind}
use Rattle.reducers.specs.declared.interface.AccessKind.TheVariants.{Read, Write}
use Rattle.accesses.specs.declared.access.Access.{Access}
use Rattle.accesses.specs.declared.access.Candidate.{Candidate}
use Rattle.accesses.specs.declared.history.CellHistory.{CellHistory}

abbrev pub no_reads : List (Option Access)
no_reads = None ∷ None ∷ None ∷ None ∷ []

-- a cell that nobody has accessed
abbrev pub untouched : CellHistory
untouched = record { last_write = None; reads = no_reads }

-- what stands for a cell that there is not
abbrev pub no_cell : CellHistory
no_cell = record { last_write = None; reads = [] }

-- a write forgets the reads before it
abbrev pub remembered : CellHistory → Access → AccessKind → CellHistory
remembered h a Write = record { last_write = Some a; reads = no_reads }
remembered h a Read = record { last_write = h.last_write; reads = slice_set h.reads a.core (Some a) }

abbrev pub candidate : Access → AccessKind → Candidate
candidate a w = record { source = record { core = a.core; count = a.count }; kind = w; position = a.position }

-- the last write, if it is by a core that the test lets pass
abbrev pub write_if : (ℕ → Bool) → Option Access → Option Candidate
write_if p None = None
write_if p (Some a) = cond (p a.core) (Some (candidate a Write)) None

abbrev pub read_or : Option Access → Option Candidate → Option Candidate
read_or None o = o
read_or (Some a) o = Some (candidate a Read)

-- from core i of P its remembered read, or else the last write, if that core made it
abbrev pub from_core : ℕ → CellHistory → ℕ → Option Candidate
from_core P h i = cond (nat_le P i) None (read_or (slice_index_or h.reads i None) (write_if (λ k. nat_eq k i) h.last_write))

-- the k-th of the cores other than j
abbrev pub other : ℕ → ℕ → ℕ
other j k = cond (nat_lt k j) k (k + 1)

-- no turn has position 0
abbrev pub position_of : Option Candidate → ℕ
position_of None = 0
position_of (Some x) = x.position

abbrev pub put : Option Candidate → List (Option Candidate) → List (Option Candidate)
put x [] = x ∷ []
put x (y ∷ ys) = cond (nat_le (position_of y) (position_of x)) (x ∷ y ∷ ys) (y ∷ put x ys)

abbrev pub latest_first : List (Option Candidate) → List (Option Candidate)
latest_first [] = []
latest_first (x ∷ xs) = put x (latest_first xs)

-- of a read the last write, if another core made it; of a write what each other core did last
abbrev pub candidates_of : ℕ → CellHistory → ℕ → AccessKind → List (Option Candidate)
candidates_of P h j Read = write_if (λ k. cond (k == j) false (nat_lt k P)) h.last_write ∷ None ∷ None ∷ []
candidates_of P h j Write = latest_first (from_core P h (other j 0) ∷ from_core P h (other j 1) ∷ from_core P h (other j 2) ∷ [])

-- the candidates of an access of core j to cell c
abbrev pub candidates_at : ℕ → List CellHistory → ℕ → ℕ → AccessKind → List (Option Candidate)
candidates_at P cells c j w = cond (nat_lt j 4 && nat_lt c 256) (candidates_of P (slice_index_or cells c no_cell) j w) (None ∷ None ∷ None ∷ [])

abbrev pub remembering : List CellHistory → ℕ → Access → AccessKind → List CellHistory
remembering cells c a w = cond (nat_lt a.core 4 && nat_lt c 256) (slice_set cells c (remembered (slice_index_or cells c no_cell) a w)) cells

-- 1 for a candidate, 0 for none
abbrev pub one : Option Candidate → ℕ
one None = 0
one (Some x) = 1

-- how many candidates there are
abbrev pub present : List (Option Candidate) → ℕ
present [] = 0
present (x ∷ xs) = one x + present xs
