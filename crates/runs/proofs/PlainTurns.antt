-- The turns of the plain memory: an instruction is a turn with the turns before it.
use Rattle.std.proofs.Common.{◌≡◌, ℕ, suc, ◌≤◌, ◌≢◌, ◌⊎◌, List, ◌∷◌, get_or}
use Rattle.cores.specs.declared.interface.Request.{Request}
use Rattle.cores.specs.declared.interface.Request.TheVariants.{Halt, Local, Read, Write, Exchange}
use Rattle.cores.specs.Memory.{Rules, Memory, Outcome, outcome, plain, Accepted}
use Rattle.runs.specs.Recording.{Arc, In}

-- among the turns u, core j had one when the turns before it were t
pub data At : List ℕ → ℕ → List ℕ → Type 0 where
  here : {j : ℕ} {t : List ℕ} → At (j ∷ t) j t
  there : {k j : ℕ} {u t : List ℕ} → At u j t → At (k ∷ u) j t

-- how many instructions core j has done after the turns t
abbrev pub done_by : Rules → Memory → List ℕ → ℕ → ℕ
done_by K m t j = get_or (plain K m t).counts j 0

-- e is an instruction of the run over the turns u
abbrev pub Performed : Rules → Memory → List ℕ → Outcome → Type 0
Performed K m u e = (t : List ℕ) × At u e.core t × (e ≡ outcome K (plain K m t) e.core)

abbrev pub Touches : Request → ℕ → Type 0
Touches Halt c = ⊥
Touches Local c = ⊥
Touches (Read k) c = k ≡ c
Touches (Write k v) c = k ≡ c
Touches (Exchange k v) c = k ≡ c

abbrev pub Stores : Request → ℕ → Type 0
Stores Halt c = ⊥
Stores Local c = ⊥
Stores (Read k) c = ⊥
Stores (Write k v) c = k ≡ c
Stores (Exchange k v) c = k ≡ c

-- two requests of different cores on one cell, one of them a store
abbrev pub Meeting : ℕ → Request → ℕ → Request → Type 0
Meeting i p j q = (i ≢ j) × ((c : ℕ) × ((Stores p c × Touches q c) ⊎ (Touches p c × Stores q c)))

-- where d says how many instructions of each core are done: with the target of an arc its source is done
unfoldable pub Closed : List Arc → (ℕ → ℕ) → Type 0
Closed arcs d = (a : Arc) → In a arcs → a.target.count ≤ d a.target.core → a.source.count ≤ d a.source.core

-- every arc leads from an instruction to a later one
abbrev pub Forward : Rules → Memory → List ℕ → List Arc → Type 0
Forward K m u arcs =
    (a : Arc) → In a arcs →
    (s : List ℕ) × (t : List ℕ) × At t a.source.core s × At u a.target.core t
    × (a.source.count ≡ suc (done_by K m s a.source.core)) × (a.target.count ≡ suc (done_by K m t a.target.core))

-- of two instructions that meet at a cell, the earlier is done with the later
abbrev pub Covered : Rules → Memory → List ℕ → List Arc → Type 0
Covered K m u arcs =
    (i : ℕ) (s : List ℕ) (j : ℕ) (t : List ℕ) → At t i s → At u j t →
    Meeting i (outcome K (plain K m s) i).request j (outcome K (plain K m t) j).request →
    (d : ℕ → ℕ) → Closed arcs d → suc (done_by K m t j) ≤ d j → suc (done_by K m s i) ≤ d i

-- what the replay of the turns u needs of its arcs
pub record Guided (K : Rules) (m : Memory) (u : List ℕ) (arcs : List Arc) : Type 0 where
  pub accepted : Accepted K m u
  pub forward : Forward K m u arcs
  pub covered : Covered K m u arcs
