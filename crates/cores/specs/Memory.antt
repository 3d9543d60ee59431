-- The plain memory: cells, the states of the cores, and how many instructions each core has done.
use Rattle.std.specs.Prelude.{◌≡◌, ℕ, suc, Bool, true, false, cond, ◌&&◌, List, [], ◌∷◌, length, get_or, replicate, Some, None, Option, ◌==◌, nat_lt, slice_index, slice_index_or, slice_set}
use Rattle.cores.specs.declared.interface.Request.{Request}
use Rattle.cores.specs.declared.interface.Request.TheVariants.{Halt, Local, Read, Write, Exchange}

-- the rules of a kind of core, over a fixed text: the next request of a state, and the state after it from the number brought
pub record Rules : Type 0 where
  pub next : List ℕ → Request
  pub after : List ℕ → ℕ → List ℕ

-- the rules of a kind of core over a text
abbrev pub rules : (List ℕ → List ℕ → Request) → (List ℕ → List ℕ → ℕ → List ℕ) → List ℕ → Rules
rules next after text = record { next = next text; after = after text }

pub record Memory : Type 0 where
  pub cells : List ℕ
  pub states : List (List ℕ)
  pub counts : List ℕ

-- instruction `count` of `core` as it was carried out: what it asked, the number brought, the state left
pub record Outcome : Type 0 where
  pub core : ℕ
  pub count : ℕ
  pub request : Request
  pub number : ℕ
  pub state : List ℕ

-- the number that a request brings
abbrev pub brought : Request → List ℕ → ℕ
brought Halt cs = 0
brought Local cs = 0
brought (Read c) cs = slice_index cs c
brought (Write c v) cs = 0
brought (Exchange c v) cs = slice_index cs c

-- the cells after a request
abbrev pub stored : Request → List ℕ → List ℕ
stored Halt cs = cs
stored Local cs = cs
stored (Read c) cs = cs
stored (Write c v) cs = slice_set cs c v
stored (Exchange c v) cs = slice_set cs c v

-- whether a request can be carried out: it is not halt, and its cell exists
abbrev pub able : Request → ℕ → Bool
able Halt n = false
able Local n = true
able (Read c) n = nat_lt c n
able (Write c v) n = nat_lt c n
able (Exchange c v) n = nat_lt c n

-- what core j does next
unfoldable pub outcome : Rules → Memory → ℕ → Outcome
outcome K m j =
    let s : List ℕ = get_or m.states j [] in
    let n : ℕ = brought (K.next s) m.cells in
    record { core = j; count = suc (slice_index m.counts j); request = K.next s; number = n; state = K.after s n }

-- what an instruction leaves
unfoldable pub effect : Outcome → Memory → Memory
effect e m = record {
  cells = stored e.request m.cells;
  states = slice_set m.states e.core e.state;
  counts = slice_set m.counts e.core e.count;
}

-- one turn of core j
abbrev pub turned : Rules → Memory → ℕ → Memory
turned K m j = effect (outcome K m j) m

abbrev pub accepts : Rules → Memory → ℕ → Bool
accepts K m j = nat_lt j (length m.states) && able (K.next (slice_index_or m.states j [])) (length m.cells)

abbrev pub start : List ℕ → List (List ℕ) → Memory
start cs ss = record { cells = cs; states = ss; counts = replicate (length ss) 0 }

-- the memory after some turns, the newest first
abbrev pub plain : Rules → Memory → List ℕ → Memory
plain K m [] = m
plain K m (j ∷ t) = turned K (plain K m t) j

-- each of the turns was accepted
abbrev pub Accepted : Rules → Memory → List ℕ → Type 0
Accepted K m [] = Unit {0}
Accepted K m (j ∷ t) = (accepts K (plain K m t) j ≡ true) × Accepted K m t

-- what the turns carried out, the newest first
abbrev pub outcomes : Rules → Memory → List ℕ → List Outcome
outcomes K m [] = []
outcomes K m (j ∷ t) = outcome K (plain K m t) j ∷ outcomes K m t

-- instruction j:b of a run: what it asked, the number brought, the state left
abbrev pub instruction : List Outcome → ℕ → ℕ → Option Outcome
instruction [] j b = None
instruction (e ∷ es) j b = cond (e.core == j && e.count == b) (Some e) (instruction es j b)

-- the memory after turns that are fed with their core and whether they were refused, the newest first
abbrev pub fed : Rules → Memory → List (ℕ × Bool) → Memory
fed K m [] = m
fed K m ((j, refused) ∷ f) = cond refused (fed K m f) (turned K (fed K m f) j)

-- the cores of the turns that were not refused
abbrev pub unrefused : List (ℕ × Bool) → List ℕ
unrefused [] = []
unrefused ((j, refused) ∷ f) = cond refused (unrefused f) (j ∷ unrefused f)

abbrev pub RefusedTurnsChangeNothing : Type 0
RefusedTurnsChangeNothing = (K : Rules) (m : Memory) (f : List (ℕ × Bool)) → fed K m f ≡ plain K m (unrefused f)
