-- Runs of several cores, and the order of a run.
use Rattle.std.specs.Prelude.{◌≡◌, ℕ, suc, ◌<◌, ◌≤◌, ◌≢◌, ◌⊎◌, List, [], ◌∷◌}
use Rattle.std.proofs.Math.Decide.{ℕ_discrete}

-- What an instruction does to memory, and at which place. An exchange counts as a write.
pub data Access : Type 0 where
  local : Access
  read : ℕ → Access
  write : ℕ → Access

-- One turn: the core, and what it did.
pub data Event : Type 0 where
  ev : ℕ → Access → Event

-- The turns of a run, the newest first.
abbrev pub Run : Type 0
Run = List Event

-- Instruction `count` of core `core`, counted from 1.
pub record Instr : Type 0 where
  pub core : ℕ
  pub count : ℕ

abbrev pub core_of : Event → ℕ
core_of (ev j a) = j

abbrev pub access_of : Event → Access
access_of (ev j a) = a

abbrev pub choose : {A B : Type 0} → Dec A → B → B → B
choose (yes _) s t = s
choose (no _) s t = t

-- s if the two numbers are equal, or else t
abbrev pub if_same : {B : Type 0} → ℕ → ℕ → B → B → B
if_same m n s t = choose (ℕ_discrete m n) s t

-- How many instructions core k has done.
abbrev pub done : Run → ℕ → ℕ
done [] k = 0
done (e ∷ h) k = if_same (core_of e) k (suc (done h k)) (done h k)

-- The instruction that e is, after h.
abbrev pub next : Run → Event → Instr
next h e = record { core = core_of e; count = suc (done h (core_of e)) }

-- x is an instruction of the run.
abbrev pub Has : Run → Instr → Type 0
Has r x = (1 ≤ x.count) × (x.count ≤ done r x.core)

-- The position of the newest turn; positions are counted from 1.
abbrev pub turns : Run → ℕ
turns [] = 0
turns (e ∷ h) = suc (turns h)

-- At position p of the run stands e, as instruction x.
abbrev pub Placed : Run → ℕ → Instr → Event → Type 0
Placed [] p x e = ⊥
Placed (f ∷ h) p x e = Placed h p x e ⊎ ((p ≡ suc (turns h)) × (x ≡ next h f) × (e ≡ f))

-- One place, and at least one write.
abbrev pub Clash : Access → Access → Type 0
Clash local b = ⊥
Clash (read c) local = ⊥
Clash (read c) (read d) = ⊥
Clash (read c) (write d) = c ≡ d
Clash (write c) local = ⊥
Clash (write c) (read d) = c ≡ d
Clash (write c) (write d) = c ≡ d

-- Different cores, one place, and at least one write.
abbrev pub Conflicting : Event → Event → Type 0
Conflicting e f = (core_of e ≢ core_of f) × Clash (access_of e) (access_of f)

-- x and y are instructions of the run, and x has the earlier position.
pub record Earlier (r : Run) (x y : Instr) : Type 0 where
  pub first : ℕ
  pub second : ℕ
  pub does_first : Event
  pub does_second : Event
  pub placed_first : Placed r first x does_first
  pub placed_second : Placed r second y does_second
  pub earlier : first < second

-- x comes before y in the run, and they conflict.
abbrev pub Conflict : Run → Instr → Instr → Type 0
Conflict r x y = (o : Earlier r x y) × Conflicting o.does_first o.does_second

-- The closure of program order, among the instructions that there are, and of given links.
pub data Closure (Is : Instr → Type 0) (Link : Instr → Instr → Type 0) : Instr → Instr → Type 0 where
  program : {x y : Instr} → Is x → Is y → x.core ≡ y.core → x.count < y.count → Closure Is Link x y
  link : {x y : Instr} → Link x y → Closure Is Link x y
  chain : {x y z : Instr} → Closure Is Link x y → Closure Is Link y z → Closure Is Link x z

-- The order of a run: the closure of program order and of all conflicts in position order.
abbrev pub Before : Run → Instr → Instr → Type 0
Before r = Closure (Has r) (Conflict r)

-- The reduction between cores: x of another core before y, and no third instruction between them.
pub record Reduced (r : Run) (x y : Instr) : Type 0 where
  pub cores : x.core ≢ y.core
  pub before : Before r x y
  pub direct : (z : Instr) → Before r x z → Before r z y → ⊥
