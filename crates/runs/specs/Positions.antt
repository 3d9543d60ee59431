-- Candidates by position.
use Rattle.std.specs.Prelude.{◌≡◌, ℕ, zero, suc, ◌<◌, ◌↔◌, List, [], ◌∷◌}
use Rattle.std.proofs.Math.Option.{Option, none, some}
use Rattle.std.proofs.Math.Decide.{dec_lt}
use Rattle.runs.specs.Runs.{Event, Run, Instr, core_of, choose, if_same, done, turns}
use Rattle.runs.specs.Candidates.{Candidate, candidate}
use Rattle.runs.specs.Recording.{In}

-- No member stands twice.
abbrev pub Once : {A : Type 0} → List A → Type 0
Once [] = Unit {0}
Once (a ∷ l) = (In a l → ⊥) × Once l

-- The position of instruction x in the run.
abbrev pub position : Run → Instr → ℕ
position [] x = 0
position (e ∷ h) x =
    if_same (core_of e) x.core (if_same x.count (suc (done h x.core)) (suc (turns h)) (position h x)) (position h x)

-- Each member has a larger key than all behind it.
abbrev pub Falls : {A : Type 0} → (A → ℕ) → List A → Type 0
Falls key [] = Unit {0}
Falls {A} key (y ∷ l) = ((z : A) → In z l → key z < key y) × Falls key l

-- The list holds exactly the candidates of e after h, the latest position first.
pub record Newest (h : Run) (e : Event) (l : List Candidate) : Type 0 where
  pub members : (y : Candidate) → In y l ↔ (candidate h e y.source.core ≡ some y)
  pub falls : Falls (λ y. position h y.source) l

abbrev pub insert : {A : Type 0} → (A → ℕ) → A → List A → List A
insert key y [] = y ∷ []
insert key y (z ∷ l) = choose (dec_lt (key z) (key y)) (y ∷ z ∷ l) (z ∷ insert key y l)

abbrev pub add : {A : Type 0} → (A → ℕ) → Option A → List A → List A
add key none l = l
add key (some y) l = insert key y l

-- What f gives for the cores below n, the largest key first.
abbrev pub gather : {A : Type 0} → (A → ℕ) → (ℕ → Option A) → ℕ → List A
gather key f zero = []
gather key f (suc n) = add key (f n) (gather key f n)
