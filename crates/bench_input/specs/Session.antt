-- A session as it is asked for, and the text that asks for it.
use Rattle.std.specs.Prelude.{◌≡◌, ℕ, ◌*◌, ◌<◌, ◌≤◌, List, ◌∷◌, ◌++◌, length, Some, vec_items}
use Rattle.std.specs.List.{AllByRecursion}
use Rattle.std.specs.Int.{IsInRange}
use Rattle.bench_input.specs.declared.input.Input.{Input}
use Rattle.bench_input.specs.declared.input.Kind.{Kind}
use Rattle.bench_input.specs.declared.input.Kind.TheVariants.{Script, Register}
use Rattle.bench_input.specs.declared.input.Reduction.{Reduction}
use Rattle.bench_input.specs.declared.input.Reduction.TheVariants.{KeepAll, Pairwise, Exact}
use Rattle.bench_input.specs.Numbers.{numbers}

pub record Session : Type 0 where
  pub kind : Kind
  pub reduction : Reduction
  pub cores : ℕ
  pub cells : ℕ
  -- four bytes to an item
  pub text : List ℕ
  -- the starting item of each core
  pub starts : List ℕ
  -- the core of each turn, which need not exist
  pub turns : List ℕ

abbrev pub session_of : Input → Session
session_of i = record {
  kind = i.kind;
  reduction = i.reduction;
  cores = i.cores;
  cells = i.cells;
  text = vec_items i.text;
  starts = vec_items i.starts;
  turns = vec_items i.turns;
}

abbrev pub kind_number : Kind → ℕ
kind_number Script = 0
kind_number Register = 1

abbrev pub reduction_number : Reduction → ℕ
reduction_number KeepAll = 0
reduction_number Pairwise = 1
reduction_number Exact = 2

-- the numbers of a session with so many items, in this order and no other
abbrev pub session_numbers : Session → ℕ → List ℕ
session_numbers s items =
    kind_number s.kind ∷ reduction_number s.reduction ∷ s.cores ∷ s.cells ∷ items ∷ (s.text ++ (s.starts ++ (length s.turns ∷ s.turns)))

-- the text bs writes the numbers of s, and they are in range
pub record Describes (bs : List ℕ) (s : Session) : Type 0 where
  pub items : ℕ
  pub order : numbers bs ≡ Some (session_numbers s items)
  pub cores : IsInRange 1 4 s.cores
  pub cells : IsInRange 1 256 s.cells
  pub few_items : items ≤ 256
  pub text : length s.text ≡ 4 * items
  pub bytes : AllByRecursion (λ b. b < 256) s.text
  pub starts : length s.starts ≡ s.cores
  pub few_turns : length s.turns ≤ 1024
