-- What the items of a text make a core do, item by item.
use Rattle.std.specs.Prelude.{◌≡◌, ℕ, ◌+◌, ◌*◌, ◌<◌, ◌≤◌, List, [], ◌∷◌, ◌++◌, length, Some, None, slice_index}
use Rattle.cores.specs.Text.{item_at}
use Rattle.cores.specs.Register.{register_first, register_next, register_after}
use Rattle.cores.specs.Script.{script_first, script_next, script_after}
use Rattle.cores.specs.declared.interface.Request.{Request}
use Rattle.cores.specs.declared.interface.Request.TheVariants.{Halt, Local, Read, Write, Exchange}

-- the items are whole: those from place 65,535 on, and what is behind the last whole item, are none
pub record Items : Type 0 where
  pub is_item : (text : List ℕ) (place : ℕ) → place < 65535 → 4 * place + 4 ≤ length text →
      item_at text place ≡ Some (slice_index text (4 * place) ∷ slice_index text (4 * place + 1) ∷ slice_index text (4 * place + 2) ∷ slice_index text (4 * place + 3) ∷ [])
  pub not_whole : (text : List ℕ) (place : ℕ) → length text < 4 * place + 4 → item_at text place ≡ None
  pub past_all : (text : List ℕ) (place : ℕ) → 65535 ≤ place → item_at text place ≡ None
  pub script_halts : (text : List ℕ) (place last number : ℕ) → item_at text place ≡ None →
      (script_next text (place ∷ last ∷ []) ≡ Halt) × (script_after text (place ∷ last ∷ []) number ≡ place ∷ last ∷ [])
  pub register_halts : (text : List ℕ) (place : ℕ) (registers : List ℕ) (number : ℕ) → item_at text place ≡ None →
      (register_next text (place ∷ registers) ≡ Halt) × (register_after text (place ∷ registers) number ≡ place ∷ registers)

-- the text that has an item at place 1, with bytes of others around it
abbrev around : List ℕ → List ℕ
around item = 9 ∷ 8 ∷ 7 ∷ 6 ∷ (item ++ (5 ∷ 4 ∷ 3 ∷ 2 ∷ []))

-- at place 1, with the number last brought: what the item requests, and the state once it is told a number
abbrev Script : List ℕ → Request → (ℕ → ℕ → List ℕ) → Type 0
Script item request later =
    (last number : ℕ) → (script_next (around item) (1 ∷ last ∷ []) ≡ request) × (script_after (around item) (1 ∷ last ∷ []) number ≡ later last number)

-- a script core starts with last number 0; a read and an exchange replace it by the number brought, local and a write keep it
pub record ScriptItems : Type 0 where
  pub first : (place : ℕ) → script_first place ≡ place ∷ 0 ∷ []
  pub local : Script (0 ∷ 3 ∷ 1 ∷ 44 ∷ []) Local (λ last number. 2 ∷ last ∷ [])
  pub read : Script (1 ∷ 3 ∷ 1 ∷ 44 ∷ []) (Read 3) (λ last number. 2 ∷ number ∷ [])
  pub write : Script (2 ∷ 3 ∷ 1 ∷ 44 ∷ []) (Write 3 300) (λ last number. 2 ∷ last ∷ [])
  pub exchange : Script (3 ∷ 3 ∷ 1 ∷ 44 ∷ []) (Exchange 3 300) (λ last number. 2 ∷ number ∷ [])
  pub kind_4 : Script (4 ∷ 3 ∷ 1 ∷ 44 ∷ []) Halt (λ last number. 1 ∷ last ∷ [])
  pub kind_255 : Script (255 ∷ 3 ∷ 1 ∷ 44 ∷ []) Halt (λ last number. 1 ∷ last ∷ [])

-- eight registers of different numbers, R2 given, and the state at a place
abbrev registers : ℕ → List ℕ
registers two = 0 ∷ 11 ∷ two ∷ 13 ∷ 14 ∷ 15 ∷ 16 ∷ 65530 ∷ []

-- at place 1, with R2 = 12: what the item requests, and the place and R2 once it is told a number; no other register changes
abbrev Register : List ℕ → Request → ℕ → (ℕ → ℕ) → Type 0
Register item request place two =
    (number : ℕ) → (register_next (around item) (1 ∷ registers 12) ≡ request) × (register_after (around item) (1 ∷ registers 12) number ≡ place ∷ registers (two number))

-- registers start at 0 and are named modulo 8: 10 is R2, 11 R3 and 15 R7; a cell is R3 + 250 = 263 modulo 256
pub record RegisterItems : Type 0 where
  pub first : (place : ℕ) → register_first place ≡ place ∷ 0 ∷ 0 ∷ 0 ∷ 0 ∷ 0 ∷ 0 ∷ 0 ∷ 0 ∷ []
  pub read : Register (1 ∷ 10 ∷ 3 ∷ 250 ∷ []) (Read 7) 2 (λ number. number)
  pub write : Register (2 ∷ 10 ∷ 3 ∷ 250 ∷ []) (Write 7 12) 2 (λ number. 12)
  pub exchange : Register (3 ∷ 2 ∷ 11 ∷ 250 ∷ []) (Exchange 7 12) 2 (λ number. number)
  pub constant : Register (4 ∷ 10 ∷ 1 ∷ 44 ∷ []) Local 2 (λ number. 300)
  pub sum : Register (5 ∷ 2 ∷ 11 ∷ 15 ∷ []) Local 2 (λ number. 7)
  pub difference : Register (6 ∷ 2 ∷ 3 ∷ 7 ∷ []) Local 2 (λ number. 19)
  pub jump : Register (7 ∷ 8 ∷ 1 ∷ 44 ∷ []) Local 300 (λ number. 12)
  pub no_jump : Register (7 ∷ 2 ∷ 1 ∷ 44 ∷ []) Local 2 (λ number. 12)
  pub operation_0 : Register (0 ∷ 2 ∷ 1 ∷ 44 ∷ []) Halt 1 (λ number. 12)
  pub operation_8 : Register (8 ∷ 2 ∷ 1 ∷ 44 ∷ []) Halt 1 (λ number. 12)
  pub operation_255 : Register (255 ∷ 2 ∷ 1 ∷ 44 ∷ []) Halt 1 (λ number. 12)
