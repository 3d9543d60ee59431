-- The numbers of a reducer, and the most that each call may make of them.
use Rattle.std.specs.Prelude.{ℕ, ◌≤◌, max, Bool, cond, ◌&&◌, ◌==◌, nat_le, nat_lt}
use Rattle.reducers.specs.declared.interface.AccessKind.{AccessKind}
use Rattle.reducers.specs.declared.interface.AccessKind.TheVariants.{Read, Write}

-- known j i: up to which instruction core i precedes whatever j does next;
-- written c: the stamp of cell c's last write; read i c: the stamp of core i's latest read of cell c
pub record Numbers : Type 0 where
  pub known : ℕ → ℕ → ℕ
  pub written : ℕ → ℕ → ℕ
  pub read : ℕ → ℕ → ℕ → ℕ

abbrev pub zeros : Numbers
zeros = record { known = λ _ _. 0; written = λ _ _. 0; read = λ _ _ _. 0 }

-- how a reducer's numbers stand to their bounds: `≡` for the exact reducer, `⊑` for any
abbrev pub Meets : Type 1
Meets = Numbers → Numbers → Type 0

infix 4 ◌⊑◌
-- each number of n is at most that of b
pub record ◌⊑◌ (n b : Numbers) : Type 0 where
  pub known_le : (j i : ℕ) → n.known j i ≤ b.known j i
  pub written_le : (c k : ℕ) → n.written c k ≤ b.written c k
  pub read_le : (i c k : ℕ) → n.read i c k ≤ b.read i c k

abbrev pub core? : ℕ → Bool
core? i = nat_lt i 4

abbrev pub cell? : ℕ → Bool
cell? c = nat_lt c 256

-- the stamp of an access of core i to cell c
abbrev pub stamp : Numbers → ℕ → ℕ → AccessKind → ℕ → ℕ
stamp n i c Write = n.written c
stamp n i c Read = n.read i c

abbrev pub knows : Numbers → ℕ → ℕ → ℕ → Bool
knows n i a j = core? i && (core? j && nat_le a (n.known j i))

-- the arc i:a to j, where i:a was an access of that kind to cell c
abbrev pub taken : Numbers → ℕ → ℕ → ℕ → AccessKind → ℕ → Numbers
taken n i a c w j = record {
  known = λ t k. cond (t == j) (max (n.known j k) (cond (k == i) a (stamp n i c w k))) (n.known t k);
  written = n.written;
  read = n.read;
}

-- an access of j to cell c
abbrev pub noted : Numbers → ℕ → ℕ → AccessKind → Numbers
noted n j c Write = record {
  known = n.known;
  written = λ d. cond (d == c) (n.known j) (n.written d);
  read = n.read;
}
noted n j c Read = record {
  known = n.known;
  written = n.written;
  read = λ i d. cond (i == j && d == c) (n.known j) (n.read i d);
}
