-- Numbers that pass the tests of a session are in range and as many as they say.
use Rattle.std.proofs.Common.{◌≡◌, ℕ, ◌+◌, ◌≤◌, Bool, true, false, ◌&&◌, eqb, leb, List, length, get_or, drop, arith, length-drop}
use Rattle.std.specs.Int.{IsInRange, is_in_range}
use Rattle.std.proofs.lemmas.List.{length-take-le}
use Rattle.std.proofs.lemmas.Bool.{and_parts, and_from, leb-true, le-leb, eqb-true, eq-eqb, false_from_ne_true}
use Rattle.bench_input.specs.Described.{all_bytes, cores_of, text_size, text_of, starts_of, turns_at, sized, well_formed}

-- what the tests of sizes say
pub record Sizes (ns : List ℕ) : Type 0 where
  pub cores : IsInRange 1 4 (cores_of ns)
  pub cells : IsInRange 1 256 (get_or ns 3 0)
  pub items : get_or ns 4 0 ≤ 256
  pub turns : get_or ns (turns_at ns) 0 ≤ 1024
  pub whole : length ns ≡ turns_at ns + 1 + get_or ns (turns_at ns) 0

-- what the tests say
pub record Fits (ns : List ℕ) : Type 0 where
  pub sizes : Sizes ns
  pub kind : get_or ns 0 0 ≤ 1
  pub reduction : get_or ns 1 0 ≤ 2
  pub bytes : all_bytes (text_of ns) ≡ true

inside : (lo hi c : ℕ) → is_in_range lo hi c ≡ true → IsInRange lo hi c
inside lo hi c e = let p = and_parts (leb lo c) (leb c hi) e in (leb-true _ _ p.0, leb-true _ _ p.1)

is_within : (lo hi c : ℕ) → IsInRange lo hi c → is_in_range lo hi c ≡ true
is_within lo hi c h = and_from (leb lo c) (leb c hi) (le-leb _ _ h.0) (le-leb _ _ h.1)

module _ (ns : List ℕ) where
  abbrev t₁ : Bool
  t₁ = is_in_range 1 4 (cores_of ns)

  abbrev t₂ : Bool
  t₂ = is_in_range 1 256 (get_or ns 3 0)

  abbrev t₃ : Bool
  t₃ = leb (get_or ns 4 0) 256

  abbrev t₄ : Bool
  t₄ = leb (get_or ns (turns_at ns) 0) 1024

  abbrev t₅ : Bool
  t₅ = eqb (length ns) (turns_at ns + 1 + get_or ns (turns_at ns) 0)

  abbrev u₁ : Bool
  u₁ = leb (get_or ns 0 0) 1

  abbrev u₂ : Bool
  u₂ = leb (get_or ns 1 0) 2

  abbrev u₃ : Bool
  u₃ = all_bytes (text_of ns)

  pub fits_sizes : sized ns ≡ true → Sizes ns
  fits_sizes e =
      let b = and_parts t₁ (t₂ && (t₃ && (t₄ && t₅))) e in
      let c = and_parts t₂ (t₃ && (t₄ && t₅)) b.1 in
      let d = and_parts t₃ (t₄ && t₅) c.1 in
      let f = and_parts t₄ t₅ d.1 in
      record {
        cores = inside 1 4 _ b.0;
        cells = inside 1 256 _ c.0;
        items = leb-true _ _ d.0;
        turns = leb-true _ _ f.0;
        whole = eqb-true _ _ f.1;
      }

  pub starts_length : Sizes ns → length (starts_of ns) ≡ cores_of ns
  starts_length f = length-take-le (cores_of ns) (drop (5 + text_size ns) ns) (omega (arith, f.whole, length-drop (5 + text_size ns) ns))

  pub sized_so : Sizes ns → sized ns ≡ true
  sized_so f =
      and_from t₁ (t₂ && (t₃ && (t₄ && t₅))) (is_within 1 4 _ f.cores)
      (and_from t₂ (t₃ && (t₄ && t₅)) (is_within 1 256 _ f.cells) (and_from t₃ (t₄ && t₅) (le-leb _ _ f.items) (and_from t₄ t₅ (le-leb _ _ f.turns) (eq-eqb _ _ f.whole))))

  pub unsized : (Sizes ns → ⊥) → sized ns ≡ false
  unsized h = false_from_ne_true (sized ns) (λ e. h (fits_sizes e))

  pub fits : well_formed ns ≡ true → Fits ns
  fits e =
      let a = and_parts (sized ns) (u₁ && (u₂ && u₃)) e in
      let g = and_parts u₁ (u₂ && u₃) a.1 in
      let h = and_parts u₂ u₃ g.1 in
      record {
        sizes = fits_sizes a.0;
        kind = leb-true _ _ g.0;
        reduction = leb-true _ _ h.0;
        bytes = h.1;
      }

  pub tested : Fits ns → well_formed ns ≡ true
  tested f =
      and_from (sized ns) (u₁ && (u₂ && u₃)) (sized_so f.sizes)
      (and_from u₁ (u₂ && u₃) (le-leb _ _ f.kind) (and_from u₂ u₃ (le-leb _ _ f.reduction) f.bytes))
