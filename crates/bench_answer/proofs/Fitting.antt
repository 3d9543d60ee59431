-- Sizes in range fit buffers of just their lengths.
use Rattle.std.proofs.Common.{◌≡◌, ℕ, ◌*◌, ◌≤◌, true, refl, arith}
use Rattle.std.proofs.lemmas.Bool.{and_from, le-leb}
use Rattle.records.specs.Settings.{can_begin}
use Rattle.bench_answer.specs.Answer.{sizes_for}

pub settles : (P C cores cells bytes : ℕ) → 1 ≤ P → P ≤ 4 → 1 ≤ C → C ≤ 256 → cores ≡ P → cells ≡ C → bytes ≡ P * 4096 → can_begin (sizes_for P C) cores cells bytes ≡ true
settles P C cores cells bytes a b c d p e f =
    and_from _ _
    (and_from _ _ (le-leb 1 P a)
    (and_from _ _ (le-leb P 4 b)
    (and_from _ _ (le-leb 1 C c)
    (and_from _ _ (le-leb C 256 d)
    (and_from _ _ refl (and_from _ _ refl (le-leb (P * 4096) bytes (omega (arith, f)))))))))
    (and_from _ _ (le-leb P cores (omega (arith, p))) (le-leb C cells (omega (arith, e))))
