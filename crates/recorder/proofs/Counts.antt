-- The ledger's positions stay below their type's end.
use Rattle.std.proofs.Common.{◌≡◌, ℕ, ◌*◌, ◌≤◌, List, length, ap, arith}
use Rattle.std.proofs.lemmas.List.Elements.{All-from_get_or}
use Rattle.std.proofs.lemmas.List.Sums.{sum_by-le}
use Rattle.recorder.specs.declared.ledger.Log.{Log}
use Rattle.records.specs.declared.settings.Sizes.{Sizes}
use Rattle.recorder.specs.Sound.{no_log, Sound}

pub position_fits : (z : Sizes) (logs : List Log) (position : ℕ) → length logs ≡ 4 → Sound z logs position → position ≤ 262140
position_fits z logs position four s =
    let m = sum_by-le (λ (l : Log). l.instructions) 65535 logs (All-from_get_or (λ (l : Log). l.instructions ≤ 65535) logs no_log (λ i _. s.1 i)) in
    let n : length logs * 65535 ≡ 262140 = ap (λ k. k * 65535) four in
    omega (arith, s.0, m, n)
