-- Sizes with which a recording may begin are enough for its turns, and to open it; and what passed a test is what was tested.
use Rattle.std.proofs.Common.{◌≡◌, ℕ, Bool, true, false, Some, None, refl, ap}
use Rattle.records.specs.declared.settings.Sizes.{Sizes}
use Rattle.records.specs.Settings.{settled, can_begin, passed_by}

pub begins_settled : (z : Sizes) (cores cells bytes : ℕ) → can_begin z cores cells bytes ≡ true → settled z cores cells bytes ≡ true
begins_settled z cores cells bytes e = e

pub let_through : (test : Bool) (z y : Sizes) → Some y ≡ passed_by test z → (test ≡ true) × (y ≡ z)
let_through true z y e = (refl, cc)
let_through false z y e = absurd cc

pub held_back : (test : Bool) (z : Sizes) → None ≡ passed_by test z → test ≡ false
held_back true z e = absurd cc
held_back false z e = refl

pub cores_of : {y z : Sizes} → y ≡ z → y.cores ≡ z.cores
cores_of e = ap (λ z. z.cores) e
