-- What suffices has room for each part, what has no length is empty, and what begin does not refuse is done.
use Rattle.std.proofs.Common.{◌≡◌, ℕ, ◌≤◌, Bool, true, false, ◌&&◌, leb, List, [], ◌∷◌, length, Ok, Err, Result, IsOk, vec_capacity, refl, arith}
use Rattle.std.proofs.lemmas.Bool.{and_parts, leb-true}
use Rattle.records.specs.declared.settings.Sizes.{Sizes}
use Rattle.recorder.proofs.Ways.{number_not_zero}
use Rattle.recorder.specs.Turns.{begun_said}
use Rattle.recorder.specs.Refusals.{number_of}
use Rattle.recorder.specs.declared.rules.Refusal.{Refusal}
use Rattle.sessions.specs.Space.{suffices}
use Rattle.sessions.specs.declared.buffers.SessionBuffers.{SessionBuffers}

pub record RoomFor {K : Type 0} (b : SessionBuffers K) (z : Sizes) (turns steps : ℕ) : Type 0 where
  pub turns_fit : turns ≤ vec_capacity b.room.turns
  pub steps_fit : steps ≤ vec_capacity b.room.steps
  pub stepped_cells_fit : z.cells ≤ vec_capacity b.room.stepped_cells
  pub stepped_cores_fit : z.cores ≤ vec_capacity b.room.stepped_cores
  pub cells_fit : z.cells ≤ vec_capacity b.room.cells
  pub cores_fit : z.cores ≤ vec_capacity b.room.cores

pub room_for : {K : Type 0} (b : SessionBuffers K) (z : Sizes) (turns steps : ℕ) → suffices b z turns steps ≡ true → RoomFor b z turns steps
room_for b z turns steps h =
    let p = and_parts _ _ h in
    let q = and_parts _ _ p.1 in
    let r = and_parts _ _ q.1 in
    let s = and_parts _ _ r.1 in
    let t = and_parts _ _ s.1 in
    record {
      turns_fit = leb-true turns (vec_capacity b.room.turns) p.0;
      steps_fit = leb-true steps (vec_capacity b.room.steps) q.0;
      stepped_cells_fit = leb-true z.cells (vec_capacity b.room.stepped_cells) r.0;
      stepped_cores_fit = leb-true z.cores (vec_capacity b.room.stepped_cores) s.0;
      cells_fit = leb-true z.cells (vec_capacity b.room.cells) t.0;
      cores_fit = leb-true z.cores (vec_capacity b.room.cores) t.1;
    }

pub empty : {A : Type 0} (xs : List A) → length xs ≡ 0 → xs ≡ []
empty [] e = refl
empty (x ∷ xs) e = absurd (omega (arith, e))

pub neither : (a b : Bool) → b ≡ false → (a && b) ≡ false
neither true b e = e
neither false b e = refl

pub not_refused : (r : Result (Unit {0}) Refusal) → begun_said r ≡ 0 ∷ [] → IsOk r
not_refused (Ok d) q = refl
not_refused (Err e) q = let n : number_of e ≡ 0 = cc in absurd (number_not_zero e n)
