-- Logs fit in a store of their sizes, and a turn that is not barred has room for its arcs and its end record.
use Rattle.std.proofs.Common.{◌≡◌, ℕ, suc, ◌+◌, ◌-◌, ◌*◌, ◌<◌, ◌≤◌, true, false, List, [], ◌∷◌, map, length, Some, None, Option, refl, ap, ◌∙◌, arith}
use Rattle.std.proofs.lemmas.List.{length-append}
use Rattle.std.proofs.lemmas.Bool.{ltb-false}
use Rattle.std.proofs.lemmas.Bool.Decides.{nat_tests}
use Rattle.accesses.proofs.Few.{candidates_few}
use Rattle.accesses.specs.Histories.{present}
use Rattle.accesses.specs.declared.access.Access.{Access}
use Rattle.accesses.specs.declared.access.Candidate.{Candidate}
use Rattle.accesses.specs.declared.history.CellHistory.{CellHistory}
use Rattle.cores.specs.declared.interface.Request.{Request}
pub use Rattle.logs.proofs.WritingOut.{log_inside}
use Rattle.records.proofs.Splices.{splice_splice}
use Rattle.records.specs.Format.{head, arc, end, bytes_of, end_size, written, splice}
use Rattle.records.specs.Settings.{least_opened, fits, free_behind}
use Rattle.records.specs.declared.settings.Sizes.{Sizes}
use Rattle.reducers.specs.Numbers.{Numbers}
use Rattle.recorder.specs.Judged.{fresh, arcs_to}
use Rattle.recorder.specs.Refusals.{Book, log_in, touched, full, barred}
use Rattle.recorder.specs.Turns.{candidates_for, headed, headed_from}
use Rattle.recorder.specs.declared.rules.Touch.{Touch}
use Rattle.recorder.proofs.Passing.{unbarred}
use Rattle.recorder.proofs.Trails.{fresh_few, arcs_append}

-- what sizes that fit a store come to
pub record Fitting (bytes : ℕ) (z : Sizes) : Type 0 where
  pub few : z.cores ≤ 4
  pub cells : z.cells ≤ 256
  pub long : least_opened ≤ z.log_bytes
  pub short : z.log_bytes ≤ 16384
  pub all : z.cores * z.log_bytes ≤ bytes

pub fitting : (bytes : ℕ) (z : Sizes) → fits bytes z ≡ true → Fitting bytes z
fitting bytes z e =
    record { few = grind (arith, nat_tests); cells = grind (arith, nat_tests); long = grind (arith, nat_tests); short = grind (arith, nat_tests); all = grind (arith, nat_tests) }

pub log_room : (bytes : ℕ) (z : Sizes) (j : ℕ) → fits bytes z ≡ true → j < z.cores → j * z.log_bytes + z.log_bytes ≤ bytes
log_room bytes z j e h = let f = fitting bytes z e in omega (arith, log_inside j z.cores z.log_bytes h, f.all)

-- every arc takes seven bytes, and each is of a candidate
pub arcs_size : (by : Access) (n : Numbers) (xs : List (Option Candidate)) (ms : List Numbers) →
    (length (written (map arc (arcs_to by n xs ms))) ≡ 7 * length (arcs_to by n xs ms)) × (length (arcs_to by n xs ms) ≤ present xs)
arcs_size by n [] ms = (refl, omega arith)
arcs_size by n (x ∷ xs) [] = (refl, omega arith)
arcs_size by n (x ∷ xs) (m ∷ ms) =
    let p = fresh_few by n x in
    let q = arcs_size by m xs ms in
    let F = fresh by n x in
    let A = arcs_to by m xs ms in
    let u = length-append F A in
    let v = ap length (arcs_append F A) ∙ length-append (written (map arc F)) (written (map arc A)) in
    (omega (arith, p.0, q.0, u, v), omega (arith, p.1, q.1, u))

module _ (b : Book) (j : ℕ) (request : Request) (e : barred b j request ≡ 0) where
  -- so many arcs fit as there are candidates, and the end record behind them
  pub turn_fits : (history : List CellHistory) (bytes : ℕ) → fits bytes b.sizes ≡ true → j < b.sizes.cores →
      6 + 7 * (log_in b j).arcs ≤ (log_in b j).end → (log_in b j).end + end_size ≤ b.sizes.log_bytes →
      (k : ℕ) → k ≤ present (candidates_for b.sizes.cores history j (touched request)) →
      ((log_in b j).end + 7 * k + end_size ≤ b.sizes.log_bytes) × ((log_in b j).arcs + 3 ≤ 65535)
  turn_fits history bytes f here behind inside k h =
      let z = fitting bytes b.sizes f in
      let room = go (touched request) (unbarred b j request e).roomy in
      (omega (arith, room, h), omega (arith, z.short))
    where
      go : (o : Option Touch) → full b j o ≡ false →
          (log_in b j).end + end_size + 7 * present (candidates_for b.sizes.cores history j o) ≤ b.sizes.log_bytes
      go None q = omega arith
      go (Some t) q =
          let z = fitting bytes b.sizes f in
          let g = ltb-false (free_behind b.sizes (log_in b j).end) (7 * (b.sizes.cores - 1)) q in
          let m = candidates_few b.sizes.cores history t.cell j t.kind z.few here in
          omega (arith, g, m)

-- a head, and an end behind it of an access with no count
pub head_is : (z z' : Sizes) (core offset arcs : ℕ) (by : Access) (store mid new : List ℕ) → core * z.log_bytes ≤ length store →
    z' ≡ z → by ≡ record { core = core; count = 0; position = 0 } → offset ≡ 6 → arcs ≡ 0 →
    mid ≡ splice (core * z.log_bytes + 0) (bytes_of (head core z.cores z.cells)) store →
    new ≡ splice (by.core * z'.log_bytes + offset) (bytes_of (end by.count arcs)) mid → new ≡ headed z core store
head_is z z' core offset arcs by store mid new room ez eb eo ea p q =
    let base = core * z.log_bytes in
    let front : base + 0 ≡ base = omega arith in
    q
    ∙ (λ i. splice ((eb i).core * (ez i).log_bytes + eo i) (bytes_of (end (eb i).count (ea i))) mid)
    ∙ ap (splice (base + 6) (bytes_of (end 0 0))) (p ∙ ap (λ k. splice k (bytes_of (head core z.cores z.cells)) store) front)
    ∙ splice_splice base (bytes_of (head core z.cores z.cells)) (bytes_of (end 0 0)) store room

pub headed_more : (z : Sizes) (P core : ℕ) (store : List ℕ) → core < P →
    headed_from z (P - core) core store ≡ headed_from z (P - (core + 1)) (core + 1) (headed z core store)
unfolding headed_from
headed_more z P core store h =
    let e : P - core ≡ suc (P - (core + 1)) = omega arith in
    ap (λ k. headed_from z k core store) e

pub headed_all : (z : Sizes) (P core : ℕ) (store : List ℕ) → P ≤ core → headed_from z (P - core) core store ≡ store
unfolding headed_from
headed_all z P core store h =
    let e : P - core ≡ 0 = omega arith in
    ap (λ k. headed_from z k core store) e
