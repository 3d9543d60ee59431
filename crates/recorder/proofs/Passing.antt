-- What has passed the tests of a turn: settled sizes, a request that is not barred, and a turn that is not refused.
use Rattle.std.proofs.Common.{◌≡◌, ℕ, ◌<◌, ◌≤◌, Bool, true, false, cond, not, eqb, leb, length, refl, arith}
use Rattle.std.proofs.lemmas.Bool.{leb-false}
use Rattle.std.proofs.lemmas.Bool.Decides.{nat_tests}
use Rattle.cores.specs.Acting.{within}
use Rattle.cores.specs.Memory.{Rules}
use Rattle.cores.specs.declared.interface.Request.{Request}
use Rattle.records.specs.Settings.{fits, settled}
use Rattle.records.specs.declared.settings.Sizes.{Sizes}
use Rattle.recorder.specs.Refusals.{Book, log_in, halts, touched, full, barred}
use Rattle.recorder.specs.Turns.{World, asks, ready, refusal}

pub settled_parts : (z : Sizes) (cores cells bytes : ℕ) → settled z cores cells bytes ≡ true → (fits bytes z ≡ true) × (z.cores ≤ cores) × (z.cells ≤ cells) × (z.cores ≤ 4)
settled_parts z cores cells bytes e = (grind (arith, nat_tests), grind (arith, nat_tests), grind (arith, nat_tests), grind (arith, nat_tests))

pub record Unbarred (b : Book) (j : ℕ) (request : Request) : Type 0 where
  pub runs : halts request ≡ false
  pub left : eqb (log_in b j).instructions 65535 ≡ false
  pub inside : within request b.sizes.cells ≡ true
  pub roomy : full b j (touched request) ≡ false

pub unbarred : (b : Book) (j : ℕ) (request : Request) → barred b j request ≡ 0 → Unbarred b j request
unbarred b j request e =
    let t = go (halts request) (eqb (log_in b j).instructions 65535) (within request b.sizes.cells) (full b j (touched request)) e in
    record { runs = t.0; left = t.1; inside = t.2; roomy = t.3 }
  where
    go : (h s i f : Bool) → ◌≡◌ {A = ℕ} (cond h 2 (cond s 3 (cond i (cond f 5 0) 4))) 0 → (h ≡ false) × (s ≡ false) × (i ≡ true) × (f ≡ false)
    go true s i f q = absurd (omega arith)
    go false true i f q = absurd (omega arith)
    go false false false f q = absurd (omega arith)
    go false false true true q = absurd (omega arith)
    go false false true false q = (refl, refl, refl, refl)

-- a turn that is not refused
pub record Passed (K : Rules) (j : ℕ) (w : World) : Type 0 where
  pub fitting : fits (length w.tape.store) w.tape.book.sizes ≡ true
  pub cores : w.tape.book.sizes.cores ≤ length w.states
  pub cells : w.tape.book.sizes.cells ≤ length w.cells
  pub few : w.tape.book.sizes.cores ≤ 4
  pub here : j < w.tape.book.sizes.cores
  pub free : barred w.tape.book j (asks K j w) ≡ 0
  pub runs : halts (asks K j w) ≡ false
  pub left : eqb (log_in w.tape.book j).instructions 65535 ≡ false
  pub inside : within (asks K j w) w.tape.book.sizes.cells ≡ true

pub passed : (K : Rules) (j : ℕ) (w : World) → refusal K j w ≡ 0 → Passed K j w
unfolding refusal
passed K j w e =
    let b = w.tape.book in
    let h = go (ready w) (leb b.sizes.cores j) (barred b j (asks K j w)) e in
    let s = settled_parts b.sizes (length w.states) (length w.cells) (length w.tape.store) h.0 in
    let u = unbarred b j (asks K j w) h.2 in
    record { fitting = s.0; cores = s.1; cells = s.2; few = s.3; here = leb-false b.sizes.cores j h.1; free = h.2; runs = u.runs; left = u.left; inside = u.inside }
  where
    go : (r a : Bool) (n : ℕ) → cond (not r) 8 (cond a 1 n) ≡ 0 → (r ≡ true) × (a ≡ false) × (n ≡ 0)
    go false a n q = absurd (omega arith)
    go true true n q = absurd (omega arith)
    go true false n q = (refl, refl, q)
