-- The loops over the cores of a session: what is still to be read gives what the whole session gives.
use Rattle.std.proofs.Common.{◌≡◌, ℕ, suc, ◌+◌, ◌-◌, ◌<◌, ◌≤◌, Bool, true, false, cond, ◌&&◌, ltb, List, length, set, Ok, Err, Result, sym, refl, ap, ◌∙◌, arith}
use Rattle.std.proofs.lemmas.Bool.{and_parts, ltb-true}
use Rattle.records.specs.declared.reading.Reader.{Reader}
use Rattle.records.specs.declared.reading.State.TheVariants.{Before}
use Rattle.records.specs.declared.settings.Sizes.{Sizes}
use Rattle.records.specs.Faults.{Fault, bad_setting}
use Rattle.records.specs.Reading.{View, view, reader_at, reader_as}
use Rattle.records.specs.Settings.{fits, log_of, heading_of}
use Rattle.logs.specs.Session.{read_log, hold_log, onward, gathered, tested, largest_in, all_largest}
use Rattle.logs.specs.Walk.{Reading, at_front}

cond_front : (b : Bool) (v w : View) (refused : List ℕ) → Ok v ≡ cond b (Ok w) (Err refused) → v ≡ w
cond_front true v w refused q = cc
cond_front false v w refused q = absurd cc

-- a new reader stands at the front of its core's log
pub new_reader : (store : List ℕ) (z : Sizes) (j : ℕ) (r : Reader) → reader_as (Ok r) ≡ reader_at store z j 0 Before → view r ≡ at_front (heading_of z j) (log_of store z j)
new_reader store z j r q = cond_front (fits (length store) z && ltb j z.cores) (view r) (at_front (heading_of z j) (log_of store z j)) bad_setting q

-- and its core is the session's
cond_true : {X Y : Type 0} (b : Bool) (v : X) (w : Result X Y) (e : Y) → Ok v ≡ cond b w (Err e) → b ≡ true
cond_true true v w e q = refl
cond_true false v w e q = absurd cc

pub reader_inside : (store : List ℕ) (z : Sizes) (j : ℕ) (r : Reader) → reader_as (Ok r) ≡ reader_at store z j 0 Before → j < z.cores
reader_inside store z j r q =
    ltb-true j z.cores (and_parts (fits (length store) z) (ltb j z.cores) (cond_true (fits (length store) z && ltb j z.cores) (view r) (Ok (at_front (heading_of z j) (log_of store z j))) bad_setting q)).1

-- what is read through a new reader is its core's log
pub read_here : (store : List ℕ) (z : Sizes) (j : ℕ) (r : Reader) → reader_as (Ok r) ≡ reader_at store z j 0 Before → (from : View → Reading) (x : Result ℕ Fault) → x ≡ (from (view r)).verdict →
    (from (at_front (heading_of z j) (log_of store z j))).verdict ≡ x
read_here store z j r new from x q = sym (q ∙ ap (λ v. (from v).verdict) (new_reader store z j r new))

module _ (store : List ℕ) (z : Sizes) (j : ℕ) (counts : List ℕ) where
  gathered_next : (k n : ℕ) → (read_log store z j).verdict ≡ Ok n → gathered store z (suc k) j counts ≡ gathered store z k (j + 1) (set counts j n)
  unfolding gathered
  gathered_next k n q = ap (λ x. onward x (λ n. gathered store z k (j + 1) (set counts j n))) q

  gathered_stop : (k : ℕ) (f : Fault) → (read_log store z j).verdict ≡ Err f → gathered store z (suc k) j counts ≡ Err f
  unfolding gathered
  gathered_stop k f q = ap (λ x. onward x (λ n. gathered store z k (j + 1) (set counts j n))) q

  gathered_none : gathered store z 0 j counts ≡ Ok counts
  unfolding gathered
  gathered_none = refl

  tested_next : (k n : ℕ) → (hold_log store z counts j).verdict ≡ Ok n → tested store z counts (suc k) j ≡ tested store z counts k (j + 1)
  unfolding tested
  tested_next k n q = ap (λ x. onward x (λ _. tested store z counts k (j + 1))) q

  tested_stop : (k : ℕ) (f : Fault) → (hold_log store z counts j).verdict ≡ Err f → tested store z counts (suc k) j ≡ Err f
  unfolding tested
  tested_stop k f q = ap (λ x. onward x (λ _. tested store z counts k (j + 1))) q

  tested_none : tested store z counts 0 j ≡ Ok tt
  unfolding tested
  tested_none = refl

  -- from core j on
  pub gathered_more : (n : ℕ) → j < z.cores → (read_log store z j).verdict ≡ Ok n →
      gathered store z (z.cores - j) j counts ≡ gathered store z (z.cores - (j + 1)) (j + 1) (set counts j n)
  gathered_more n h q =
      let e : z.cores - j ≡ suc (z.cores - (j + 1)) = omega arith in
      ap (λ k. gathered store z k j counts) e ∙ gathered_next (z.cores - (j + 1)) n q

  pub gathered_fault : (f : Fault) → j < z.cores → (read_log store z j).verdict ≡ Err f → gathered store z (z.cores - j) j counts ≡ Err f
  gathered_fault f h q =
      let e : z.cores - j ≡ suc (z.cores - (j + 1)) = omega arith in
      ap (λ k. gathered store z k j counts) e ∙ gathered_stop (z.cores - (j + 1)) f q

  pub gathered_all : z.cores ≤ j → gathered store z (z.cores - j) j counts ≡ Ok counts
  gathered_all h = let e : z.cores - j ≡ 0 = omega arith in ap (λ k. gathered store z k j counts) e ∙ gathered_none

  pub tested_more : (n : ℕ) → j < z.cores → (hold_log store z counts j).verdict ≡ Ok n →
      tested store z counts (z.cores - j) j ≡ tested store z counts (z.cores - (j + 1)) (j + 1)
  tested_more n h q =
      let e : z.cores - j ≡ suc (z.cores - (j + 1)) = omega arith in
      ap (λ k. tested store z counts k j) e ∙ tested_next (z.cores - (j + 1)) n q

  pub tested_fault : (f : Fault) → j < z.cores → (hold_log store z counts j).verdict ≡ Err f → tested store z counts (z.cores - j) j ≡ Err f
  tested_fault f h q =
      let e : z.cores - j ≡ suc (z.cores - (j + 1)) = omega arith in
      ap (λ k. tested store z counts k j) e ∙ tested_stop (z.cores - (j + 1)) f q

  pub tested_all : z.cores ≤ j → tested store z counts (z.cores - j) j ≡ Ok tt
  tested_all h = let e : z.cores - j ≡ 0 = omega arith in ap (λ k. tested store z counts k j) e ∙ tested_none

-- the same of the largest source counts
module _ (store : List ℕ) (z : Sizes) (j : ℕ) (largest : List ℕ) where
  largest_next : (k : ℕ) → all_largest store z (suc k) j largest ≡ all_largest store z k (j + 1) (largest_in largest (read_log store z j).entries)
  unfolding all_largest
  largest_next k = refl

  largest_none : all_largest store z 0 j largest ≡ largest
  unfolding all_largest
  largest_none = refl

  pub largest_more : j < z.cores → all_largest store z (z.cores - j) j largest ≡ all_largest store z (z.cores - (j + 1)) (j + 1) (largest_in largest (read_log store z j).entries)
  largest_more h =
      let e : z.cores - j ≡ suc (z.cores - (j + 1)) = omega arith in
      ap (λ k. all_largest store z k j largest) e ∙ largest_next (z.cores - (j + 1))

  pub largest_all : z.cores ≤ j → all_largest store z (z.cores - j) j largest ≡ largest
  largest_all h = let e : z.cores - j ≡ 0 = omega arith in ap (λ k. all_largest store z k j largest) e ∙ largest_none
