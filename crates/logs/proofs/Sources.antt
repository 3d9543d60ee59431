-- Where no core's largest source count is above its instructions, each log is held as it is read, and all logs pass.
use Rattle.std.proofs.Common.{◌≡◌, ℕ, zero, suc, ◌+◌, ◌<◌, ◌≤◌, max, Bool, true, false, cond, ltb, List, [], ◌∷◌, length, get_or, set, Some, None, Ok, Err, Result, sym, refl, ap, ◌∙◌, subst, inl, inr, arith}
use Rattle.std.specs.List.{zip, list_any}
use Rattle.std.proofs.lemmas.Bool.{and_parts, cases_eq, cases_lt, or_parts, le-ltb, ltb-true, ltb-false}
use Rattle.std.proofs.lemmas.List.{get_or-set_same, get_or-set_other, get_or_past, length-set}
use Rattle.records.specs.declared.reading.State.{State}
use Rattle.records.specs.declared.reading.State.TheVariants.{Before, Among, After}
use Rattle.records.specs.declared.settings.Heading.{Heading}
use Rattle.records.specs.declared.settings.Sizes.{Sizes}
use Rattle.records.specs.Faults.{Fault}
use Rattle.records.specs.Format.{LogArc, Entry, head, arc, end}
use Rattle.records.specs.Reading.{Sight, View, broken, arc_stands, one_more, seen, held_at, moved}
use Rattle.records.specs.Settings.{fits, log_of, heading_of}
use Rattle.records.proofs.Looking.{seen_both}
use Rattle.logs.specs.Session.{raised, largest_in, all_largest, read_log, hold_log, onward, gathered, tested, session, no_counts, outcome}
use Rattle.logs.specs.Walk.{Reading, prefixed, walk, look, look_held, reading_from, holding_from, at_front}
use Rattle.logs.proofs.Going.{walk_some, walk_none, walk_fault}
use Rattle.logs.proofs.Sessions.{few_cores, ok_err, same_counts, first_differs}

-- what reading on gives of a log: its verdict, and the largest source counts from these on
abbrev pub gives : List ℕ → Reading → Result ℕ Fault × List ℕ
gives largest r = (r.verdict, largest_in largest r.entries)

-- the largest counts only grow
raised_grows : (largest : List ℕ) (e : Entry) (i : ℕ) → get_or largest i 0 ≤ get_or (raised largest e) i 0
raised_grows largest (head _ _ _) i = omega arith
raised_grows largest (end _ _) i = omega arith
raised_grows largest (arc a) i = elim (cases_lt i (length largest)) [
  | inr past ↦ omega (arith, get_or_past largest i 0 past)
  | inl inside ↦ elim (cases_eq i a.source) [
    | inl same ↦ (
        let now = ap (λ k. get_or (raised largest (arc a)) k 0) same ∙ get_or-set_same largest a.source _ 0 (omega arith) in
        omega (arith, now, ap (λ k. get_or largest k 0) same))
    | inr other ↦ omega (arith, get_or-set_other largest a.source i (max (get_or largest a.source 0) a.count) 0 other)
  ]
]

largest_grows : (more : List Entry) (largest : List ℕ) (i : ℕ) → get_or largest i 0 ≤ get_or (largest_in largest more) i 0
largest_grows [] largest i = omega arith
largest_grows (e ∷ more) largest i = omega (arith, raised_grows largest e i, largest_grows more (raised largest e) i)

raised_size : (largest : List ℕ) (e : Entry) → length (raised largest e) ≡ length largest
raised_size largest (head _ _ _) = refl
raised_size largest (end _ _) = refl
raised_size largest (arc a) = length-set largest a.source _

largest_size : (more : List Entry) (largest : List ℕ) → length (largest_in largest more) ≡ length largest
largest_size [] largest = refl
largest_size (e ∷ more) largest = largest_size more (raised largest e) ∙ raised_size largest e

-- and an arc's count is among them
arc_kept : (largest : List ℕ) (a : LogArc) → a.source < length largest → a.count ≤ get_or (raised largest (arc a)) a.source 0
arc_kept largest a inside = omega (arith, get_or-set_same largest a.source (max (get_or largest a.source 0) a.count) 0 inside)

-- an arc that is seen comes from a core of the session
source_inside : (g : Heading) (log : List ℕ) (at : ℕ) (s : State) (a : LogArc) (t : State) → seen g log at s ≡ Ok (Some (arc a, t)) → a.source < g.cores
source_inside g log at Before a t q = let p = (seen_both g log at Before (arc a) t q).1 in absurd cc
source_inside g log at (After n) a t q = absurd cc
source_inside g log at (Among last latest m) a t q = go (arc_stands g last latest a.source a.count a.target) refl (seen_both g log at (Among last latest m) (arc a) t q).1
  where
    go : (b : Bool) → arc_stands g last latest a.source a.count a.target ≡ b → cond b (Ok (Among a.target (set latest a.source a.target) (one_more m))) (Err (broken 2 g.core at 4)) ≡ Ok t → a.source < g.cores
    go true stands p = ltb-true a.source g.cores (and_parts (ltb a.source g.cores) _ stands).0
    go false stands p = absurd cc

-- no largest count is above the instructions
module _ (counts : List ℕ) where
  abbrev NoneAbove : List ℕ → Type 0
  NoneAbove largest = (i : ℕ) → get_or largest i 0 ≤ get_or counts i 0

  -- what is seen is held
  held_too : (v : View) (e : Entry) (t : State) (largest : List ℕ) → v.heading.cores ≤ length largest → NoneAbove (raised largest e) → look v ≡ Ok (Some (e, t)) → look_held counts v ≡ Ok (Some (e, t))
  held_too v (head _ _ _) t largest few within q = ap (held_at counts v.heading v.cursor) q
  held_too v (end _ _) t largest few within q = ap (held_at counts v.heading v.cursor) q
  held_too v (arc a) t largest few within q =
      let inside = source_inside v.heading v.log v.cursor v.state a t q in
      let low : a.count ≤ get_or counts a.source 0 = omega (arith, within a.source, arc_kept largest a (omega arith)) in
      ap (held_at counts v.heading v.cursor) q
      ∙ ap (λ b. cond b (Err (broken 3 v.heading.core v.cursor 6)) (Ok (Some (arc a, t)))) (le-ltb (get_or counts a.source 0) a.count low)

  -- and so the walks are one
  same_walk : (f : ℕ) (v : View) (largest : List ℕ) → v.heading.cores ≤ length largest → NoneAbove (largest_in largest (walk look f v).entries) → walk (look_held counts) f v ≡ walk look f v
  same_walk zero v largest few within = refl
  same_walk (suc f) v largest few within = go (look v) refl (λ e t. same_walk f (moved v e t) (raised largest e) (omega (arith, raised_size largest e)))
    where
      go : (x : Sight) → look v ≡ x →
          ((e : Entry) (t : State) → NoneAbove (largest_in (raised largest e) (walk look f (moved v e t)).entries) → walk (look_held counts) f (moved v e t) ≡ walk look f (moved v e t)) →
          walk (look_held counts) (suc f) v ≡ walk look (suc f) v
      go (Err d) q again = walk_fault (look_held counts) v f d (ap (held_at counts v.heading v.cursor) q) ∙ sym (walk_fault look v f d q)
      go (Ok None) q again = walk_none (look_held counts) v f (ap (held_at counts v.heading v.cursor) q) ∙ sym (walk_none look v f q)
      go (Ok (Some (e, t))) q again =
          let step = walk_some look v f e t q in
          let later : NoneAbove (largest_in (raised largest e) (walk look f (moved v e t)).entries) = subst (λ r. NoneAbove (largest_in largest r.entries)) step within in
          let now : NoneAbove (raised largest e) = λ i. omega (arith, later i, largest_grows (walk look f (moved v e t)).entries (raised largest e) i) in
          walk_some (look_held counts) v f e t (held_too v e t largest few now q) ∙ ap (prefixed e) (again e t later) ∙ sym step

  module _ (store : List ℕ) (z : Sizes) where
    held_as_read : (j : ℕ) (largest : List ℕ) → z.cores ≤ length largest → NoneAbove (largest_in largest (read_log store z j).entries) → hold_log store z counts j ≡ read_log store z j
    unfolding reading_from holding_from
    held_as_read j largest few within = same_walk (suc (length (log_of store z j))) (at_front (heading_of z j) (log_of store z j)) largest few within

    all_grow : (k j : ℕ) (largest : List ℕ) (i : ℕ) → get_or largest i 0 ≤ get_or (all_largest store z k j largest) i 0
    unfolding all_largest
    all_grow zero j largest i = omega arith
    all_grow (suc k) j largest i =
        let es = (read_log store z j).entries in
        omega (arith, largest_grows es largest i, all_grow k (j + 1) (largest_in largest es) i)

    -- all logs that were read pass
    all_pass : (k j : ℕ) (before all largest : List ℕ) → z.cores ≤ length largest → gathered store z k j before ≡ Ok all → NoneAbove (all_largest store z k j largest) → tested store z counts k j ≡ Ok tt
    unfolding gathered tested all_largest
    all_pass zero j before all largest few read within = refl
    all_pass (suc k) j before all largest few read within =
        let es = (read_log store z j).entries in
        let now : NoneAbove (largest_in largest es) = λ i. omega (arith, within i, all_grow k (j + 1) (largest_in largest es) i) in
        go (read_log store z j).verdict refl (ap (λ r. r.verdict) (held_as_read j largest few now))
        (λ n more. all_pass k (j + 1) (set before j n) all (largest_in largest es) (omega (arith, largest_size es largest)) more within)
      where
        go : (x : Result ℕ Fault) → (read_log store z j).verdict ≡ x → (hold_log store z counts j).verdict ≡ (read_log store z j).verdict →
            ((n : ℕ) → gathered store z k (j + 1) (set before j n) ≡ Ok all → tested store z counts k (j + 1) ≡ Ok tt) →
            onward (hold_log store z counts j).verdict (λ _. tested store z counts k (j + 1)) ≡ Ok tt
        go (Err f) q held again = absurd (ok_err all f (sym read ∙ ap (λ x. onward x (λ n. gathered store z k (j + 1) (set before j n))) q))
        go (Ok n) q held again =
            ap (λ x. onward x (λ _. tested store z counts k (j + 1))) (held ∙ q)
            ∙ again n (sym (ap (λ x. onward x (λ n. gathered store z k (j + 1) (set before j n))) q) ∙ read)

-- what the test says
none_above : (largest counts : List ℕ) → length largest ≡ length counts → list_any (λ p. ltb p.1 p.0) (zip largest counts) ≡ false → (i : ℕ) → get_or largest i 0 ≤ get_or counts i 0
none_above [] counts size test i = omega arith
none_above (x ∷ xs) [] size test i = absurd (omega (arith, size))
none_above (x ∷ xs) (n ∷ counts) size test zero = ltb-false n x (or_parts (ltb n x) _ test).0
none_above (x ∷ xs) (n ∷ counts) size test (suc i) = none_above xs counts (omega (arith, size)) (or_parts (ltb n x) _ test).1 i

-- so where the test fails, one reading of the logs is enough
pub read_once : (store : List ℕ) (z : Sizes) (counts largest : List ℕ) → fits (length store) z ≡ true → length counts ≡ 4 → length largest ≡ 4 → 0 ∷ counts ≡ outcome (gathered store z z.cores 0 no_counts) →
    largest ≡ all_largest store z z.cores 0 no_counts → list_any (λ p. ltb p.1 p.0) (zip largest counts) ≡ false → 0 ∷ counts ≡ outcome (session store z)
read_once store z counts largest fit size₁ size₂ read kept test = go (gathered store z z.cores 0 no_counts) refl
  where
    within : (i : ℕ) → get_or (all_largest store z z.cores 0 no_counts) i 0 ≤ get_or counts i 0
    within = subst (λ l. (i : ℕ) → get_or l i 0 ≤ get_or counts i 0) kept (none_above largest counts (size₂ ∙ sym size₁) test)

    go : (r : Result (List ℕ) Fault) → gathered store z z.cores 0 no_counts ≡ r → 0 ∷ counts ≡ outcome (onward r (λ counts. onward (tested store z counts z.cores 0) (λ _. Ok counts)))
    go (Err f) q = absurd (first_differs 0 9 counts _ (read ∙ ap outcome q) (λ n. omega arith))
    go (Ok all) q =
        let same = same_counts counts all (read ∙ ap outcome q) in
        let pass = all_pass counts store z z.cores 0 no_counts all no_counts (few_cores (length store) z fit) q within in
        ap (λ c. 0 ∷ c) same ∙ sym (ap (λ r. outcome (onward r (λ _. Ok all))) (ap (λ c. tested store z c z.cores 0) (sym same) ∙ pass))
