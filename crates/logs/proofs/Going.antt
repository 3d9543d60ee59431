-- A loop that reads record by record: in each round, the walk from where the reader stands gives what the whole walk gives.
use Rattle.std.proofs.Common.{◌≡◌, ℕ, zero, suc, ◌+◌, ◌-◌, ◌<◌, ◌≤◌, List, length, Some, None, Ok, Err, Option, Result, sym, refl, ap, ◌∙◌, subst, arith}
use Rattle.records.specs.declared.reading.State.{State}
use Rattle.records.specs.Faults.{Fault}
use Rattle.records.specs.Format.{Entry, bytes_of, record_numbers}
use Rattle.records.specs.Reading.{Sight, View, Next, moved, advanced, instructions_in}
use Rattle.records.proofs.Looking.{seen_fits, held_fits, size_pos}
use Rattle.records.proofs.Marks.{same_entry}
use Rattle.logs.specs.Walk.{Reading, prefixed, stopped, told, walk, look, look_held, reading_from, holding_from}

-- what a step of the reader says of what was seen
saw_some : (v w : View) (e : Entry) (x : Sight) → ◌≡◌ {A = Next} (record { says = Ok (Some (record_numbers e)); reader = w }) (advanced v x) →
    (x ≡ Ok (Some (e, w.state))) × (w ≡ moved v e w.state)
saw_some v w e (Ok (Some (y, t))) q =
    let p = ap (λ n. n.says) q in
    let r = ap (λ n. n.reader) q in
    let numbers : record_numbers e ≡ record_numbers y = cc in
    let same = same_entry e y numbers in
    let s : w.state ≡ t = ap (λ u. u.state) r in
    ((λ i. Ok (Some (sym same i, sym s i))), r ∙ (λ i. moved v (sym same i) (sym s i)))
saw_some v w e (Ok None) q = let p = ap (λ n. n.says) q in absurd cc
saw_some v w e (Err f) q = let p = ap (λ n. n.says) q in absurd cc

saw_none : (v w : View) (x : Sight) → ◌≡◌ {A = Next} (record { says = Ok None; reader = w }) (advanced v x) → (x ≡ Ok None) × (w ≡ v)
saw_none v w (Ok (Some (y, t))) q = let p = ap (λ n. n.says) q in absurd cc
saw_none v w (Ok None) q = (refl, ap (λ n. n.reader) q)
saw_none v w (Err f) q = let p = ap (λ n. n.says) q in absurd cc

saw_fault : (v w : View) (d : Fault) (x : Sight) → ◌≡◌ {A = Next} (record { says = Err d; reader = w }) (advanced v x) → x ≡ Err d
saw_fault v w d (Ok (Some (y, t))) q = let p = ap (λ n. n.says) q in absurd cc
saw_fault v w d (Ok None) q = let p = ap (λ n. n.says) q in absurd cc
saw_fault v w d (Err f) q = let p = ap (λ n. n.says) q in (let same : f ≡ d = cc in ap Err same)

-- one step of a walk, by what is seen
module _ (see : View → Sight) (v : View) (f : ℕ) where
  pub walk_some : (e : Entry) (t : State) → see v ≡ Ok (Some (e, t)) → walk see (suc f) v ≡ prefixed e (walk see f (moved v e t))
  walk_some e t q = ap (λ x. told x v.state (λ e t. prefixed e (walk see f (moved v e t)))) q

  pub walk_none : see v ≡ Ok None → walk see (suc f) v ≡ stopped (Ok (instructions_in v.state))
  walk_none q = ap (λ x. told x v.state (λ e t. prefixed e (walk see f (moved v e t)))) q

  pub walk_fault : (d : Fault) → see v ≡ Err d → walk see (suc f) v ≡ stopped (Err d)
  walk_fault d q = ap (λ x. told x v.state (λ e t. prefixed e (walk see f (moved v e t)))) q

-- from v on, by G, the walk gives `all`
pub record Going {Y : Type 0} (G : Reading → Y) (see : View → Sight) (all : Y) (v : View) : Type 0 where
  pub fuel : ℕ
  pub enough : length v.log - v.cursor < fuel
  pub same : G (walk see fuel v) ≡ all

module _ {Y : Type 0} (G : Reading → Y) (see : View → Sight) (all : Y) (v : View) (w : Going G see all v) where
  going_fault : (d : Fault) → see v ≡ Err d → G (stopped (Err d)) ≡ all
  going_fault d q = go w.fuel w.enough w.same
    where
      go : (f : ℕ) → length v.log - v.cursor < f → G (walk see f v) ≡ all → G (stopped (Err d)) ≡ all
      go zero h p = absurd (omega arith)
      go (suc f) h p = sym (ap G (walk_fault see v f d q)) ∙ p

  going_none : see v ≡ Ok None → G (stopped (Ok (instructions_in v.state))) ≡ all
  going_none q = go w.fuel w.enough w.same
    where
      go : (f : ℕ) → length v.log - v.cursor < f → G (walk see f v) ≡ all → G (stopped (Ok (instructions_in v.state))) ≡ all
      go zero h p = absurd (omega arith)
      go (suc f) h p = sym (ap G (walk_none see v f q)) ∙ p

  going_some : (e : Entry) (t : State) → see v ≡ Ok (Some (e, t)) → length (bytes_of e) ≤ length v.log - v.cursor →
      (H : Reading → Y) → ((x : Reading) → G (prefixed e x) ≡ H x) → Going H see all (moved v e t)
  going_some e t q fits H past = go w.fuel w.enough w.same
    where
      go : (f : ℕ) → length v.log - v.cursor < f → G (walk see f v) ≡ all → Going H see all (moved v e t)
      go zero h p = absurd (omega arith)
      go (suc f) h p = record { fuel = f; enough = omega (arith, size_pos e); same = sym (ap G (walk_some see v f e t q) ∙ past (walk see f (moved v e t))) ∙ p }

-- the whole walk, and what is seen on it stands in the log
pub reading_starts : {Y : Type 0} (G : Reading → Y) (v : View) → Going G look (G (reading_from v)) v
unfolding reading_from
reading_starts G v = record { fuel = suc (length v.log); enough = omega arith; same = refl }

pub holding_starts : {Y : Type 0} (G : Reading → Y) (counts : List ℕ) (v : View) → Going G (look_held counts) (G (holding_from counts v)) v
unfolding holding_from
holding_starts G counts v = record { fuel = suc (length v.log); enough = omega arith; same = refl }

pub look_fits : (v : View) (e : Entry) (t : State) → look v ≡ Ok (Some (e, t)) → length (bytes_of e) ≤ length v.log - v.cursor
look_fits v e t q = seen_fits v.heading v.log v.cursor v.state e t q

pub held_look_fits : (counts : List ℕ) (v : View) (e : Entry) (t : State) → look_held counts v ≡ Ok (Some (e, t)) → length (bytes_of e) ≤ length v.log - v.cursor
held_look_fits counts v e t q = held_fits counts v.heading v.log v.cursor v.state e t q

-- a round of the loop: the reader at v answered, and stands at w now
module _ (see : View → Sight) (fits : (v : View) (e : Entry) (t : State) → see v ≡ Ok (Some (e, t)) → length (bytes_of e) ≤ length v.log - v.cursor)
    (v w : View) (says : Result (Option (List ℕ)) Fault) (step : ◌≡◌ {A = Next} (record { says = says; reader = w }) (advanced v (see v))) where
  saw : (e : Entry) → says ≡ Ok (Some (record_numbers e)) → (see v ≡ Ok (Some (e, w.state))) × (w ≡ moved v e w.state)
  saw e q = saw_some v w e (see v) ((λ i. record { says = sym q i; reader = w }) ∙ step)

  pub round_less : (e : Entry) → says ≡ Ok (Some (record_numbers e)) → length w.log - w.cursor < length v.log - v.cursor
  round_less e q =
      let p = saw e q in
      let log : length w.log ≡ length v.log = ap (λ u. length u.log) p.1 in
      let cursor : w.cursor ≡ v.cursor + length (bytes_of e) = ap (λ u. u.cursor) p.1 in
      omega (arith, size_pos e, fits v e w.state p.0)

  pub round_cursor : (e : Entry) → says ≡ Ok (Some (record_numbers e)) → w.cursor ≡ v.cursor + length (bytes_of e)
  round_cursor e q = ap (λ u. u.cursor) (saw e q).1

  pub round_log : (e : Entry) → says ≡ Ok (Some (record_numbers e)) → w.log ≡ v.log
  round_log e q = ap (λ u. u.log) (saw e q).1

  pub round_inside : (e : Entry) → says ≡ Ok (Some (record_numbers e)) → v.cursor + length (bytes_of e) ≤ length v.log
  round_inside e q = omega (arith, size_pos e, fits v e w.state (saw e q).0)

  pub round_again : {Y : Type 0} (G : Reading → Y) (all : Y) → Going G see all v → (e : Entry) → says ≡ Ok (Some (record_numbers e)) → (H : Reading → Y) → ((x : Reading) → G (prefixed e x) ≡ H x) → Going H see all w
  round_again G all g e q H past =
      let p = saw e q in
      subst (Going H see all) (sym p.1) (going_some G see all v g e w.state p.0 (fits v e w.state p.0) H past)

  pub round_fault : {Y : Type 0} (G : Reading → Y) (all : Y) → Going G see all v → (d : Fault) → says ≡ Err d → G (stopped (Err d)) ≡ all
  round_fault G all g d q = going_fault G see all v g d (saw_fault v w d (see v) ((λ i. record { says = sym q i; reader = w }) ∙ step))

  pub round_none : {Y : Type 0} (G : Reading → Y) (all : Y) → Going G see all v → says ≡ Ok None → G (stopped (Ok (instructions_in w.state))) ≡ all
  round_none G all g q =
      let p = saw_none v w (see v) ((λ i. record { says = sym q i; reader = w }) ∙ step) in
      ap (λ u. G (stopped (Ok (instructions_in u.state)))) p.1 ∙ going_none G see all v g p.0
