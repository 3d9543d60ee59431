-- Reading the arcs to one instruction, one after another: in each round, what is read from the place on gives what the whole gives.
use Rattle.std.proofs.Common.{◌≡◌, ℕ, zero, suc, ◌+◌, ◌-◌, ◌<◌, ◌≤◌, Bool, true, false, cond, ◌&&◌, eqb, ltb, ◌≢◌, List, ◌∷◌, length, get_or, Some, None, Ok, Err, Option, Result, sym, refl, ap, ◌∙◌, arith}
use Rattle.std.proofs.lemmas.Bool.{eq-eqb, ne_eqb, cond-true, cond-false}
use Rattle.records.specs.declared.reading.Reader.{Reader}
use Rattle.records.specs.declared.reading.SavedPlace.{SavedPlace}
use Rattle.records.specs.declared.reading.State.{State}
use Rattle.records.specs.declared.reading.State.TheVariants.{Before, Among, After}
use Rattle.records.specs.declared.settings.Heading.{Heading}
use Rattle.records.specs.declared.settings.Sizes.{Sizes}
use Rattle.records.specs.Faults.{Fault, bad_setting, log_fault}
use Rattle.records.specs.Format.{LogArc, head, arc, end}
use Rattle.records.specs.Reading.{Sight, View, view, held, resumed, reader_at, reader_as}
use Rattle.records.specs.Settings.{fits, log_of, heading_of}
use Rattle.records.proofs.Looking.{held_fits}
use Rattle.records.specs.declared.format.Source.{Source}
use Rattle.replayer.specs.declared.group.Group.{Group}
use Rattle.replayer.specs.Groups.{ArcSight, arc_of, arc_seen, at_place, Grouped, none_at, joined, picked, group, group_at, is_done, source_of, waits_for, or_else, first_source, held_up, read_group}

-- an arc that is seen stands in the log, and the place behind it is further on
record ArcThere (at : ℕ) (x : Sight) (a : LogArc) (p : SavedPlace) : Type 0 where
  state : State
  seen : x ≡ Ok (Some (arc a, state))
  offset : p.offset ≡ at + 7

arc_there : (at : ℕ) (x : Sight) (a : LogArc) (p : SavedPlace) → arc_of at x ≡ Ok (Some (a, p)) → ArcThere at x a p
arc_there at (Ok (Some (arc b, Among last latest m))) a p q =
    let v : ◌≡◌ {A = LogArc × SavedPlace} (b, record { offset = at + 7; last = last; latest = latest; arcs = m }) (a, p) = cc in
    record { state = Among last latest m; seen = ap (λ w. Ok (Some (arc w.0, Among last latest m))) v; offset = sym (ap (λ w. w.1.offset) v) }
arc_there at (Ok (Some (arc b, Before))) a p q = absurd cc
arc_there at (Ok (Some (arc b, After n))) a p q = absurd cc
arc_there at (Ok (Some (head _ _ _, t))) a p q = absurd cc
arc_there at (Ok (Some (end _ _, t))) a p q = absurd cc
arc_there at (Ok None) a p q = absurd cc
arc_there at (Err f) a p q = absurd cc

pub arc_fits : (counts : List ℕ) (v : View) (a : LogArc) (p : SavedPlace) → arc_seen counts v ≡ Ok (Some (a, p)) → (p.offset ≡ v.cursor + 7) × (7 ≤ length v.log - v.cursor)
arc_fits counts v a p q =
    let w = arc_there v.cursor (held counts v.heading v.log v.cursor v.state) a p q in
    (w.offset, held_fits counts v.heading v.log v.cursor v.state (arc a) w.state w.seen)

else_none : (w : Option Source) → or_else w None ≡ w
else_none (Some s) = refl
else_none None = refl

waits_one : (done : List ℕ) (w : Option Source) (a : LogArc) (arcs : List LogArc) →
    or_else w (waits_for done (a ∷ arcs)) ≡ or_else (first_source w (source_of a) done) (waits_for done arcs)
waits_one done (Some s) a arcs = refl
waits_one done None a arcs = go (is_done done (source_of a))
  where
    go : (b : Bool) → cond b (waits_for done arcs) (Some (source_of a)) ≡ or_else (cond b None (Some (source_of a))) (waits_for done arcs)
    go true = refl
    go false = refl

held_joined : (done : List ℕ) (w : Option Source) (a : LogArc) (x : Result Grouped Fault) →
    held_up done w (joined a x) ≡ held_up done (first_source w (source_of a) done) x
held_joined done w a (Ok x) = ap (λ v. Ok (record { place = x.behind; waits = v })) (waits_one done w a x.arcs)
held_joined done w a (Err f) = refl

module _ (counts : List ℕ) (g : Heading) (log done : List ℕ) (target : ℕ) (all : Result Group (List ℕ)) where
  abbrev look : SavedPlace → ArcSight
  look p = arc_seen counts (at_place g log p)

  abbrev onward : ℕ → SavedPlace → Result Grouped Fault
  onward f p = group look target f p

  -- what is read from a place on, where w is waited for so far, gives the whole
  pub record Reading (p : SavedPlace) (w : Option Source) : Type 0 where
    pub fuel : ℕ
    pub enough : length log - p.offset < fuel
    pub same : held_up done w (group (λ q. arc_seen counts (at_place g log q)) target fuel p) ≡ all

  module _ (p : SavedPlace) (w : Option Source) (r : Reading p w) where
    -- the round that is read now
    round : (f : ℕ) (x : ArcSight) → look p ≡ x → held_up done w (onward (suc f) p) ≡ held_up done w (picked target p x (onward f))
    round f x q = ap (λ x. held_up done w (picked target p x (onward f))) q

    pub reading_fault : (f : Fault) → look p ≡ Err f → Err (log_fault f) ≡ all
    reading_fault d q = go r.fuel r.enough r.same
      where
        go : (f : ℕ) → length log - p.offset < f → held_up done w (onward f p) ≡ all → Err (log_fault d) ≡ all
        go zero enough same = absurd (omega arith)
        go (suc f) enough same = sym (round f (Err d) q) ∙ same

    ends : (x : ArcSight) → look p ≡ x → ((f : ℕ) → picked target p x (onward f) ≡ Ok (none_at p)) → Ok (record { place = p; waits = w }) ≡ all
    ends x q stops = go r.fuel r.enough r.same
      where
        go : (f : ℕ) → length log - p.offset < f → held_up done w (onward f p) ≡ all → Ok (record { place = p; waits = w }) ≡ all
        go zero enough same = absurd (omega arith)
        go (suc f) enough same =
            ap (λ v. Ok (record { place = p; waits = v })) (sym (else_none w)) ∙ sym (round f x q ∙ ap (held_up done w) (stops f)) ∙ same

    pub reading_none : look p ≡ Ok None → Ok (record { place = p; waits = w }) ≡ all
    reading_none q = ends (Ok None) q (λ f. refl)

    pub reading_other : (a : LogArc) (next : SavedPlace) → look p ≡ Ok (Some (a, next)) → a.target ≢ target → Ok (record { place = p; waits = w }) ≡ all
    reading_other a next q n = ends (Ok (Some (a, next))) q (λ f. cond-false (eqb a.target target) _ _ (ne_eqb a.target target n))

    pub reading_more : (a : LogArc) (next : SavedPlace) → look p ≡ Ok (Some (a, next)) → a.target ≡ target → Reading next (first_source w (source_of a) done)
    reading_more a next q e = go r.fuel r.enough r.same
      where
        go : (f : ℕ) → length log - p.offset < f → held_up done w (onward f p) ≡ all → Reading next (first_source w (source_of a) done)
        go zero enough same = absurd (omega arith)
        go (suc f) enough same =
            let fits = arc_fits counts (at_place g log p) a next q in
            let this : picked target p (Ok (Some (a, next))) (onward f) ≡ joined a (onward f next) = cond-true (eqb a.target target) _ _ (eq-eqb a.target target e) in
            record {
              fuel = f;
              enough = omega (arith, fits.0, fits.1);
              same = sym (held_joined done w a (onward f next)) ∙ sym (round f (Ok (Some (a, next))) q ∙ ap (held_up done w) this) ∙ same;
            }

pub reading_starts : (counts : List ℕ) (g : Heading) (log done : List ℕ) (target : ℕ) (p : SavedPlace) →
    Reading counts g log done target (held_up done None (group_at counts g log target p)) p None
unfolding group_at
reading_starts counts g log done target p = record { fuel = suc (length log); enough = omega arith; same = refl }

-- a reader that goes on from a saved place
module _ (store : List ℕ) (z : Sizes) (j : ℕ) (p : SavedPlace) where
  resumed_if : (b : Bool) (v w : View) → Ok v ≡ cond b (Ok w) (Err bad_setting) → (b ≡ true) × (v ≡ w)
  resumed_if true v w q = (refl, cc)
  resumed_if false v w q = absurd cc

  pub refused_if : (b : Bool) (says : List ℕ) (v : View) (x : Result Group (List ℕ)) → Err says ≡ cond b (Ok v) (Err bad_setting) → Err says ≡ cond b x (Err bad_setting)
  refused_if true says v x q = absurd cc
  refused_if false says v x q = cc

  abbrev here : View
  here = at_place (heading_of z j) (log_of store z j) p

  pub resumes : (r : Reader) → reader_as (Ok r) ≡ reader_at store z j p.offset (resumed p) → (fits (length store) z && ltb j z.cores ≡ true) × (view r ≡ here)
  resumes r q = resumed_if (fits (length store) z && ltb j z.cores) (view r) here q

  pub whole_group : (counts done : List ℕ) (v : View) → fits (length store) z && ltb j z.cores ≡ true → v ≡ here →
      held_up done None (group_at counts v.heading v.log (get_or done j 0 + 1) p) ≡ read_group store z j p counts done
  unfolding read_group
  whole_group counts done v t q =
      ap (λ u. held_up done None (group_at counts u.heading u.log (get_or done j 0 + 1) p)) q ∙ sym (cond-true (fits (length store) z && ltb j z.cores) _ _ t)
