-- A place of a log behind which known entries stand: what is read from it on are those.
use Rattle.std.proofs.Common.{◌≡◌, ℕ, zero, suc, ◌+◌, ◌<◌, ◌≤◌, Bool, true, false, cond, eqb, ltb, List, [], ◌∷◌, ◌++◌, length, get_or, Some, None, Ok, Err, Result, sym, refl, ap, ◌∙◌, subst, inl, inr, arith}
use Rattle.std.specs.List.{AllByRecursion}
use Rattle.std.proofs.lemmas.List.{append_assoc, length-append}
use Rattle.std.proofs.lemmas.Bool.{eq-eqb, ne_eqb, le-ltb, cond-true, cond-false, cases_eq}
use Rattle.records.specs.declared.reading.SavedPlace.{SavedPlace}
use Rattle.records.specs.declared.reading.State.{State}
use Rattle.records.specs.declared.settings.Heading.{Heading}
use Rattle.records.specs.Faults.{Fault}
use Rattle.records.specs.Format.{LogArc, Entry, head, arc, end}
use Rattle.records.specs.Reading.{broken, arc_stands, resumed, held_at}
use Rattle.records.proofs.Looking.{seen_both}
use Rattle.logs.specs.Lawful.{Between, arcs_in, Behind, Lawful, Within, Holds}
use Rattle.logs.proofs.Arcs.{all_append, arcs_append}
use Rattle.logs.proofs.Paths.{Path, path, size}
use Rattle.replayer.specs.Following.{arcs_to, Stands}
use Rattle.replayer.specs.Groups.{arc_of, arc_seen, at_place, past, past_all, Grouped, none_at, joined, picked, group, group_at}
use Rattle.replayer.specs.Steps.{behind_head}

-- filters, by the first arc
module _ (t : ℕ) (a : LogArc) (more : List LogArc) where
  to_here : a.target ≡ t → arcs_to t (a ∷ more) ≡ a ∷ arcs_to t more
  to_here e = cond-true (eqb a.target t) (a ∷ arcs_to t more) (arcs_to t more) (eq-eqb a.target t e)

  to_other : (a.target ≡ t → ⊥) → arcs_to t (a ∷ more) ≡ arcs_to t more
  to_other e = cond-false (eqb a.target t) (a ∷ arcs_to t more) (arcs_to t more) (ne_eqb a.target t e)

-- behind an arc beyond d, all are beyond d
all_beyond : (d : ℕ) (a : LogArc) (more : List LogArc) → d < a.target → AllByRecursion (Behind a) more → AllByRecursion (λ b. d < b.target) more
all_beyond d a [] h l = tt
all_beyond d a (b ∷ more) h l = (omega (arith, l.0.order), all_beyond d a more h l.1)

none_to : (t : ℕ) (arcs : List LogArc) → AllByRecursion (λ b. t < b.target) arcs → arcs_to t arcs ≡ []
none_to t [] h = refl
none_to t (a ∷ more) h = to_other t a more (λ e. omega (arith, h.0)) ∙ none_to t more h.1

-- arcs to lower instructions, and of two parts
none_low : (d : ℕ) (arcs : List LogArc) → AllByRecursion (λ b. b.target ≤ d) arcs → arcs_to (d + 1) arcs ≡ []
none_low d [] h = refl
none_low d (a ∷ more) h = to_other (d + 1) a more (λ e. omega (arith, h.0)) ∙ none_low d more h.1

to_append : (t : ℕ) (xs ys : List LogArc) → arcs_to t (xs ++ ys) ≡ arcs_to t xs ++ arcs_to t ys
to_append t [] ys = refl
to_append t (x ∷ xs) ys = elim (cases_eq x.target t) [
  | inl e ↦ to_here t x (xs ++ ys) e ∙ ap (λ r. x ∷ r) (to_append t xs ys) ∙ sym (ap (λ r. r ++ arcs_to t ys) (to_here t x xs e))
  | inr n ↦ to_other t x (xs ++ ys) n ∙ to_append t xs ys ∙ sym (ap (λ r. r ++ arcs_to t ys) (to_other t x xs n))
]

all_up : (d : ℕ) (xs : List LogArc) → AllByRecursion (λ a. a.target ≤ d) xs → AllByRecursion (λ a. a.target ≤ d + 1) xs
all_up d [] h = tt
all_up d (x ∷ xs) h = (omega (arith, h.0), all_up d xs h.1)

past_append : (p : SavedPlace) (xs ys : List Entry) → past_all p (xs ++ ys) ≡ past_all (past_all p xs) ys
past_append p [] ys = refl
past_append p (x ∷ xs) ys = past_append (past p x) xs ys

module _ (counts : List ℕ) (g : Heading) (log : List ℕ) (n k : ℕ) where
  -- from p on these entries are seen, then the end; they obey the rules and their arcs come from within
  pub record Standing (p : SavedPlace) (rest : List Entry) : Type 0 where
    pub seen : Path g log n k (at_place g log p) rest
    pub between : AllByRecursion Between rest
    pub lawful : Lawful g (arcs_in rest)
    pub sources : Within counts (arcs_in rest)

  follows_is : (b : Bool) (s t : State) (f : Fault) → cond b (Ok s) (Err f) ≡ Ok t → t ≡ s
  follows_is true s t f q = cc
  follows_is false s t f q = absurd cc

  module _ (p : SavedPlace) (a : LogArc) (more : List Entry) (S : Standing p (arc a ∷ more)) where
    behind_is : S.seen.0 ≡ resumed (past p (arc a))
    behind_is =
        follows_is (arc_stands g p.last p.latest a.source a.count a.target) (resumed (past p (arc a))) S.seen.0 (broken 2 g.core p.offset 4)
        (seen_both g log p.offset (resumed p) (arc a) S.seen.0 S.seen.1).1

    -- the next arc is read
    standing_sees : arc_seen counts (at_place g log p) ≡ Ok (Some (a, past p (arc a)))
    standing_sees =
        ap (λ x. arc_of p.offset (held_at counts g p.offset x)) (S.seen.1 ∙ ap (λ t. Ok (Some (arc a, t))) behind_is)
        ∙ ap (arc_of p.offset) (cond-false (ltb (get_or counts a.source 0) a.count) (Err (broken 3 g.core p.offset 6)) (Ok (Some (arc a, resumed (past p (arc a))))) (le-ltb (get_or counts a.source 0) a.count S.sources.0))

    -- and behind it stand the others
    standing_on : Standing (past p (arc a)) more
    standing_on = record {
      seen = subst (λ t. Path g log n k (record { heading = g; log = log; cursor = (past p (arc a)).offset; state = t }) more) behind_is S.seen.2;
      between = S.between.1;
      lawful = S.lawful.2;
      sources = S.sources.1;
    }

  -- behind the last entry stands the end
  standing_ends : (p : SavedPlace) → Standing p [] → arc_seen counts (at_place g log p) ≡ Ok None
  standing_ends p S = ap (λ x. arc_of p.offset (held_at counts g p.offset x)) S.seen

  -- behind some entries stand the others
  standing_through : (p : SavedPlace) (front rest : List Entry) → Standing p (front ++ rest) → Standing (past_all p front) rest
  standing_through p [] rest S = S
  standing_through p (head _ _ _ ∷ front) rest S = absurd S.between.0
  standing_through p (arc a ∷ front) rest S = standing_through (past p (arc a)) front rest (standing_on p a (front ++ rest) S)
  standing_through p (end _ _ ∷ front) rest S = absurd S.between.0

  abbrev reads : ℕ → ℕ → SavedPlace → Result Grouped Fault
  reads t f p = group (λ q. arc_seen counts (at_place g log q)) t f p

  -- what a step to instruction d + 1 passes: the arcs to it
  record Passes (d f : ℕ) (p : SavedPlace) (rest : List Entry) : Type 0 where
    mid : List Entry
    later : List Entry
    split : rest ≡ mid ++ later
    reads : reads (d + 1) f p ≡ Ok (record { arcs = arcs_to (d + 1) (arcs_in rest); behind = past_all p mid })
    these : AllByRecursion (λ a. a.target ≤ d + 1) (arcs_in mid)
    others : AllByRecursion (λ a. d + 1 < a.target) (arcs_in later)

  group_reads : (d f : ℕ) (p : SavedPlace) (rest : List Entry) → length rest < f → Standing p rest → AllByRecursion (λ a. d < a.target) (arcs_in rest) → Passes d f p rest
  group_reads d zero p rest h S l = absurd (omega arith)
  group_reads d (suc f) p [] h S l = record {
    mid = [];
    later = [];
    split = refl;
    reads = ap (λ x. picked (d + 1) p x (reads (d + 1) f)) (standing_ends p S);
    these = tt;
    others = tt;
  }
  group_reads d (suc f) p (head _ _ _ ∷ more) h S l = absurd S.between.0
  group_reads d (suc f) p (end _ _ ∷ more) h S l = absurd S.between.0
  group_reads d (suc f) p (arc a ∷ more) h S l =
      let sees = ap (λ x. picked (d + 1) p x (reads (d + 1) f)) (standing_sees p a more S) in
      let rest = reads (d + 1) f (past p (arc a)) in
      elim (cases_eq a.target (d + 1)) [
        | inl e ↦
            (let r = group_reads d f (past p (arc a)) more (omega arith) (standing_on p a more S) l.1 in
            record {
              mid = arc a ∷ r.mid;
              later = r.later;
              split = ap (λ x. arc a ∷ x) r.split;
              reads =
                  sees ∙ cond-true (eqb a.target (d + 1)) (joined a rest) (Ok (none_at p)) (eq-eqb a.target (d + 1) e)
                  ∙ ap (joined a) r.reads
                  ∙ sym (ap (λ x. Ok (record { arcs = x; behind = past_all p (arc a ∷ r.mid) })) (to_here (d + 1) a (arcs_in more) e));
              these = (omega (arith, e), r.these);
              others = r.others;
            })
        | inr e ↦
            (let far : d + 1 < a.target = omega (arith, l.0, e) in
            let beyond = all_beyond (d + 1) a (arcs_in more) far S.lawful.1 in
            let none = to_other (d + 1) a (arcs_in more) e ∙ none_to (d + 1) (arcs_in more) beyond in
            record {
              mid = [];
              later = arc a ∷ more;
              split = refl;
              reads =
                  sees ∙ cond-false (eqb a.target (d + 1)) (joined a rest) (Ok (none_at p)) (ne_eqb a.target (d + 1) e)
                  ∙ sym (ap (λ x. Ok (record { arcs = x; behind = p })) none);
              these = tt;
              others = (far, beyond);
            })
      ]

-- in a log that holds this body, the arcs to instruction d + 1 are read from a place behind those to the first d
pub log_reads : (counts : List ℕ) (g : Heading) (log : List ℕ) (body : List Entry) (n d : ℕ) (p : SavedPlace) → g.cores ≤ 4 → length (arcs_in body) ≤ 65535 → Holds g log body n → Within counts (arcs_in body) →
    Stands d body p → (q : SavedPlace) × Stands (d + 1) body q × (group_at counts g log (d + 1) p ≡ Ok (record { arcs = arcs_to (d + 1) (arcs_in body); behind = q }))
unfolding group_at
log_reads counts g log body n d p four few o s T =
    let start : Standing counts g log n (length (arcs_in body)) behind_head body = record { seen = path g log body n four few o; between = o.lawful.between; lawful = o.lawful.lawful; sources = s } in
    let here : Standing counts g log n (length (arcs_in body)) (past_all behind_head T.front) T.rest =
    standing_through counts g log n (length (arcs_in body)) behind_head T.front T.rest (subst (Standing counts g log n (length (arcs_in body)) behind_head) T.split start) in
    let short : length T.rest ≤ length body = omega (arith, ap length T.split, length-append T.front T.rest) in
    let r = group_reads counts g log n (length (arcs_in body)) d (suc (length log)) (past_all behind_head T.front) T.rest (omega (arith, short, size g log body n four few o)) here T.later in
    let to : arcs_to (d + 1) (arcs_in T.rest) ≡ arcs_to (d + 1) (arcs_in body) =
    sym (ap (λ x. arcs_to (d + 1) (arcs_in x)) T.split ∙ ap (arcs_to (d + 1)) (arcs_append T.front T.rest) ∙ to_append (d + 1) (arcs_in T.front) (arcs_in T.rest)
    ∙ ap (λ x. x ++ arcs_to (d + 1) (arcs_in T.rest)) (none_low d (arcs_in T.front) T.passed)) in (
      past_all (past_all behind_head T.front) r.mid,
      record {
        front = T.front ++ r.mid;
        rest = r.later;
        split = T.split ∙ ap (λ x. T.front ++ x) r.split ∙ sym (append_assoc T.front r.mid r.later);
        place = sym (past_append behind_head T.front r.mid);
        passed = subst (AllByRecursion (λ a. a.target ≤ d + 1)) (sym (arcs_append T.front r.mid)) (all_append (λ a. a.target ≤ d + 1) (arcs_in T.front) (arcs_in r.mid) (all_up d (arcs_in T.front) T.passed) r.these);
        later = r.others;
      },
      ap (λ x. group (λ q. arc_seen counts (at_place g log q)) (d + 1) (suc (length log)) x) T.place ∙ r.reads ∙ ap (λ x. Ok (record { arcs = x; behind = past_all (past_all behind_head T.front) r.mid })) to,
    )
