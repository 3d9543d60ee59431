-- Reading a core's group over any bytes: what is seen at each place is a record that may stand there or what breaks a rule, so the whole is the group that stands there or its first fault.
use Rattle.std.proofs.Common.{◌≡◌, ℕ, zero, suc, ◌+◌, ◌-◌, ◌<◌, ◌≤◌, Bool, true, false, not, cond, ◌&&◌, eqb, ltb, leb, List, [], ◌∷◌, ◌++◌, map, length, get_or, drop, set, Some, None, Ok, Err, Result, sym, refl, ap, ◌∙◌, subst, arith}
use Rattle.std.specs.List.{AllByRecursion}
use Rattle.std.proofs.lemmas.List.{drop-drop, append_assoc, length-drop}
use Rattle.std.proofs.lemmas.Bool.{and_from, and_parts, eq-eqb, ne_eqb, eqb-true, eqb-false, lt-ltb, le-ltb, ltb-true, ltb-false, le-leb, leb-true, not-true, cond-true, cond-false}
use Rattle.records.specs.declared.reading.SavedPlace.{SavedPlace}
use Rattle.records.specs.declared.reading.State.{State}
use Rattle.records.specs.declared.reading.State.TheVariants.{Among, After}
use Rattle.records.specs.declared.settings.Heading.{Heading}
use Rattle.records.specs.Faults.{Fault}
use Rattle.records.specs.Format.{LogArc, Entry, head, arc, end, bytes_of, written}
use Rattle.records.specs.Reading.{broken, marked, entry_at, arc_stands, one_more, resumed, passed, judged, held_at}
use Rattle.logs.specs.Lawful.{Marks, head_mark, arc_mark, end_mark, Breaks, no_mark, cut, unknown_mark, no_head, head_later, bad_arc, bad_end}
use Rattle.logs.proofs.Bytes.{octets_drop, read_back, written_back, unread}
use Rattle.replayer.specs.GroupFaults.{MayStand, MayEnd, behind, ArcsThere, BreaksAt, no_record, head_there, arc_may_not, end_may_not, from_beyond, EndsAt, other_arc, log_end, GroupBroken}
use Rattle.replayer.specs.Groups.{ArcSight, arc_of, arc_seen, at_place, past, Grouped, none_at, joined, picked, group}

-- the place behind arcs stands behind their bytes
pub behind_offset : (p : SavedPlace) (arcs : List LogArc) → (behind p arcs).offset ≡ p.offset + length (written (map arc arcs))
behind_offset p [] = omega arith
behind_offset p (a ∷ arcs) = omega (arith, behind_offset (past p (arc a)) arcs)

-- the reader's tests say what may stand at a place
module _ (g : Heading) (p : SavedPlace) where
  pub may_stand : (a : LogArc) → arc_stands g p.last p.latest a.source a.count a.target ≡ true → MayStand g p a
  may_stand a e =
      let p₁ = and_parts (ltb a.source g.cores) _ e in
      let p₂ = and_parts (not (eqb a.source g.core)) _ p₁.1 in
      let p₃ = and_parts (ltb 0 a.count) _ p₂.1 in
      let p₄ = and_parts (ltb 0 a.target) _ p₃.1 in
      let p₅ = and_parts (leb p.last a.target) _ p₄.1 in
      record {
        stands = record {
          core = ltb-true a.source g.cores p₁.0;
          other = eqb-false a.source g.core (not-true _ p₂.0);
          from = ltb-true 0 a.count p₃.0;
          to = ltb-true 0 a.target p₄.0;
        };
        order = leb-true p.last a.target p₅.0;
        once = eqb-false (get_or p.latest a.source 0) a.target (not-true _ p₅.1);
      }

  pub stands_may : (a : LogArc) → MayStand g p a → arc_stands g p.last p.latest a.source a.count a.target ≡ true
  stands_may a m =
      and_from (ltb a.source g.cores) _ (lt-ltb a.source g.cores m.stands.core)
      (and_from (not (eqb a.source g.core)) _ (ap not (ne_eqb a.source g.core m.stands.other))
      (and_from (ltb 0 a.count) _ (lt-ltb 0 a.count m.stands.from)
      (and_from (ltb 0 a.target) _ (lt-ltb 0 a.target m.stands.to)
      (and_from (leb p.last a.target) _ (le-leb p.last a.target m.order)
      (ap not (ne_eqb (get_or p.latest a.source 0) a.target m.once))))))

  pub may_end : (n k : ℕ) → (eqb p.arcs k && leb p.last n) ≡ true → MayEnd p n k
  may_end n k e =
      let q = and_parts (eqb p.arcs k) _ e in
      record { number = sym (eqb-true p.arcs k q.0); reached = leb-true p.last n q.1 }

  end_may : (n k : ℕ) → MayEnd p n k → (eqb p.arcs k && leb p.last n) ≡ true
  end_may n k m = and_from (eqb p.arcs k) _ (eq-eqb p.arcs k (sym m.number)) (le-leb p.last n m.reached)

-- a test that is not passed fails
pub refuted : (b : Bool) → (b ≡ true → ⊥) → b ≡ false
refuted true h = absurd (h refl)
refuted false h = refl

passed_not : (b : Bool) → b ≡ true → b ≡ false → ⊥
passed_not b t f = let z : true ≡ false = sym t ∙ f in absurd cc

-- where no record stands, none is read
module _ (core at : ℕ) where
  no_bytes : (bs : List ℕ) → length bs < 2 → entry_at core at bs ≡ Err (broken 1 core at 1)
  no_bytes [] h = refl
  no_bytes (x ∷ []) h = refl
  no_bytes (x ∷ y ∷ more) h = absurd (omega arith)

  cut_off : (x y size : ℕ) (more : List ℕ) → Marks x y size → 2 + length more < size → entry_at core at (x ∷ y ∷ more) ≡ Err (broken 1 core at 1)
  cut_off x y size [] head_mark h = refl
  cut_off x y size (_ ∷ []) head_mark h = refl
  cut_off x y size (_ ∷ _ ∷ []) head_mark h = refl
  cut_off x y size (_ ∷ _ ∷ _ ∷ []) head_mark h = refl
  cut_off x y size (_ ∷ _ ∷ _ ∷ _ ∷ _) head_mark h = absurd (omega arith)
  cut_off x y size [] arc_mark h = refl
  cut_off x y size (_ ∷ []) arc_mark h = refl
  cut_off x y size (_ ∷ _ ∷ []) arc_mark h = refl
  cut_off x y size (_ ∷ _ ∷ _ ∷ []) arc_mark h = refl
  cut_off x y size (_ ∷ _ ∷ _ ∷ _ ∷ []) arc_mark h = refl
  cut_off x y size (_ ∷ _ ∷ _ ∷ _ ∷ _ ∷ _) arc_mark h = absurd (omega arith)
  cut_off x y size [] end_mark h = refl
  cut_off x y size (_ ∷ []) end_mark h = refl
  cut_off x y size (_ ∷ _ ∷ []) end_mark h = refl
  cut_off x y size (_ ∷ _ ∷ _ ∷ []) end_mark h = refl
  cut_off x y size (_ ∷ _ ∷ _ ∷ _ ∷ _) end_mark h = absurd (omega arith)

  unmarked : (m n size x y : ℕ) → Marks m n size → ((size : ℕ) → Marks x y size → ⊥) → marked m n x y ≡ false
  unmarked m n size x y k none =
      refuted (marked m n x y) (λ t. let e = and_parts (eqb x m) (eqb y n) t in
      none size (subst (λ x. Marks x y size) (sym (eqb-true x m e.0)) (subst (λ y. Marks m y size) (sym (eqb-true y n e.1)) k)))

  no_entry : (g : Heading) (before : List Entry) (bs : List ℕ) (layer cause : ℕ) → Breaks g before bs layer cause → layer ≡ 1 → entry_at core at bs ≡ Err (broken 1 core at cause)
  no_entry g before bs layer cause (no_mark h) l = no_bytes bs h
  no_entry g before bs layer cause (cut x y size more m r h) l = ap (entry_at core at) r ∙ cut_off x y size more m (omega (arith, h, ap length r))
  no_entry g before bs layer cause (unknown_mark x y more r none) l =
      ap (entry_at core at) r ∙ cond-false _ _ _ (unmarked 0x48 0x43 6 x y head_mark none) ∙ cond-false _ _ _ (unmarked 0x41 0x52 7 x y arc_mark none)
      ∙ cond-false _ _ _ (unmarked 0x45 0x44 6 x y end_mark none)
  no_entry g before bs layer cause (no_head e more b r n) l = absurd (omega (arith, l))
  no_entry g before bs layer cause (head_later body c p n more b r) l = absurd (omega (arith, l))
  no_entry g before bs layer cause (bad_arc body a more b r n) l = absurd (omega (arith, l))
  no_entry g before bs layer cause (bad_end body n k more b r w) l = absurd (omega (arith, l))

module _ (counts : List ℕ) (g : Heading) (log : List ℕ) (octets : AllByRecursion (λ b. b < 256) log) where
  abbrev pub look : SavedPlace → ArcSight
  look p = arc_seen counts (at_place g log p)

  abbrev pub here : SavedPlace → List ℕ
  here p = drop p.offset log

  -- what is seen of a record that is read, or of none
  abbrev of_entry : SavedPlace → Result Entry Fault → ArcSight
  of_entry p x = arc_of p.offset (held_at counts g p.offset (judged g (resumed p) p.offset x))

  abbrev next : SavedPlace → LogArc → State
  next p a = Among a.target (set p.latest a.source a.target) (one_more p.arcs)

  abbrev of_test : SavedPlace → LogArc → Bool → ArcSight
  of_test p a b = arc_of p.offset (held_at counts g p.offset (passed (arc a) (cond b (Ok (next p a)) (Err (broken 2 g.core p.offset 4)))))

  abbrev of_count : SavedPlace → LogArc → Bool → ArcSight
  of_count p a b = arc_of p.offset (cond b (Err (broken 3 g.core p.offset 6)) (Ok (Some (arc a, next p a))))

  abbrev of_end : SavedPlace → ℕ → ℕ → Bool → ArcSight
  of_end p n k b = arc_of p.offset (held_at counts g p.offset (passed (end n k) (cond b (Ok (After n)) (Err (broken 2 g.core p.offset 5)))))

  -- what may be seen at a place, in words
  data Saw (p : SavedPlace) : ArcSight → Type 0 where
    saw_arc : (a : LogArc) (more : List ℕ) → here p ≡ bytes_of (arc a) ++ more → MayStand g p a → a.count ≤ get_or counts a.source 0 → Saw p (Ok (Some (a, past p (arc a))))
    saw_end : (n k : ℕ) (more : List ℕ) → here p ≡ bytes_of (end n k) ++ more → MayEnd p n k → Saw p (Ok None)
    saw_fault : (f : Fault) → f.core ≡ g.core → f.offset ≡ p.offset → BreaksAt counts g p (here p) f.layer f.cause → Saw p (Err f)

  module _ (p : SavedPlace) where
    abbrev Reads : Result Entry Fault → Type 0
    Reads x = entry_at g.core p.offset (here p) ≡ x

    bytes_here : (e : Entry) → Reads (Ok e) → here p ≡ bytes_of e ++ drop (length (bytes_of e)) (here p)
    bytes_here e q = written_back g.core p.offset (here p) e (octets_drop p.offset log octets) q

    read_here : (e : Entry) (more : List ℕ) → here p ≡ bytes_of e ++ more → Reads (Ok e)
    read_here e more r = ap (entry_at g.core p.offset) r ∙ read_back g.core p.offset e more

    none_here : (d : Fault) → Reads (Err d) → (e : Entry) (more : List ℕ) → here p ≡ bytes_of e ++ more → ⊥
    none_here d q e more r = let z : Ok e ≡ Err d = sym (read_here e more r) ∙ q in absurd cc

    unread_here : (d : Fault) → Reads (Err d) → (layer cause : ℕ) → Breaks g [] (here p) layer cause → BreaksAt counts g p (here p) layer cause
    unread_here d q layer cause (no_mark h) = no_record 1 (no_mark h)
    unread_here d q layer cause (cut x y size more m r h) = no_record 1 (cut x y size more m r h)
    unread_here d q layer cause (unknown_mark x y more r none) = no_record 2 (unknown_mark x y more r none)
    unread_here d q layer cause (no_head e more b r n) = absurd (none_here d q e more r)
    unread_here d q layer cause (head_later body c p n more b r) = absurd (none_here d q (head c p n) more r)
    unread_here d q layer cause (bad_arc body a more b r n) = absurd (none_here d q (arc a) more r)
    unread_here d q layer cause (bad_end body n k more b r w) = absurd (none_here d q (end n k) more r)

    -- what is seen
    on_count : (a : LogArc) → Reads (Ok (arc a)) → MayStand g p a → (b : Bool) → ltb (get_or counts a.source 0) a.count ≡ b → Saw p (of_count p a b)
    on_count a q m true t =
        saw_fault (broken 3 g.core p.offset 6) refl refl (from_beyond a _ (bytes_here (arc a) q) m (ltb-true (get_or counts a.source 0) a.count t))
    on_count a q m false t = saw_arc a _ (bytes_here (arc a) q) m (ltb-false (get_or counts a.source 0) a.count t)

    on_test : (a : LogArc) → Reads (Ok (arc a)) → (b : Bool) → arc_stands g p.last p.latest a.source a.count a.target ≡ b → Saw p (of_test p a b)
    on_test a q true t = on_count a q (may_stand g p a t) (ltb (get_or counts a.source 0) a.count) refl
    on_test a q false t =
        saw_fault (broken 2 g.core p.offset 4) refl refl (arc_may_not a _ (bytes_here (arc a) q) (λ m. passed_not _ (stands_may g p a m) t))

    on_end : (n k : ℕ) → Reads (Ok (end n k)) → (b : Bool) → (eqb p.arcs k && leb p.last n) ≡ b → Saw p (of_end p n k b)
    on_end n k q true t = saw_end n k _ (bytes_here (end n k) q) (may_end g p n k t)
    on_end n k q false t =
        saw_fault (broken 2 g.core p.offset 5) refl refl (end_may_not n k _ (bytes_here (end n k) q) (λ m. passed_not _ (end_may g p n k m) t))

    on_entry : (x : Result Entry Fault) → Reads x → Saw p (of_entry p x)
    on_entry (Err d) q = let b = unread g [] g.core p.offset (here p) d q in saw_fault d b.0 b.1 (unread_here d q d.layer d.cause b.2)
    on_entry (Ok (head i j k)) q = saw_fault (broken 2 g.core p.offset 3) refl refl (head_there i j k _ (bytes_here (head i j k) q))
    on_entry (Ok (arc a)) q = on_test a q (arc_stands g p.last p.latest a.source a.count a.target) refl
    on_entry (Ok (end n k)) q = on_end n k q (eqb p.arcs k && leb p.last n) refl

    saw : Saw p (look p)
    saw = on_entry (entry_at g.core p.offset (here p)) refl

    -- and what is there is seen
    sees : (e : Entry) (more : List ℕ) → here p ≡ bytes_of e ++ more → look p ≡ of_entry p (Ok e)
    sees e more r = ap (of_entry p) (read_here e more r)

    sees_arc : (a : LogArc) (more : List ℕ) → here p ≡ bytes_of (arc a) ++ more → MayStand g p a → a.count ≤ get_or counts a.source 0 → look p ≡ Ok (Some (a, past p (arc a)))
    sees_arc a more r m w = sees (arc a) more r ∙ ap (of_test p a) (stands_may g p a m) ∙ ap (of_count p a) (le-ltb (get_or counts a.source 0) a.count w)

    sees_end : (n k : ℕ) (more : List ℕ) → here p ≡ bytes_of (end n k) ++ more → MayEnd p n k → look p ≡ Ok None
    sees_end n k more r m = sees (end n k) more r ∙ ap (of_end p n k) (end_may g p n k m)

    sees_fault : (layer cause : ℕ) → BreaksAt counts g p (here p) layer cause → look p ≡ Err (broken layer g.core p.offset cause)
    sees_fault layer cause (no_record c b) = ap (of_entry p) (no_entry g.core p.offset g [] (here p) 1 c b refl)
    sees_fault layer cause (head_there i j k more r) = sees (head i j k) more r
    sees_fault layer cause (arc_may_not a more r n) = sees (arc a) more r ∙ ap (of_test p a) (refuted _ (λ t. n (may_stand g p a t)))
    sees_fault layer cause (end_may_not i k more r n) = sees (end i k) more r ∙ ap (of_end p i k) (refuted _ (λ t. n (may_end g p i k t)))
    sees_fault layer cause (from_beyond a more r m h) =
        sees (arc a) more r ∙ ap (of_test p a) (stands_may g p a m) ∙ ap (of_count p a) (lt-ltb (get_or counts a.source 0) a.count h)

  module _ (t : ℕ) where
    abbrev pub There : SavedPlace → List LogArc → List ℕ → Type 0
    There p arcs rest = ArcsThere counts g log t p arcs rest

    -- an arc in front of arcs that stand behind it, and away from them
    bytes_on : (p : SavedPlace) (a : LogArc) (more : List ℕ) → here p ≡ bytes_of (arc a) ++ more → here (past p (arc a)) ≡ more
    bytes_on p a more r = sym (drop-drop 7 p.offset log) ∙ ap (drop 7) r

    there_more : (p : SavedPlace) (a : LogArc) (more : List ℕ) → here p ≡ bytes_of (arc a) ++ more → MayStand g p a → a.count ≤ get_or counts a.source 0 → a.target ≡ t →
        (arcs : List LogArc) (rest : List ℕ) → There (past p (arc a)) arcs rest → There p (a ∷ arcs) rest
    there_more p a more r m w e arcs rest h = record {
      bytes = r ∙ ap (λ x. bytes_of (arc a) ++ x) (sym (bytes_on p a more r) ∙ h.bytes) ∙ sym (append_assoc (bytes_of (arc a)) (written (map arc arcs)) rest);
      to = (e, h.to);
      lawful = (m, h.lawful);
      within = (w, h.within);
    }

    first_bytes : (p : SavedPlace) (a : LogArc) (arcs : List LogArc) (rest : List ℕ) → There p (a ∷ arcs) rest → here p ≡ bytes_of (arc a) ++ (written (map arc arcs) ++ rest)
    first_bytes p a arcs rest h = h.bytes ∙ append_assoc (bytes_of (arc a)) (written (map arc arcs)) rest

    there_behind : (p : SavedPlace) (a : LogArc) (arcs : List LogArc) (rest : List ℕ) → There p (a ∷ arcs) rest → There (past p (arc a)) arcs rest
    there_behind p a arcs rest h = record {
      bytes = bytes_on p a _ (first_bytes p a arcs rest h);
      to = h.to.1;
      lawful = h.lawful.1;
      within = h.within.1;
    }

    there_rest : (p : SavedPlace) (arcs : List LogArc) (rest : List ℕ) → There p arcs rest → here (behind p arcs) ≡ rest
    there_rest p [] rest h = h.bytes
    there_rest p (a ∷ arcs) rest h = there_rest (past p (arc a)) arcs rest (there_behind p a arcs rest h)

    further : (p : SavedPlace) (a : LogArc) (more : List ℕ) (f : ℕ) → here p ≡ bytes_of (arc a) ++ more → length log - p.offset < suc f → length log - (past p (arc a)).offset < f
    further p a more f r h = omega (arith, h, ap length r, length-drop p.offset log)

    -- what reading from a place on may give, in words
    pub data Groups (p : SavedPlace) : Result Grouped Fault → Type 0 where
      grouped : (arcs : List LogArc) (rest : List ℕ) → There p arcs rest → EndsAt counts g t (behind p arcs) rest → Groups p (Ok (record { arcs = arcs; behind = behind p arcs }))
      faulted : (f : Fault) → GroupBroken counts g log t p f → Groups p (Err f)

    one_more_arc : (p : SavedPlace) (a : LogArc) (more : List ℕ) → here p ≡ bytes_of (arc a) ++ more → MayStand g p a → a.count ≤ get_or counts a.source 0 → a.target ≡ t →
        (x : Result Grouped Fault) → Groups (past p (arc a)) x → Groups p (joined a x)
    one_more_arc p a more r m w e x (grouped arcs rest h ends) = grouped (a ∷ arcs) rest (there_more p a more r m w e arcs rest h) ends
    one_more_arc p a more r m w e x (faulted f b) = faulted f (record {
      before = a ∷ b.before;
      rest = b.rest;
      there = there_more p a more r m w e b.before b.rest b.there;
      core = b.core;
      offset = omega (arith, b.offset);
      breaks = b.breaks;
    })

    abbrev pub reads : ℕ → SavedPlace → Result Grouped Fault
    reads f p = group look t f p

    on_sight : (f : ℕ) (p : SavedPlace) → length log - p.offset < suc f → ((q : SavedPlace) → length log - q.offset < f → Groups q (reads f q)) →
        (x : ArcSight) → Saw p x → Groups p (picked t p x (λ q. reads f q))
    on_sight f p h again x (saw_arc a more r m w) = by_target (eqb a.target t) refl
      where
        by_target : (b : Bool) → eqb a.target t ≡ b → Groups p (cond b (joined a (reads f (past p (arc a)))) (Ok (none_at p)))
        by_target true e =
            one_more_arc p a more r m w (eqb-true a.target t e) (reads f (past p (arc a))) (again (past p (arc a)) (further p a more f r h))
        by_target false e =
            grouped [] (here p) (record { bytes = refl; to = tt; lawful = tt; within = tt }) (other_arc a more r m w (eqb-false a.target t e))
    on_sight f p h again x (saw_end n k more r m) =
        grouped [] (here p) (record { bytes = refl; to = tt; lawful = tt; within = tt }) (log_end n k more r m)
    on_sight f p h again x (saw_fault d c o b) =
        faulted d (record { before = []; rest = here p; there = record { bytes = refl; to = tt; lawful = tt; within = tt }; core = c; offset = omega (arith, o); breaks = b })

    -- what is read stands there
    pub groups : (f : ℕ) (p : SavedPlace) → length log - p.offset < f → Groups p (reads f p)
    groups zero p h = absurd (omega arith)
    groups (suc f) p h = on_sight f p h (λ q l. groups f q l) (look p) (saw p)

    -- and what stands there is read
    abbrev all_joined : List LogArc → Result Grouped Fault → Result Grouped Fault
    all_joined [] x = x
    all_joined (a ∷ arcs) x = joined a (all_joined arcs x)

    reads_through : (arcs : List LogArc) (rest : List ℕ) (f : ℕ) (p : SavedPlace) → length log - p.offset < f → There p arcs rest → (x : Result Grouped Fault) →
        ((f : ℕ) → picked t (behind p arcs) (look (behind p arcs)) (λ q. reads f q) ≡ x) → reads f p ≡ all_joined arcs x
    reads_through arcs rest zero p h w x ends = absurd (omega arith)
    reads_through [] rest (suc f) p h w x ends = ends f
    reads_through (a ∷ arcs) rest (suc f) p h w x ends =
        let r = first_bytes p a arcs rest w in
        ap (λ y. picked t p y (λ q. reads f q)) (sees_arc p a _ r w.lawful.0 w.within.0)
        ∙ cond-true (eqb a.target t) _ _ (eq-eqb a.target t w.to.0)
        ∙ ap (joined a) (reads_through arcs rest f (past p (arc a)) (further p a _ f r h) (there_behind p a arcs rest w) x ends)

    joined_fault : (arcs : List LogArc) (f : Fault) → all_joined arcs (Err f) ≡ Err f
    joined_fault [] f = refl
    joined_fault (a ∷ arcs) f = ap (joined a) (joined_fault arcs f)

    joined_none : (arcs : List LogArc) (p : SavedPlace) → all_joined arcs (Ok (none_at p)) ≡ Ok (record { arcs = arcs; behind = p })
    joined_none [] p = refl
    joined_none (a ∷ arcs) p = ap (joined a) (joined_none arcs p)

    ends_there : (p : SavedPlace) → EndsAt counts g t p (here p) → (f : ℕ) → picked t p (look p) (λ q. reads f q) ≡ Ok (none_at p)
    ends_there p (other_arc a more r m w n) f =
        ap (λ y. picked t p y (λ q. reads f q)) (sees_arc p a more r m w) ∙ cond-false (eqb a.target t) _ _ (ne_eqb a.target t n)
    ends_there p (log_end n k more r m) f = ap (λ y. picked t p y (λ q. reads f q)) (sees_end p n k more r m)

    pub read_there : (f : ℕ) (p : SavedPlace) → length log - p.offset < f → (arcs : List LogArc) (rest : List ℕ) → There p arcs rest → EndsAt counts g t (behind p arcs) rest →
        reads f p ≡ Ok (record { arcs = arcs; behind = behind p arcs })
    read_there f p h arcs rest w e =
        reads_through arcs rest f p h w (Ok (none_at (behind p arcs))) (ends_there (behind p arcs) (subst (EndsAt counts g t (behind p arcs)) (sym (there_rest p arcs rest w)) e))
        ∙ joined_none arcs (behind p arcs)

    pub broken_there : (f : ℕ) (p : SavedPlace) → length log - p.offset < f → (d : Fault) → GroupBroken counts g log t p d → reads f p ≡ Err d
    broken_there f p h d b =
        let q = behind p b.before in
        let same : broken d.layer g.core q.offset d.cause ≡ d = λ i. record { layer = d.layer; core = sym b.core i; offset = (behind_offset p b.before ∙ sym b.offset) i; cause = d.cause } in
        let breaks = subst (λ bs. BreaksAt counts g q bs d.layer d.cause) (sym (there_rest p b.before b.rest b.there)) b.breaks in
        reads_through b.before b.rest f p h b.there (Err (broken d.layer g.core q.offset d.cause)) (λ f. ap (λ y. picked t q y (λ q. reads f q)) (sees_fault q d.layer d.cause breaks))
        ∙ joined_fault b.before (broken d.layer g.core q.offset d.cause) ∙ ap Err same
