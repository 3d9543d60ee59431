-- Over a log that is intact up to a place, what breaks a rule in a group breaks it in the whole log.
use Rattle.std.proofs.Common.{◌≡◌, ℕ, ◌+◌, ◌<◌, ◌≤◌, eqb, leb, List, [], ◌∷◌, ◌++◌, map, length, get_or, take, drop, sym, refl, ap, ◌∙◌, subst, inl, inr, arith}
use Rattle.std.specs.List.{AllByRecursion}
use Rattle.std.proofs.lemmas.Bool.{cases_lt}
use Rattle.std.proofs.lemmas.List.{drop_at, take_at, take-append-drop, append_assoc, append-nil, length-append}
use Rattle.records.specs.declared.reading.SavedPlace.{SavedPlace}
use Rattle.records.specs.declared.settings.Heading.{Heading}
use Rattle.records.specs.Faults.{Fault}
use Rattle.records.specs.Format.{LogArc, Entry, head, arc, end, bytes_of, written}
use Rattle.records.specs.Reading.{broken, entry_at}
use Rattle.records.specs.Settings.{log_of, heading_of}
use Rattle.logs.specs.Lawful.{Between, Behind, Lawful, Body, Within, arcs_in, front, Breaks, no_mark, cut, unknown_mark, no_head, head_later, bad_arc, bad_end, BadArc, BadEnd, Holds}
use Rattle.logs.proofs.Arcs.{all_append, arcs_append, arcs_between, arcs_more}
use Rattle.logs.proofs.Bytes.{octets_drop, read_back}
use Rattle.logs.proofs.Judging.{written_append, end_small, bad_ending}
use Rattle.logs.proofs.Rules.{Knows, knows_none, knows_push, stands_follows, fails_breaks, lawful_push, lawful_at, never_both}
use Rattle.logs.proofs.Sessions.{few_cores}
use Rattle.replayer.specs.Damaged.{IntactTo, FirstInLog, by_rule, by_source, GroupFaultsAreFirst, StepsNameTheLogsFirstFaults}
use Rattle.replayer.specs.Following.{Stands}
use Rattle.replayer.specs.GroupFaults.{behind, InTurn, BreaksAt, no_record, head_there, arc_may_not, end_may_not, from_beyond, GroupBroken}
use Rattle.replayer.specs.Groups.{past, past_all}
use Rattle.replayer.specs.Steps.{behind_head}
use Rattle.replayer.proofs.FirstFaults.{log_octets, steps_name_first_faults}
use Rattle.replayer.proofs.GroupFaults.{behind_offset, refuted, may_stand, stands_may, may_end}

-- a body is its arcs
map_arcs : (body : List Entry) → AllByRecursion Between body → map arc (arcs_in body) ≡ body
map_arcs [] b = refl
map_arcs (head _ _ _ ∷ more) b = absurd b.0
map_arcs (arc a ∷ more) b = ap (λ r. arc a ∷ r) (map_arcs more b.1)
map_arcs (end _ _ ∷ more) b = absurd b.0

-- a place behind lawful arcs knows them, and arcs that may stand from it on are lawful behind them
abbrev KnowsAt : List LogArc → SavedPlace → Type 0
KnowsAt xs q = Knows xs q.last q.latest q.arcs

not_below : (xs : List LogArc) (q : SavedPlace) (a : LogArc) → KnowsAt xs q → AllByRecursion (λ b. Behind b a) xs → q.last ≤ a.target
not_below xs q a k h = elim (cases_lt a.target q.last) [
  | inr up ↦ up
  | inl low ↦ absurd (elim k.last_is [
    | inl none ↦ omega (arith, none, low)
    | inr some ↦ never_both (λ b. Behind b a) (λ b. b.target ≡ q.last) xs (λ b p e. omega (arith, p.order, e, low)) h some
  ])
]

module _ (g : Heading) (four : g.cores ≤ 4) where
  knows_on : (xs ys : List LogArc) (q : SavedPlace) → KnowsAt xs q → Lawful g (xs ++ ys) → KnowsAt (xs ++ ys) (behind q ys)
  knows_on xs [] q k l = subst (λ zs. KnowsAt zs q) (sym (append-nil xs)) k
  knows_on xs (a ∷ ys) q k l =
      let h = lawful_at g xs a ys l in
      let k' = knows_push xs q.last q.latest q.arcs k a (omega (arith, h.0.core)) (not_below xs q a k h.1) in
      subst (λ zs. KnowsAt zs (behind (past q (arc a)) ys)) (append_assoc xs (a ∷ []) ys)
      (knows_on (xs ++ (a ∷ [])) ys (past q (arc a)) k' (subst (Lawful g) (sym (append_assoc xs (a ∷ []) ys)) l))

  lawful_on : (xs ys : List LogArc) (q : SavedPlace) → KnowsAt xs q → Lawful g xs → InTurn g q ys → Lawful g (xs ++ ys)
  lawful_on xs [] q k l m = subst (Lawful g) (sym (append-nil xs)) l
  lawful_on xs (a ∷ ys) q k l m =
      let h = stands_follows xs q.last q.latest q.arcs k a g (stands_may g q a m.0) in
      subst (Lawful g) (append_assoc xs (a ∷ []) ys)
      (lawful_on (xs ++ (a ∷ [])) ys (past q (arc a)) (knows_push xs q.last q.latest q.arcs k a (omega (arith, h.0.core)) h.1) (lawful_push g xs a l h.0 h.2) m.1)

-- where no record stands, none stands behind whatever is before
no_record_behind : (g : Heading) (before : List Entry) (rest : List ℕ) (layer cause : ℕ) → Breaks g [] rest layer cause → layer ≡ 1 → Breaks g before rest 1 cause
no_record_behind g before rest layer cause (no_mark h) e = no_mark h
no_record_behind g before rest layer cause (cut x y size more m r h) e = cut x y size more m r h
no_record_behind g before rest layer cause (unknown_mark x y more r none) e = unknown_mark x y more r none
no_record_behind g before rest layer cause (no_head x more b r n) e = absurd (omega (arith, e))
no_record_behind g before rest layer cause (head_later body c p n more b r) e = absurd (omega (arith, e))
no_record_behind g before rest layer cause (bad_arc body a more b r n) e = absurd (omega (arith, e))
no_record_behind g before rest layer cause (bad_end body n k more b r w) e = absurd (omega (arith, e))

module _
    (counts : List ℕ) (g : Heading) (log : List ℕ) (t : ℕ) (p : SavedPlace) (f : Fault)
    (octets : AllByRecursion (λ b. b < 256) log) (four : g.cores ≤ 4) (w : IntactTo counts g log p) (b : GroupBroken counts g log t p f)
  where
    abbrev old : List LogArc
    old = arcs_in w.body

    abbrev body : List Entry
    body = w.body ++ map arc b.before

    abbrev q : SavedPlace
    q = behind p b.before

    arcs_are : arcs_in body ≡ old ++ b.before
    arcs_are = arcs_more w.body b.before

    place_is : p ≡ behind behind_head old
    place_is = w.place ∙ ap (past_all behind_head) (sym (map_arcs w.body w.lawful.between))

    knows_old : KnowsAt old p
    knows_old = subst (KnowsAt old) (sym place_is) (knows_on g four [] old behind_head knows_none w.lawful.lawful)

    lawful_all : Lawful g (old ++ b.before)
    lawful_all = lawful_on g four old b.before p knows_old w.lawful.lawful b.there.lawful

    knows : KnowsAt (old ++ b.before) q
    knows = knows_on g four old b.before p knows_old lawful_all

    body_is : Body g body
    body_is = record {
      between = all_append Between w.body (map arc b.before) w.lawful.between (arcs_between b.before);
      lawful = subst (Lawful g) (sym arcs_are) lawful_all;
    }

    within : Within counts (arcs_in body)
    within = subst (Within counts) (sym arcs_are) (all_append (λ a. a.count ≤ get_or counts a.source 0) old b.before w.within b.there.within)

    -- the bytes
    offset_is : length (written (front g w.body)) ≡ p.offset
    offset_is = omega (arith, ap (λ p. p.offset) place_is, behind_offset behind_head old, ap (λ x. length (written x)) (map_arcs w.body w.lawful.between))

    written_is : written (front g body) ≡ written (front g w.body) ++ written (map arc b.before)
    written_is = written_append (front g w.body) (map arc b.before)

    bytes_are : log ≡ written (front g body) ++ b.rest
    bytes_are =
        let rest : w.rest ≡ written (map arc b.before) ++ b.rest =
        sym (ap (drop p.offset) w.bytes ∙ drop_at (written (front g w.body)) w.rest p.offset offset_is) ∙ b.there.bytes in
        w.bytes ∙ ap (λ x. written (front g w.body) ++ x) rest ∙ sym (append_assoc (written (front g w.body)) (written (map arc b.before)) b.rest)
        ∙ ap (λ x. x ++ b.rest) (sym written_is)

    size_is : f.offset ≡ length (written (front g body))
    size_is = omega (arith, b.offset, offset_is, ap length written_is, length-append (written (front g w.body)) (written (map arc b.before)))

    rest_octets : AllByRecursion (λ b. b < 256) b.rest
    rest_octets =
        let n = length (written (front g body)) in
        subst (AllByRecursion (λ b. b < 256)) (ap (drop n) bytes_are ∙ drop_at (written (front g body)) b.rest n refl) (octets_drop n log octets)

    -- what breaks a rule
    ruled : (layer cause : ℕ) → Breaks g (front g body) b.rest layer cause → f.layer ≡ layer → f.cause ≡ cause → FirstInLog counts g log f
    ruled layer cause r l c =
        by_rule (front g body) f (record {
          lawful = inr (body, refl, body_is);
          rest = b.rest;
          bytes = bytes_are;
          core = b.core;
          offset = size_is;
          breaks = subst (λ l. Breaks g (front g body) b.rest l f.cause) (sym l) (subst (λ c. Breaks g (front g body) b.rest layer c) (sym c) r);
        }) within

    by_case : (layer cause : ℕ) → BreaksAt counts g q b.rest layer cause → f.layer ≡ layer → f.cause ≡ cause → FirstInLog counts g log f
    by_case layer cause (no_record c r) l e = ruled 1 c (no_record_behind g (front g body) b.rest 1 c r refl) l e
    by_case layer cause (head_there i n k more r) l e = ruled 2 3 (head_later body i n k more refl r) l e
    by_case layer cause (arc_may_not a more r none) l e =
        let bad = fails_breaks (old ++ b.before) q.last q.latest q.arcs knows a g (refuted _ (λ t. none (may_stand g q a t))) in
        ruled 2 4 (bad_arc body a more refl r (subst (λ xs. BadArc g xs a) (sym arcs_are) bad)) l e
    by_case layer cause (end_may_not n k more r none) l e =
        let small = end_small g.core 0 b.rest n k rest_octets (ap (entry_at g.core 0) r ∙ read_back g.core 0 (end n k) more) in
        let bad = bad_ending (old ++ b.before) q.last q.latest q.arcs n k knows small (eqb q.arcs k) refl (leb q.last n) refl (refuted _ (λ t. none (may_end g q n k t))) in
        ruled 2 5 (bad_end body n k more refl r (subst (λ xs. BadEnd xs n k) (sym arcs_are) bad)) l e
    by_case layer cause (from_beyond a more r m h) l e =
        let s = stands_follows (old ++ b.before) q.last q.latest q.arcs knows a g (stands_may g q a m) in
        let all = subst (Lawful g) (sym (arcs_append body (arc a ∷ []) ∙ ap (λ xs. xs ++ (a ∷ [])) arcs_are)) (lawful_push g (old ++ b.before) a lawful_all s.0 s.2) in
        let same : broken 3 g.core (length (written (front g body))) 6 ≡ f =
        λ i. record { layer = sym l i; core = sym b.core i; offset = sym size_is i; cause = sym e i } in
        subst (FirstInLog counts g log) same
        (by_source body a more
        (bytes_are ∙ ap (λ x. written (front g body) ++ x) r ∙ sym (append_assoc (written (front g body)) (bytes_of (arc a)) more)
        ∙ ap (λ x. x ++ more) (ap (λ x. written (front g body) ++ x) (sym (append-nil (bytes_of (arc a)))) ∙ sym (written_append (front g body) (arc a ∷ []))))
        (record { between = all_append Between body (arc a ∷ []) body_is.between (tt, tt); lawful = all })
        within h)

    first_in_log : FirstInLog counts g log f
    first_in_log = by_case f.layer f.cause b.breaks refl refl

pub group_faults_are_first : GroupFaultsAreFirst
group_faults_are_first counts g log t p f octets four w b = first_in_log counts g log t p f octets four w b

-- a log that a replay followed, and that is the same up to the place, is intact up to it
all_front : {X : Type 0} (P : X → Type 0) (xs ys : List X) → AllByRecursion P (xs ++ ys) → AllByRecursion P xs
all_front P [] ys h = tt
all_front P (x ∷ xs) ys h = (h.0, all_front P xs ys h.1)

lawful_front : (g : Heading) (xs ys : List LogArc) → Lawful g (xs ++ ys) → Lawful g xs
lawful_front g [] ys l = tt
lawful_front g (x ∷ xs) ys l = (l.0, all_front (Behind x) xs ys l.1, lawful_front g xs ys l.2)

intact : (counts : List ℕ) (g : Heading) (log now : List ℕ) (body : List Entry) (n d : ℕ) (p : SavedPlace) → Holds g log body n → Within counts (arcs_in body) → Stands d body p →
    take p.offset now ≡ take p.offset log → IntactTo counts g now p
intact counts g log now body n d p o s T same = record {
  body = T.front;
  rest = drop p.offset now;
  bytes = sym (take-append-drop p.offset now) ∙ ap (λ x. x ++ drop p.offset now) (same ∙ ap (take p.offset) bytes_are ∙ take_at (written (front g T.front)) _ p.offset offset_is);
  lawful = record { between = between; lawful = lawful_front g (arcs_in T.front) (arcs_in T.rest) (subst (Lawful g) (ap arcs_in T.split ∙ arcs_append T.front T.rest) o.lawful.lawful) };
  within = all_front (λ a. a.count ≤ get_or counts a.source 0) (arcs_in T.front) (arcs_in T.rest) (subst (Within counts) (ap arcs_in T.split ∙ arcs_append T.front T.rest) s);
  place = T.place;
}
  where
    between : AllByRecursion Between T.front
    between = all_front Between T.front T.rest (subst (AllByRecursion Between) T.split o.lawful.between)

    e : Entry
    e = end n (length (arcs_in body))

    bytes_are : log ≡ written (front g T.front) ++ (written (T.rest ++ (e ∷ [])) ++ o.rest)
    bytes_are =
        o.bytes ∙ ap (λ x. written (front g x ++ (e ∷ [])) ++ o.rest) T.split ∙ ap (λ x. written x ++ o.rest) (append_assoc (front g T.front) T.rest (e ∷ []))
        ∙ ap (λ x. x ++ o.rest) (written_append (front g T.front) (T.rest ++ (e ∷ []))) ∙ append_assoc (written (front g T.front)) (written (T.rest ++ (e ∷ []))) o.rest

    offset_is : length (written (front g T.front)) ≡ p.offset
    offset_is =
        let place : p ≡ behind behind_head (arcs_in T.front) = T.place ∙ ap (past_all behind_head) (sym (map_arcs T.front between)) in
        omega (arith, ap (λ p. p.offset) place, behind_offset behind_head (arcs_in T.front), ap (λ x. length (written x)) (map_arcs T.front between))

pub steps_name_the_logs_first_faults : StepsNameTheLogsFirstFaults
steps_name_the_logs_first_faults next after text R cells states store now bodies j F octets same f q =
    let z = R.sizes in
    let p = get_or R.places j behind_head in
    let d = get_or R.done j 0 in
    let b = ((steps_name_first_faults next after text R cells states now j octets).0.faulty f).0 q in
    let known = b.0.known in
    group_faults_are_first R.counts (heading_of z j) (log_of now z j) (d + 1) p f (log_octets now z j octets) (few_cores (length store) z F.fits)
    (intact R.counts (heading_of z j) (log_of store z j) (log_of now z j) (bodies j) (get_or R.counts j 0) d p (F.holds j known) (F.sources j known) (F.places j known) same) b.1
