-- A log that is written by the rules is read as it was written, arc by arc, and held to the instructions of every core up to the first arc from beyond.
use Rattle.std.proofs.Common.{◌≡◌, ℕ, zero, suc, ◌+◌, ◌/◌, ◌<◌, ◌≤◌, Bool, true, false, cond, eqb, ltb, leb, ◌⊎◌, List, [], ◌∷◌, ◌++◌, length, get_or, drop, set, Some, Ok, Err, Result, sym, refl, ap, ◌∙◌, subst, inl, inr, arith}
use Rattle.std.specs.List.{AllByRecursion}
use Rattle.std.proofs.lemmas.List.{drop-drop, drop_at, append_assoc, append-nil, length-append, length_push}
use Rattle.std.proofs.lemmas.Bool.{and_from, eq-eqb, le-leb, ltb-true, ltb-false}
use Rattle.records.specs.declared.reading.State.{State}
use Rattle.records.specs.declared.reading.State.TheVariants.{Before, Among, After}
use Rattle.records.specs.declared.settings.Heading.{Heading}
use Rattle.records.specs.Faults.{Fault}
use Rattle.records.specs.Format.{LogArc, Entry, head, arc, end, bytes_of, written}
use Rattle.records.proofs.Looking.{size_pos}
use Rattle.records.specs.Reading.{broken, entry_at, arc_stands, one_more, no_targets, passed, judged, held_at, View, moved}
use Rattle.logs.specs.Lawful.{Any, Stands, Behind, Lawful, Between, arcs_in, front, whole, Holds, Within, BadArc, no_such_core, own_core, no_source_count, no_target_count, target_falls, source_twice}
use Rattle.logs.specs.Walk.{prefixed, stopped, walk, look, look_held, reading_from, holding_from, at_front}
use Rattle.logs.proofs.Bytes.{octets_drop, read_back}
use Rattle.logs.proofs.Going.{walk_some, walk_fault}
use Rattle.logs.proofs.Judging.{written_append, push_size}
use Rattle.logs.proofs.Rules.{Knows, knows_none, knows_push, stands_follows, fails_breaks, lawful_at, never_both, all_push}

-- an arc that may follow breaks no rule
bad_never : (g : Heading) (xs : List LogArc) (a : LogArc) → Stands g a → AllByRecursion (λ b. Behind b a) xs → BadArc g xs a → ⊥
bad_never g xs a s h (no_such_core q) = omega (arith, s.core)
bad_never g xs a s h (own_core q) = s.other q
bad_never g xs a s h (no_source_count q) = omega (arith, s.from)
bad_never g xs a s h (no_target_count q) = omega (arith, s.to)
bad_never g xs a s h (target_falls q) = never_both (λ b. Behind b a) (λ b. a.target < b.target) xs (λ b p r. omega (arith, p.order)) h q
bad_never g xs a s h (source_twice q) = never_both (λ b. Behind b a) (λ b. (b.target ≡ a.target) × (b.source ≡ a.source)) xs (λ b p r. p.once r.0 r.1) h q

all_any : (P Q : LogArc → Type 0) (R : Type 0) (xs : List LogArc) → ((x : LogArc) → P x → Q x → R) → AllByRecursion P xs → Any Q xs → R
all_any P Q R [] f h k = absurd k
all_any P Q R (x ∷ xs) f h (inl k) = f x h.0 k
all_any P Q R (x ∷ xs) f h (inr k) = all_any P Q R xs f h.1 k

module _ (g : Heading) (log : List ℕ) (n k : ℕ) where
  abbrev at : ℕ → State → View
  at c s = record { heading = g; log = log; cursor = c; state = s }

  -- from v on, these entries are seen one after another, and then the end
  abbrev pub Path : View → List Entry → Type 0
  Path v [] = look v ≡ Ok (Some (end n k, After n))
  Path v (e ∷ more) = (t : State) × (look v ≡ Ok (Some (e, t))) × Path (moved v e t) more

  module _ (four : g.cores ≤ 4) (few : k ≤ 65535) (rest : List ℕ) where
    path_from : (before : List LogArc) (more : List Entry) (c last : ℕ) (latest : List ℕ) (m : ℕ) → Knows before last latest m → AllByRecursion Between more → Lawful g (before ++ arcs_in more) → AllByRecursion (λ b. b.target ≤ n) before → AllByRecursion (λ b. b.target ≤ n) (arcs_in more) →
        length before + length (arcs_in more) ≡ k → drop c log ≡ written (more ++ (end n k ∷ [])) ++ rest → Path (at c (Among last latest m)) more
    path_from before [] c last latest m w b l r₁ r₂ size here =
        let low : last ≤ n = elim w.last_is [
          | inl none ↦ omega arith
          | inr some ↦ all_any (λ b. b.target ≤ n) (λ b. b.target ≡ last) (last ≤ n) before (λ b p q. omega arith) r₁ some
        ] in
        let t = and_from (eqb m k) (leb last n) (eq-eqb m k (omega (arith, w.number))) (le-leb last n low) in
        ap (judged g (Among last latest m) c) (ap (entry_at g.core c) here ∙ read_back g.core c (end n k) rest)
        ∙ ap (λ b. passed (end n k) (cond b (Ok (After n)) (Err (broken 2 g.core c 5)))) t
    path_from before (head _ _ _ ∷ more) c last latest m w b l r₁ r₂ size here = absurd b.0
    path_from before (end _ _ ∷ more) c last latest m w b l r₁ r₂ size here = absurd b.0
    path_from before (arc a ∷ more) c last latest m w b l r₁ r₂ size here =
        let p = lawful_at g before a (arcs_in more) l in
        let s' = Among a.target (set latest a.source a.target) (one_more m) in
        let stands : arc_stands g last latest a.source a.count a.target ≡ true = test p (arc_stands g last latest a.source a.count a.target) refl in
        let up = (stands_follows before last latest m w a g stands).1 in
        let body = written (more ++ (end n k ∷ [])) in
        let here' : drop c log ≡ bytes_of (arc a) ++ (body ++ rest) = here ∙ append_assoc (bytes_of (arc a)) body rest in
        let see : look (at c (Among last latest m)) ≡ Ok (Some (arc a, s')) =
        ap (judged g (Among last latest m) c) (ap (entry_at g.core c) here' ∙ read_back g.core c (arc a) (body ++ rest))
        ∙ ap (λ b. passed (arc a) (cond b (Ok s') (Err (broken 2 g.core c 4)))) stands in (
          s',
          see,
          path_from (before ++ (a ∷ [])) more (c + 7) a.target (set latest a.source a.target) (one_more m)
              (knows_push before last latest m w a (omega (arith, p.0.core)) up)
              b.1
              (subst (Lawful g) (sym (append_assoc before (a ∷ []) (arcs_in more))) l)
              (all_push (λ b. b.target ≤ n) before a r₁ r₂.0) r₂.1
              (omega (arith, length_push before a))
              (sym (drop-drop 7 c log) ∙ ap (drop 7) here'),
        )
      where
        test : Stands g a × AllByRecursion (λ b. Behind b a) before → (b : Bool) → arc_stands g last latest a.source a.count a.target ≡ b → arc_stands g last latest a.source a.count a.target ≡ true
        test p true q = q
        test p false q = absurd (bad_never g before a p.0 p.1 (fails_breaks before last latest m w a g q))

  over : (f : ℕ) (v : View) (e : Entry) → walk look f (moved v e (After n)) ≡ stopped (Ok n)
  over zero v e = refl
  over (suc f) v e = refl

  -- the walk along a path
  path_read : (f : ℕ) (v : View) (more : List Entry) → length more < f → Path v more → walk look f v ≡ record { entries = more ++ (end n k ∷ []); verdict = Ok n }
  path_read zero v more h p = absurd (omega arith)
  path_read (suc f) v [] h p = walk_some look v f (end n k) (After n) p ∙ ap (prefixed (end n k)) (over f v (end n k))
  path_read (suc f) v (e ∷ more) h p =
      walk_some look v f e p.0 p.1 ∙ ap (prefixed e) (path_read f (moved v e p.0) more (omega arith) p.2)

  -- the same walk, held to the instructions of every core: all arcs come from within, or one is the first from beyond
  module _ (counts : List ℕ) where
    abbrev pub Held : Result ℕ Fault → List Entry → List Entry → Type 0
    Held verdict before more =
        (Within counts (arcs_in more) × (verdict ≡ Ok n))
        ⊎ ((fr : List Entry) × (a : LogArc) × (back : List Entry) × (more ≡ fr ++ (arc a ∷ back)) × Within counts (arcs_in fr) × (get_or counts a.source 0 < a.count)
        × (verdict ≡ Err (broken 3 g.core (length (written (front g (before ++ fr)))) 6)))

    over_held : (f : ℕ) (v : View) (e : Entry) → walk (look_held counts) f (moved v e (After n)) ≡ stopped (Ok n)
    over_held zero v e = refl
    over_held (suc f) v e = refl

    -- an entry more in front, which is no arc from beyond
    held_on : (before : List Entry) (e : Entry) (more : List Entry) (verdict : Result ℕ Fault) →
        ((xs : List Entry) → Within counts (arcs_in xs) → Within counts (arcs_in (e ∷ xs))) → Held verdict (before ++ (e ∷ [])) more → Held verdict before (e ∷ more)
    held_on before e more verdict h (inl p) = inl (h more p.0, p.1)
    held_on before e more verdict h (inr (fr, b, back, split, within, beyond, q)) =
        inr (e ∷ fr, b, back, ap (λ x. e ∷ x) split, h fr within, beyond, q ∙ ap (λ x. Err (broken 3 g.core (length (written (front g x))) 6)) (append_assoc before (e ∷ []) fr))

    further : (c : ℕ) (before : List Entry) (e : Entry) → c ≡ length (written (front g before)) → c + length (bytes_of e) ≡ length (written (front g (before ++ (e ∷ []))))
    further c before e size = omega (arith, size, push_size g log (front g before) e)

    -- an entry that is seen and held, and the walk behind it
    passes : (f c : ℕ) (s t : State) (before : List Entry) (e : Entry) (more : List Entry) → look_held counts (at c s) ≡ Ok (Some (e, t)) →
        ((xs : List Entry) → Within counts (arcs_in xs) → Within counts (arcs_in (e ∷ xs))) →
        Held (walk (look_held counts) f (at (c + length (bytes_of e)) t)).verdict (before ++ (e ∷ [])) more → Held (walk (look_held counts) (suc f) (at c s)).verdict before (e ∷ more)
    passes f c s t before e more see h again =
        subst (λ v. Held v before (e ∷ more)) (sym (ap (λ x. x.verdict) (walk_some (look_held counts) (at c s) f e t see))) (held_on before e more _ h again)

    path_held : (f c : ℕ) (s : State) (before more : List Entry) → length more < f → c ≡ length (written (front g before)) → Path (at c s) more → Held (walk (look_held counts) f (at c s)).verdict before more
    path_held zero c s before more h size p = absurd (omega arith)
    path_held (suc f) c s before [] h size p =
        inl (tt, ap (λ x. x.verdict) (walk_some (look_held counts) (at c s) f (end n k) (After n) (ap (held_at counts g c) p) ∙ ap (prefixed (end n k)) (over_held f (at c s) (end n k))))
    path_held (suc f) c s before (head i j k' ∷ more) h size p =
        passes f c s p.0 before (head i j k') more (ap (held_at counts g c) p.1) (λ xs w. w) (path_held f (c + 6) p.0 (before ++ (head i j k' ∷ [])) more (omega arith) (further c before (head i j k') size) p.2)
    path_held (suc f) c s before (end i j ∷ more) h size p =
        passes f c s p.0 before (end i j) more (ap (held_at counts g c) p.1) (λ xs w. w) (path_held f (c + 6) p.0 (before ++ (end i j ∷ [])) more (omega arith) (further c before (end i j) size) p.2)
    path_held (suc f) c s before (arc a ∷ more) h size p =
        by_test (path_held f (c + 7) p.0 (before ++ (arc a ∷ [])) more (omega arith) (further c before (arc a) size) p.2) (ltb (get_or counts a.source 0) a.count) refl
      where
        seen_is : (b : Bool) → ltb (get_or counts a.source 0) a.count ≡ b → look_held counts (at c s) ≡ cond b (Err (broken 3 g.core c 6)) (Ok (Some (arc a, p.0)))
        seen_is b q = ap (held_at counts g c) p.1 ∙ ap (λ b. cond b (Err (broken 3 g.core c 6)) (Ok (Some (arc a, p.0)))) q

        by_test : Held (walk (look_held counts) f (at (c + 7) p.0)).verdict (before ++ (arc a ∷ [])) more → (b : Bool) → ltb (get_or counts a.source 0) a.count ≡ b → Held (walk (look_held counts) (suc f) (at c s)).verdict before (arc a ∷ more)
        by_test again true q =
            inr (
              [],
              a,
              more,
              refl,
              tt,
              ltb-true (get_or counts a.source 0) a.count q,
              ap (λ x. x.verdict) (walk_fault (look_held counts) (at c s) f (broken 3 g.core c 6) (seen_is true q))
                  ∙ ap (λ x. Err (broken 3 g.core x 6)) (size ∙ ap (λ x. length (written (front g x))) (sym (append-nil before))),
            )
        by_test again false q = passes f c s p.0 before (arc a) more (seen_is false q) (λ xs w. (ltb-false (get_or counts a.source 0) a.count q, w)) again

-- a log has fewer records than bytes
pub fewer_records : (body : List Entry) (n k : ℕ) → length body < length (written (body ++ (end n k ∷ [])))
fewer_records [] n k = omega arith
fewer_records (e ∷ more) n k = omega (arith, fewer_records more n k, size_pos e, length-append (bytes_of e) (written (more ++ (end n k ∷ []))))

-- the head, and then the path
module _ (g : Heading) (log : List ℕ) (body : List Entry) (n : ℕ) (four : g.cores ≤ 4) (few : length (arcs_in body) ≤ 65535) (o : Holds g log body n) where
  abbrev hd : Entry
  hd = head g.core g.cores g.cells

  abbrev bytes : List ℕ
  bytes = written (body ++ (end n (length (arcs_in body)) ∷ []))

  starts : log ≡ bytes_of hd ++ (bytes ++ o.rest)
  starts = o.bytes ∙ append_assoc (bytes_of hd) bytes o.rest

  see_head : look (at_front g log) ≡ Ok (Some (hd, Among 0 no_targets 0))
  see_head =
      let t = and_from (eqb g.core g.core) _ (eq-eqb g.core g.core refl) (and_from (eqb g.cores g.cores) _ (eq-eqb g.cores g.cores refl) (eq-eqb g.cells g.cells refl)) in
      ap (judged g Before 0) (ap (entry_at g.core 0) starts ∙ read_back g.core 0 hd (bytes ++ o.rest))
      ∙ ap (λ b. passed hd (cond b (Ok (Among 0 no_targets 0)) (Err (broken 2 g.core 0 3)))) t

  pub path : Path g log n (length (arcs_in body)) (at g log n (length (arcs_in body)) 6 (Among 0 no_targets 0)) body
  path = path_from g log n (length (arcs_in body)) four few o.rest [] body 6 0 no_targets 0 knows_none o.lawful.between o.lawful.lawful tt o.reached (omega arith) (ap (drop 6) starts)

  pub size : length body < length log
  size = omega (arith, ap length starts, length-append bytes o.rest, fewer_records body n (length (arcs_in body)))

  pub holds_read : reading_from (at_front g log) ≡ record { entries = whole g body n; verdict = Ok n }
  unfolding reading_from
  holds_read =
      walk_some look (at_front g log) (length log) hd (Among 0 no_targets 0) see_head
      ∙ ap (prefixed hd) (path_read g log n (length (arcs_in body)) (length log) (at g log n (length (arcs_in body)) 6 (Among 0 no_targets 0)) body size path)

  pub holds_held : (counts : List ℕ) → Held g log n (length (arcs_in body)) counts (holding_from counts (at_front g log)).verdict [] body
  unfolding holding_from
  holds_held counts =
      subst (λ v. Held g log n (length (arcs_in body)) counts v [] body)
      (sym (ap (λ x. x.verdict) (walk_some (look_held counts) (at_front g log) (length log) hd (Among 0 no_targets 0) (ap (held_at counts g 0) see_head))))
      (path_held g log n (length (arcs_in body)) counts (length log) 6 (Among 0 no_targets 0) [] body size refl path)

-- a log of bytes has no more arcs than its end record can say
pub holds_few : (g : Heading) (log : List ℕ) (body : List Entry) (n : ℕ) → AllByRecursion (λ b. b < 256) log → Holds g log body n → length (arcs_in body) ≤ 65535
holds_few g log body n octets o =
    let es = front g body in
    let e = end n (length (arcs_in body)) in
    let d : drop (length (written es)) log ≡ bytes_of e ++ o.rest =
    ap (drop (length (written es))) (o.bytes ∙ ap (λ x. x ++ o.rest) (written_append es (e ∷ [])) ∙ append_assoc (written es) (bytes_of e ++ []) o.rest)
    ∙ drop_at (written es) (bytes_of e ++ o.rest) (length (written es)) refl in
    let h = subst (AllByRecursion (λ b. b < 256)) d (octets_drop (length (written es)) log octets) in
    let high : length (arcs_in body) / 256 < 256 = h.1.1.1.1.0 in
    omega arith
