-- Reading a log to its end or first fault: the whole log holds, or the records before the fault are lawful and what stands there breaks the named cause.
use Rattle.std.proofs.Common.{◌≡◌, ℕ, zero, suc, ◌+◌, ◌-◌, ◌/◌, ◌<◌, ◌≤◌, Bool, true, false, cond, ◌&&◌, ◌⊎◌, eqb, leb, List, [], ◌∷◌, ◌++◌, length, drop, set, Some, Ok, Err, Result, sym, refl, ap, ◌∙◌, subst, inl, inr, arith}
use Rattle.std.specs.List.{AllByRecursion}
use Rattle.std.proofs.lemmas.List.{drop-drop, drop_at, append_assoc, append-nil, length-append, length-drop}
use Rattle.std.proofs.lemmas.Bool.{and_parts, eqb-true, eqb-false, leb-true, leb-false}
use Rattle.records.specs.declared.reading.State.{State}
use Rattle.records.specs.declared.reading.State.TheVariants.{Before, Among, After}
use Rattle.records.specs.declared.settings.Heading.{Heading}
use Rattle.records.specs.Faults.{Fault}
use Rattle.records.specs.Format.{LogArc, Entry, head, arc, end, bytes_of, written}
use Rattle.records.specs.Reading.{broken, entry_at, arc_stands, one_more, no_targets, passed, judged, View, moved}
use Rattle.records.proofs.Looking.{entry_fits, size_pos}
use Rattle.logs.specs.Lawful.{Between, arcs_in, Body, Lawful, front, whole, BadEnd, wrong_arcs, too_few_instructions, Holds, Breaks, no_head, head_later, bad_arc, bad_end, Front, Broken}
use Rattle.logs.specs.Walk.{Reading, prefixed, stopped, walk, look, reading_from, at_front}
use Rattle.logs.proofs.Arcs.{arcs_append}
use Rattle.logs.proofs.Bytes.{octets_drop, written_back, unread}
use Rattle.logs.proofs.Going.{walk_some, walk_fault}
use Rattle.logs.proofs.Rules.{Knows, knows_none, knows_push, stands_follows, fails_breaks, lawful_push, all_push, all_map, any_map}

-- what reading a log gives: all its records and instructions, or the records before the first fault
abbrev pub Judged : Heading → List ℕ → Reading → Type 0
Judged g log r =
    ((body : List Entry) × (n : ℕ) × (r ≡ record { entries = whole g body n; verdict = Ok n }) × Holds g log body n)
    ⊎ ((before : List Entry) × (f : Fault) × (r ≡ record { entries = before; verdict = Err f }) × Broken g log before f)

-- records in front of what reading on gives
abbrev pub in_front : List Entry → Reading → Reading
in_front es r = record { entries = es ++ r.entries; verdict = r.verdict }

pub written_append : (xs ys : List Entry) → written (xs ++ ys) ≡ written xs ++ written ys
written_append [] ys = refl
written_append (x ∷ xs) ys = ap (λ r. bytes_of x ++ r) (written_append xs ys) ∙ sym (append_assoc (bytes_of x) (written xs) (written ys))

body_push : (g : Heading) (body : List Entry) (e : Entry) → Body g body → Between e → Lawful g (arcs_in (body ++ (e ∷ []))) → Body g (body ++ (e ∷ []))
body_push g body e l b w = record { between = all_push Between body e l.between b; lawful = w }

-- one record more in front
in_front_push : (es : List Entry) (e : Entry) (r : Reading) → in_front es (prefixed e r) ≡ in_front (es ++ (e ∷ [])) r
in_front_push es e r = λ i. record { entries = sym (append_assoc es (e ∷ []) r.entries) i; verdict = r.verdict }

module _ (g : Heading) (log : List ℕ) where
  -- a reader behind these records
  abbrev pub behind : List Entry → State → View
  behind es s = record { heading = g; log = log; cursor = length (written es); state = s }

  abbrev pub Stood : List Entry → Type 0
  Stood es = log ≡ written es ++ drop (length (written es)) log

  -- after the end nothing more is read
  walk_ended : (f : ℕ) (es : List Entry) (n : ℕ) → walk look f (behind es (After n)) ≡ stopped (Ok n)
  walk_ended zero es n = refl
  walk_ended (suc f) es n = refl

  pub push_size : (es : List Entry) (e : Entry) → length (written (es ++ (e ∷ []))) ≡ length (written es) + length (bytes_of e)
  push_size es e = ap length (written_append es (e ∷ [])) ∙ length-append (written es) (bytes_of e ++ []) ∙ ap (λ x. length (written es) + length x) (append-nil (bytes_of e))

  moved_behind : (es : List Entry) (s t : State) (e : Entry) → moved (behind es s) e t ≡ behind (es ++ (e ∷ [])) t
  moved_behind es s t e = λ i. record { heading = g; log = log; cursor = sym (push_size es e) i; state = t }

  stood_push : (es : List Entry) (e : Entry) (rest : List ℕ) → Stood es → drop (length (written es)) log ≡ bytes_of e ++ rest → Stood (es ++ (e ∷ []))
  stood_push es e rest at here =
      let c = length (written es) in
      let d : drop (length (written (es ++ (e ∷ [])))) log ≡ rest =
      ap (λ n. drop n log) (push_size es e) ∙ sym (drop-drop (length (bytes_of e)) c log) ∙ ap (drop (length (bytes_of e))) here ∙ drop_at (bytes_of e) rest (length (bytes_of e)) refl in
      at ∙ ap (λ x. written es ++ x) here ∙ sym (append_assoc (written es) (bytes_of e) rest)
      ∙ ap (λ x. x ++ rest) (ap (λ x. written es ++ x) (sym (append-nil (bytes_of e))) ∙ sym (written_append es (e ∷ [])))
      ∙ ap (λ x. written (es ++ (e ∷ [])) ++ x) (sym d)

  -- a fault where the reader stands
  refuse : (f : ℕ) (es : List Entry) (s : State) (d : Fault) → Front g es → Stood es → look (behind es s) ≡ Err d →
      (d.core ≡ g.core) × (d.offset ≡ length (written es)) × Breaks g es (drop (length (written es)) log) d.layer d.cause →
      Judged g log (in_front es (walk look (suc f) (behind es s)))
  refuse f es s d lawful at q b =
      inr (
        es,
        d,
        (ap (in_front es) (walk_fault look (behind es s) f d q) ∙ (λ i. record { entries = append-nil es i; verdict = Err d })),
        record { lawful = lawful; rest = drop (length (written es)) log; bytes = at; core = b.0; offset = b.1; breaks = b.2 },
      )

-- the number of arcs that an end record read from bytes can say
pub end_small : (core at : ℕ) (bs : List ℕ) (n k : ℕ) → AllByRecursion (λ b. b < 256) bs → entry_at core at bs ≡ Ok (end n k) → k < 65536
end_small core at bs n k o q =
    let h = subst (AllByRecursion (λ b. b < 256)) (written_back core at bs (end n k) o q) o in
    let high : k / 256 < 256 = h.1.1.1.1.0 in
    omega arith

pub bad_ending : (xs : List LogArc) (last : ℕ) (latest : List ℕ) (m n k : ℕ) → Knows xs last latest m → k < 65536 → (b₁ : Bool) → eqb m k ≡ b₁ → (b₂ : Bool) → leb last n ≡ b₂ → (b₁ && b₂) ≡ false → BadEnd xs n k
bad_ending xs last latest m n k w small false q₁ b₂ q₂ h = wrong_arcs (λ e. eqb-false m k q₁ (omega (arith, w.number)))
bad_ending xs last latest m n k w small true q₁ false q₂ h =
    let low = leb-false last n q₂ in
    elim w.last_is [
      | inl none ↦ absurd (omega arith)
      | inr some ↦ too_few_instructions (any_map (λ b. b.target ≡ last) (λ b. n < b.target) xs (λ b q. omega arith) some)
    ]
bad_ending xs last latest m n k w small true q₁ true q₂ h = absurd cc

module _ (g : Heading) (log : List ℕ) (four : g.cores ≤ 4) (octets : AllByRecursion (λ b. b < 256) log) where
  -- the bytes of a record that was read where the reader stands
  stands_here : (es : List Entry) (e : Entry) → entry_at g.core (length (written es)) (drop (length (written es)) log) ≡ Ok e →
      drop (length (written es)) log ≡ bytes_of e ++ drop (length (bytes_of e)) (drop (length (written es)) log)
  stands_here es e q = written_back g.core (length (written es)) (drop (length (written es)) log) e (octets_drop (length (written es)) log octets) q

  module _ (f : ℕ) (body : List Entry) (last : ℕ) (latest : List ℕ) (m : ℕ) (w : Knows (arcs_in body) last latest m) (l : Body g body) (at : Stood g log (front g body)) where
    abbrev xs : List LogArc
    xs = arcs_in body

    abbrev es : List Entry
    es = front g body

    abbrev c : ℕ
    c = length (written es)

    abbrev s : State
    s = Among last latest m

    abbrev Here : Type 0
    Here = Judged g log (in_front es (walk look (suc f) (behind g log es s)))

    front_is : Front g es
    front_is = inr (body, refl, l)

    -- the walk over one entry
    one_step : (e : Entry) (n : State) → look (behind g log es s) ≡ Ok (Some (e, n)) →
        in_front es (walk look (suc f) (behind g log es s)) ≡ in_front (front g (body ++ (e ∷ []))) (walk look f (behind g log (front g (body ++ (e ∷ []))) n))
    one_step e n seen_is =
        ap (in_front es) (walk_some look (behind g log es s) f e n seen_is ∙ ap (λ v. prefixed e (walk look f v)) (moved_behind g log es s n e))
        ∙ in_front_push es e (walk look f (behind g log (es ++ (e ∷ [])) n))

    on_arc : (a : LogArc) → entry_at g.core c (drop c log) ≡ Ok (arc a) →
        (Knows (arcs_in (body ++ (arc a ∷ []))) a.target (set latest a.source a.target) (one_more m) → Body g (body ++ (arc a ∷ [])) → Stood g log (front g (body ++ (arc a ∷ []))) →
        Judged g log (in_front (front g (body ++ (arc a ∷ []))) (walk look f (behind g log (front g (body ++ (arc a ∷ []))) (Among a.target (set latest a.source a.target) (one_more m)))))) →
        (b : Bool) → arc_stands g last latest a.source a.count a.target ≡ b → Here
    on_arc a q again true t =
        let h = stands_follows xs last latest m w a g t in
        let n = Among a.target (set latest a.source a.target) (one_more m) in
        let seen_is : look (behind g log es s) ≡ Ok (Some (arc a, n)) =
        ap (judged g s c) q ∙ ap (λ b. passed (arc a) (cond b (Ok n) (Err (broken 2 g.core c 4)))) t in
        let r = again
        (subst (λ ys. Knows ys a.target (set latest a.source a.target) (one_more m)) (sym (arcs_append body (arc a ∷ []))) (knows_push xs last latest m w a (omega (arith, h.0.core)) h.1))
        (body_push g body (arc a) l tt (subst (Lawful g) (sym (arcs_append body (arc a ∷ []))) (lawful_push g xs a l.lawful h.0 h.2)))
        (stood_push g log es (arc a) _ at (stands_here es (arc a) q)) in
        subst (Judged g log) (sym (one_step (arc a) n seen_is)) r
    on_arc a q again false t =
        let seen_is : look (behind g log es s) ≡ Err (broken 2 g.core c 4) =
        ap (judged g s c) q ∙ ap (λ b. passed (arc a) (cond b (Ok (Among a.target (set latest a.source a.target) (one_more m))) (Err (broken 2 g.core c 4)))) t in
        refuse g log f es s (broken 2 g.core c 4) front_is at seen_is (refl, refl, bad_arc body a _ refl (stands_here es (arc a) q) (fails_breaks xs last latest m w a g t))

    on_end : (n k : ℕ) → entry_at g.core c (drop c log) ≡ Ok (end n k) → (b : Bool) → (eqb m k && leb last n) ≡ b → Here
    on_end n k q true t =
        let small = end_small g.core c (drop c log) n k (octets_drop c log octets) q in
        let p = and_parts (eqb m k) (leb last n) t in
        let number : k ≡ length xs = omega (arith, eqb-true m k p.0, w.number) in
        let low = leb-true last n p.1 in
        let seen_is : look (behind g log es s) ≡ Ok (Some (end n k, After n)) =
        ap (judged g s c) q ∙ ap (λ b. passed (end n k) (cond b (Ok (After n)) (Err (broken 2 g.core c 5)))) t in
        let step : in_front es (walk look (suc f) (behind g log es s)) ≡ record { entries = whole g body n; verdict = Ok n } =
        ap (in_front es) (walk_some look (behind g log es s) f (end n k) (After n) seen_is
        ∙ ap (prefixed (end n k)) (ap (walk look f) (moved_behind g log es s (After n) (end n k)) ∙ walk_ended g log f (es ++ (end n k ∷ [])) n))
        ∙ (λ i. record { entries = es ++ (end n (number i) ∷ []); verdict = Ok n }) in
        inl (
          body,
          n,
          step,
          record {
            lawful = l;
            reached = all_map (λ b. b.target ≤ last) (λ b. b.target ≤ n) xs (λ b h. omega arith) w.below;
            rest = drop (length (written (whole g body n))) log;
            bytes = subst (λ k. Stood g log (es ++ (end n k ∷ []))) number (stood_push g log es (end n k) _ at (stands_here es (end n k) q));
          },
        )
    on_end n k q false t =
        let small = end_small g.core c (drop c log) n k (octets_drop c log octets) q in
        let seen_is : look (behind g log es s) ≡ Err (broken 2 g.core c 5) =
        ap (judged g s c) q ∙ ap (λ b. passed (end n k) (cond b (Ok (After n)) (Err (broken 2 g.core c 5)))) t in
        refuse g log f es s (broken 2 g.core c 5) front_is at seen_is
        (refl, refl, bad_end body n k _ refl (stands_here es (end n k) q) (bad_ending xs last latest m n k w small (eqb m k) refl (leb last n) refl t))

    on_entry : (x : Result Entry Fault) → entry_at g.core c (drop c log) ≡ x →
        ((e : Entry) (last' : ℕ) (latest' : List ℕ) (m' : ℕ) → length (bytes_of e) ≤ length log - c → Knows (arcs_in (body ++ (e ∷ []))) last' latest' m' → Body g (body ++ (e ∷ [])) → Stood g log (front g (body ++ (e ∷ []))) →
        Judged g log (in_front (front g (body ++ (e ∷ []))) (walk look f (behind g log (front g (body ++ (e ∷ []))) (Among last' latest' m'))))) →
        Here
    on_entry (Err d) q again =
        let b = unread g es g.core c (drop c log) d q in
        refuse g log f es s d front_is at (ap (judged g s c) q) b
    on_entry (Ok (head k p n)) q again =
        refuse g log f es s (broken 2 g.core c 3) front_is at (ap (judged g s c) q) (refl, refl, head_later body k p n _ refl (stands_here es (head k p n) q))
    on_entry (Ok (arc a)) q again =
        let fits = entry_fits g.core c (drop c log) (arc a) q in
        on_arc a q (again (arc a) a.target (set latest a.source a.target) (one_more m) (omega (arith, length-drop c log))) (arc_stands g last latest a.source a.count a.target) refl
    on_entry (Ok (end n k)) q again = on_end n k q (eqb m k && leb last n) refl

  -- from behind the head and some body on
  read_on : (f : ℕ) (body : List Entry) (last : ℕ) (latest : List ℕ) (m : ℕ) → Knows (arcs_in body) last latest m → Body g body → Stood g log (front g body) → length log - length (written (front g body)) < f →
      Judged g log (in_front (front g body) (walk look f (behind g log (front g body) (Among last latest m))))
  read_on zero body last latest m w l at h = absurd (omega arith)
  read_on (suc f) body last latest m w l at h =
      on_entry f body last latest m w l at (entry_at g.core (length (written (front g body))) (drop (length (written (front g body))) log)) refl
      (λ e last' latest' m' fits w' l' at'. read_on f (body ++ (e ∷ [])) last' latest' m' w' l' at'
      (omega (arith, push_size g log (front g body) e, size_pos e)))

  on_first : (f : ℕ) → length log < suc f → (x : Result Entry Fault) → entry_at g.core 0 log ≡ x → Judged g log (walk look (suc f) (at_front g log))
  on_first f h (Err d) q =
      refuse g log f [] Before d (inl refl) refl (ap (judged g Before 0) q) (unread g [] g.core 0 log d q)
  on_first f h (Ok (arc a)) q =
      refuse g log f [] Before (broken 2 g.core 0 3) (inl refl) refl (ap (judged g Before 0) q)
      (refl, refl, no_head (arc a) _ refl (stands_here [] (arc a) q) (λ e. cc))
  on_first f h (Ok (end n k)) q =
      refuse g log f [] Before (broken 2 g.core 0 3) (inl refl) refl (ap (judged g Before 0) q)
      (refl, refl, no_head (end n k) _ refl (stands_here [] (end n k) q) (λ e. cc))
  on_first f h (Ok (head k p n)) q = by_fields (eqb k g.core) refl (eqb p g.cores) refl (eqb n g.cells) refl
    where
      seen_is : (b : Bool) → (eqb k g.core && (eqb p g.cores && eqb n g.cells)) ≡ b →
          look (at_front g log) ≡ passed (head k p n) (cond b (Ok (Among 0 no_targets 0)) (Err (broken 2 g.core 0 3)))
      seen_is b t = ap (judged g Before 0) q ∙ ap (λ b. passed (head k p n) (cond b (Ok (Among 0 no_targets 0)) (Err (broken 2 g.core 0 3)))) t

      wrong : (eqb k g.core && (eqb p g.cores && eqb n g.cells)) ≡ false → (head k p n ≡ head g.core g.cores g.cells → ⊥) → Judged g log (walk look (suc f) (at_front g log))
      wrong t differs = refuse g log f [] Before (broken 2 g.core 0 3) (inl refl) refl (seen_is false t) (refl, refl, no_head (head k p n) _ refl (stands_here [] (head k p n) q) differs)

      by_fields : (b₁ : Bool) → eqb k g.core ≡ b₁ → (b₂ : Bool) → eqb p g.cores ≡ b₂ → (b₃ : Bool) → eqb n g.cells ≡ b₃ → Judged g log (walk look (suc f) (at_front g log))
      by_fields true q₁ true q₂ true q₃ =
          let ek = eqb-true k g.core q₁ in
          let ep = eqb-true p g.cores q₂ in
          let en = eqb-true n g.cells q₃ in
          let hd : head k p n ≡ head g.core g.cores g.cells = cc in
          let t : (eqb k g.core && (eqb p g.cores && eqb n g.cells)) ≡ true = λ i. q₁ i && (q₂ i && q₃ i) in
          let fits = entry_fits g.core 0 log (head k p n) q in
          let at : Stood g log (front g []) = subst (λ e. Stood g log (e ∷ [])) hd (stood_push g log [] (head k p n) _ refl (stands_here [] (head k p n) q)) in
          let step : walk look (suc f) (at_front g log) ≡ in_front (front g []) (walk look f (behind g log (front g []) (Among 0 no_targets 0))) =
          walk_some look (at_front g log) f (head k p n) (Among 0 no_targets 0) (seen_is true t)
          ∙ ap (λ e. prefixed e (walk look f (behind g log (front g []) (Among 0 no_targets 0)))) hd in
          subst (Judged g log) (sym step) (read_on f [] 0 no_targets 0 knows_none (record { between = tt; lawful = tt }) at (omega arith))
      by_fields false q₁ b₂ q₂ b₃ q₃ = wrong (ap (λ b. b && (eqb p g.cores && eqb n g.cells)) q₁) (λ e. eqb-false k g.core q₁ cc)
      by_fields true q₁ false q₂ b₃ q₃ = wrong (λ i. q₁ i && (q₂ i && eqb n g.cells)) (λ e. eqb-false p g.cores q₂ cc)
      by_fields true q₁ true q₂ false q₃ = wrong (λ i. q₁ i && (q₂ i && q₃ i)) (λ e. eqb-false n g.cells q₃ cc)

  pub read_judged : Judged g log (reading_from (at_front g log))
  unfolding reading_from
  read_judged = on_first (length log) (omega arith) (entry_at g.core 0 log) refl
