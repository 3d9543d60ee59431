-- What reading all logs says is what the logs are: accepted exactly if they hold, and else the first fault.
use Rattle.std.proofs.Common.{◌≡◌, ℕ, zero, suc, ◌+◌, ◌*◌, ◌<◌, ◌≤◌, Bool, true, false, cond, ◌⊎◌, List, [], ◌∷◌, ◌++◌, length, get_or, drop, set, Ok, Err, Result, sym, refl, ap, ◌∙◌, subst, inl, inr, Fits, w8, arith}
use Rattle.std.specs.List.{AllByRecursion}
use Rattle.std.proofs.lemmas.List.{get_or-set_same, get_or-set_other, length-set, length-append, length-take, ext_get_or}
use Rattle.std.proofs.lemmas.Bool.{cases_eq, cases_lt}
use Rattle.std.proofs.lemmas.Bool.Decides.{nat_tests}
use Rattle.records.specs.declared.settings.Heading.{Heading}
use Rattle.records.specs.declared.settings.Sizes.{Sizes}
use Rattle.records.specs.Faults.{Fault, bad_setting, log_fault}
use Rattle.records.specs.Format.{LogArc, Entry, head, arc, end, written}
use Rattle.records.specs.Reading.{broken}
use Rattle.records.specs.Settings.{fits, log_of, heading_of}
use Rattle.logs.specs.Lawful.{arcs_in, Holds, Within, LogHolds, Broken, Accepted, FirstFault, in_log, at_source, Exactly, front, whole}
use Rattle.logs.specs.Session.{read_log, hold_log, onward, gathered, tested, session, no_counts, outcome, read_session}
use Rattle.logs.specs.Walk.{Reading}
use Rattle.logs.proofs.Arcs.{arcs_few}
use Rattle.logs.proofs.Bytes.{octets_of, octets_take, octets_drop}
use Rattle.logs.proofs.Judging.{Judged, read_judged}
use Rattle.logs.proofs.Paths.{Held, holds_read, holds_held, holds_few, fewer_records}
use Rattle.logs.proofs.Rules.{all_alike}

-- the loop over the logs for layers 1 and 2: all are read, or one has the first fault
module _ (store : List ℕ) (z : Sizes) where
  record AllRead (j : ℕ) (counts found : List ℕ) : Type 0 where
    numbers : (i : ℕ) → j ≤ i → i < z.cores → (read_log store z i).verdict ≡ Ok (get_or found i 0)
    kept : (i : ℕ) → i < j → get_or found i 0 ≡ get_or counts i 0
    others : (i : ℕ) → z.cores ≤ i → get_or found i 0 ≡ get_or counts i 0
    size : length found ≡ length counts

  record OneFails (verdict : ℕ → Result ℕ Fault) (j : ℕ) (f : Fault) : Type 0 where
    core : ℕ
    from : j ≤ core
    inside : core < z.cores
    fails : verdict core ≡ Err f
    earlier : (i : ℕ) → j ≤ i → i < core → (n : ℕ) × (verdict i ≡ Ok n)

  abbrev counting : ℕ → Result ℕ Fault
  counting i = (read_log store z i).verdict

  abbrev Gathers : ℕ → List ℕ → Result (List ℕ) Fault → Type 0
  Gathers j counts r =
      ((found : List ℕ) × (r ≡ Ok found) × AllRead j counts found) ⊎ ((f : Fault) × (r ≡ Err f) × OneFails counting j f)

  fails_later : (verdict : ℕ → Result ℕ Fault) (j : ℕ) (f : Fault) (n : ℕ) → verdict j ≡ Ok n → OneFails verdict (j + 1) f → OneFails verdict j f
  fails_later verdict j f n q o = record {
    core = o.core;
    from = omega (arith, o.from);
    inside = o.inside;
    fails = o.fails;
    earlier = λ i h l. elim (cases_eq i j) [ inl e ↦ (n, ap verdict e ∙ q) | inr ne ↦ o.earlier i (omega arith) l ];
  }

  fails_here : (verdict : ℕ → Result ℕ Fault) (j : ℕ) (f : Fault) → j < z.cores → verdict j ≡ Err f → OneFails verdict j f
  fails_here verdict j f h q = record { core = j; from = omega arith; inside = h; fails = q; earlier = λ i a b. absurd (omega arith) }

  read_more : (j n : ℕ) (counts found : List ℕ) → j < z.cores → j < length counts → counting j ≡ Ok n → AllRead (j + 1) (set counts j n) found → AllRead j counts found
  read_more j n counts found low inside q o = record {
    numbers = λ i h l. elim (cases_eq i j) [
      | inl e ↦ ap counting e ∙ q ∙ ap Ok (sym (ap (λ i. get_or found i 0) e ∙ o.kept j (omega arith) ∙ get_or-set_same counts j n 0 inside))
      | inr ne ↦ o.numbers i (omega arith) l
    ];
    kept = λ i h. o.kept i (omega arith) ∙ get_or-set_other counts j i n 0 (λ e. omega arith);
    others = λ i h. o.others i h ∙ get_or-set_other counts j i n 0 (λ e. omega arith);
    size = o.size ∙ length-set counts j n;
  }

  gathers : (k j : ℕ) (counts : List ℕ) → j + k ≡ z.cores → z.cores ≤ length counts → Gathers j counts (gathered store z k j counts)
  unfolding gathered
  gathers zero j counts e room =
      inl (counts, refl, record { numbers = λ i h l. absurd (omega arith); kept = λ i h. refl; others = λ i h. refl; size = refl })
  gathers (suc k) j counts e room = go (counting j) refl (λ n. gathers k (j + 1) (set counts j n) (omega arith) (omega (arith, length-set counts j n)))
    where
      go : (v : Result ℕ Fault) → counting j ≡ v → ((n : ℕ) → Gathers (j + 1) (set counts j n) (gathered store z k (j + 1) (set counts j n))) →
          Gathers j counts (onward v (λ n. gathered store z k (j + 1) (set counts j n)))
      go (Err f) q again = inr (f, refl, fails_here counting j f (omega arith) q)
      go (Ok n) q again = elim (again n) [
        | inl (found, p, o) ↦ inl (found, p, read_more j n counts found (omega arith) (omega arith) q o)
        | inr (f, p, o) ↦ inr (f, p, fails_later counting j f n q o)
      ]

  -- and for layer 3
  module _ (counts : List ℕ) where
    abbrev holding : ℕ → Result ℕ Fault
    holding i = (hold_log store z counts i).verdict

    abbrev Tests : ℕ → Result (Unit {0}) Fault → Type 0
    Tests j r = ((r ≡ Ok tt) × ((i : ℕ) → j ≤ i → i < z.cores → (n : ℕ) × (holding i ≡ Ok n))) ⊎ ((f : Fault) × (r ≡ Err f) × OneFails holding j f)

    tests : (k j : ℕ) → j + k ≡ z.cores → Tests j (tested store z counts k j)
    unfolding tested
    tests zero j e = inl (refl, λ i h l. absurd (omega arith))
    tests (suc k) j e = go (holding j) refl (tests k (j + 1) (omega arith))
      where
        go : (v : Result ℕ Fault) → holding j ≡ v → Tests (j + 1) (tested store z counts k (j + 1)) → Tests j (onward v (λ _. tested store z counts k (j + 1)))
        go (Err f) q again = inr (f, refl, fails_here holding j f (omega arith) q)
        go (Ok n) q (inl p) = inl (p.0, λ i h l. elim (cases_eq i j) [ inl same ↦ (n, ap holding same ∙ q) | inr ne ↦ p.1 i (omega arith) l ])
        go (Ok n) q (inr (f, p, o)) = inr (f, p, fails_later holding j f n q o)

-- the body of a log that was read
choose : (g : Heading) (log : List ℕ) (r : Reading) → Judged g log r → List Entry
choose g log r (inl (body, n, q, o)) = body
choose g log r (inr _) = []

chosen : (g : Heading) (log : List ℕ) (r : Reading) (w : Judged g log r) (n : ℕ) → r.verdict ≡ Ok n → Holds g log (choose g log r w) n
unfolding choose
chosen g log r (inl (body, k, q, o)) n e =
    let p : Ok k ≡ Ok n = sym (ap (λ x. x.verdict) q) ∙ e in
    let same : k ≡ n = cc in
    subst (Holds g log body) same o
chosen g log r (inr (before, f, q, o)) n e =
    let p : Err f ≡ Ok n = sym (ap (λ x. x.verdict) q) ∙ e in
    absurd cc

faulted : (g : Heading) (log : List ℕ) (r : Reading) → Judged g log r → (f : Fault) → r.verdict ≡ Err f → (before : List Entry) × Broken g log before f
faulted g log r (inl (body, k, q, o)) f e =
    let p : Ok k ≡ Err f = sym (ap (λ x. x.verdict) q) ∙ e in
    absurd cc
faulted g log r (inr (before, d, q, o)) f e =
    let p : Err d ≡ Err f = sym (ap (λ x. x.verdict) q) ∙ e in
    let same : d ≡ f = cc in
    (before, subst (Broken g log before) same o)

pub ok_err : {A : Type 0} (x : A) (f : Fault) → Ok x ≡ Err f → ⊥
ok_err x f q = cc

-- a session of bytes
module _ (store : List ℕ) (z : Sizes) (octets : AllByRecursion (λ b. b < 256) store) (few : z.cores ≤ 4) where
  pub log_octets : (j : ℕ) → AllByRecursion (λ b. b < 256) (log_of store z j)
  log_octets j = octets_take z.log_bytes (drop (j * z.log_bytes) store) (octets_drop (j * z.log_bytes) store octets)

  judged_log : (j : ℕ) → Judged (heading_of z j) (log_of store z j) (read_log store z j)
  judged_log j = read_judged (heading_of z j) (log_of store z j) few (log_octets j)

  logged : ℕ → List Entry
  logged j = choose (heading_of z j) (log_of store z j) (read_log store z j) (judged_log j)

  log_holds : (j n : ℕ) → (read_log store z j).verdict ≡ Ok n → Holds (heading_of z j) (log_of store z j) (logged j) n
  unfolding logged
  log_holds j n q = chosen (heading_of z j) (log_of store z j) (read_log store z j) (judged_log j) n q

  -- a log that holds is read as it says
  holds_counts : (j : ℕ) (body : List Entry) (n : ℕ) → Holds (heading_of z j) (log_of store z j) body n → (read_log store z j).verdict ≡ Ok n
  holds_counts j body n o = ap (λ r. r.verdict) (holds_read (heading_of z j) (log_of store z j) body n few (holds_few (heading_of z j) (log_of store z j) body n (log_octets j) o) o)

  held_log : (counts : List ℕ) (j : ℕ) (body : List Entry) (n : ℕ) (o : Holds (heading_of z j) (log_of store z j) body n) →
      Held (heading_of z j) (log_of store z j) n (length (arcs_in body)) counts (hold_log store z counts j).verdict [] body
  held_log counts j body n o = holds_held (heading_of z j) (log_of store z j) body n few (holds_few (heading_of z j) (log_of store z j) body n (log_octets j) o) o counts

  within_counts : (counts : List ℕ) (j : ℕ) (body : List Entry) (n : ℕ) → Holds (heading_of z j) (log_of store z j) body n → (m : ℕ) → (hold_log store z counts j).verdict ≡ Ok m → Within counts (arcs_in body)
  within_counts counts j body n o m q = elim (held_log counts j body n o) [
    | inl p ↦ p.0
    | inr p ↦ absurd (ok_err m _ (sym q ∙ p.6))
  ]

  counts_within : (counts : List ℕ) (j : ℕ) (body : List Entry) (n : ℕ) → Holds (heading_of z j) (log_of store z j) body n → Within counts (arcs_in body) → (f : Fault) → (hold_log store z counts j).verdict ≡ Err f → ⊥
  counts_within counts j body n o w f q = elim (held_log counts j body n o) [
    | inl p ↦ ok_err n f (sym p.1 ∙ q)
    | inr (fr, a, back, split, within, beyond, _) ↦ first_beyond a back fr (subst (λ x. Within counts (arcs_in x)) split w) beyond
  ]
    where
      first_beyond : (a : LogArc) (back fr : List Entry) → Within counts (arcs_in (fr ++ (arc a ∷ back))) → get_or counts a.source 0 < a.count → ⊥
      first_beyond a back [] w b = omega (arith, w.0)
      first_beyond a back (head _ _ _ ∷ fr) w b = first_beyond a back fr w b
      first_beyond a back (arc x ∷ fr) w b = first_beyond a back fr w.1 b
      first_beyond a back (end _ _ ∷ fr) w b = first_beyond a back fr w b

  -- two counts that the logs agree with are one
  one_count : (xs ys : List ℕ) → length xs ≡ 4 → length ys ≡ 4 → ((j : ℕ) → j < z.cores → (read_log store z j).verdict ≡ Ok (get_or xs j 0)) → ((j : ℕ) → j < z.cores → (read_log store z j).verdict ≡ Ok (get_or ys j 0)) →
      ((j : ℕ) → z.cores ≤ j → get_or xs j 0 ≡ 0) → ((j : ℕ) → z.cores ≤ j → get_or ys j 0 ≡ 0) → xs ≡ ys
  one_count xs ys fx fy rx ry ox oy = ext_get_or 0 xs ys (fx ∙ sym fy) (λ j h. elim (cases_lt j z.cores) [
    | inl l ↦ (let p : Ok (get_or xs j 0) ≡ Ok (get_or ys j 0) = sym (rx j l) ∙ ry j l in cc)
    | inr l ↦ ox j l ∙ sym (oy j l)
  ])

  abbrev Sessioned : Result (List ℕ) Fault → Type 0
  Sessioned r =
      ((counts : List ℕ) × (r ≡ Ok counts) × Accepted store z counts × ((xs : List ℕ) → Accepted store z xs → xs ≡ counts))
      ⊎ ((f : Fault) × (r ≡ Err f) × FirstFault store z f × ((xs : List ℕ) → Accepted store z xs → ⊥))

  accepted_counts : (xs : List ℕ) → Accepted store z xs → (j : ℕ) → j < z.cores → (read_log store z j).verdict ≡ Ok (get_or xs j 0)
  accepted_counts xs w j h = holds_counts j (w.bodies j) (get_or xs j 0) (w.holds j h)

  -- layers 1 and 2 passed, with these counts
  module _ (found : List ℕ) (o : AllRead store z 0 no_counts found) where
    others : (j : ℕ) → z.cores ≤ j → get_or found j 0 ≡ 0
    others j h = o.others j h ∙ all_alike 4 j 0

    numbers : (j : ℕ) → j < z.cores → (read_log store z j).verdict ≡ Ok (get_or found j 0)
    numbers j h = o.numbers j (omega arith) h

    holds : (j : ℕ) → j < z.cores → LogHolds store z found logged j
    holds j h = log_holds j (get_or found j 0) (numbers j h)

    same : (xs : List ℕ) → Accepted store z xs → xs ≡ found
    same xs w = one_count xs found w.four o.size (accepted_counts xs w) numbers w.others others

    on_tests : (r : Result (Unit {0}) Fault) → Tests store z found 0 r → Sessioned (onward r (λ _. Ok found))
    on_tests r (inl (q, p)) =
        inl (
          found,
          ap (λ r. onward r (λ _. Ok found)) q,
          record {
            bodies = logged;
            holds = holds;
            sources = λ j h. let v = p j (omega arith) h in within_counts found j (logged j) (get_or found j 0) (holds j h) v.0 v.1;
            four = o.size;
            others = others;
          },
          same,
        )
    on_tests r (inr (f, q, w)) =
        inr (
          f,
          ap (λ r. onward r (λ _. Ok found)) q,
          beyond (held_log found w.core (logged w.core) (get_or found w.core 0) (holds w.core w.inside)),
          λ xs a. let e = same xs a in counts_within found w.core (a.bodies w.core) (get_or xs w.core 0) (a.holds w.core w.inside) (subst (λ c. Within c (arcs_in (a.bodies w.core))) e (a.sources w.core w.inside)) f w.fails,
        )
      where
        beyond : Held (heading_of z w.core) (log_of store z w.core) (get_or found w.core 0) (length (arcs_in (logged w.core))) found (hold_log store z found w.core).verdict [] (logged w.core) → FirstFault store z f
        beyond (inl p) = absurd (ok_err (get_or found w.core 0) f (sym p.1 ∙ w.fails))
        beyond (inr (fr, a, back, split, within, far, v)) =
            let e : broken 3 w.core (length (written (front (heading_of z w.core) fr))) 6 ≡ f = let p : Err (broken 3 w.core (length (written (front (heading_of z w.core) fr))) 6) ≡ Err f = sym v ∙ w.fails in cc in
            subst (FirstFault store z) e
            (at_source found logged w.core fr a back w.inside holds
            (λ i h. let u = w.earlier i (omega arith) h in within_counts found i (logged i) (get_or found i 0) (holds i (omega (arith, w.inside))) u.0 u.1)
            split within far)

  session_judged : Sessioned (session store z)
  session_judged = go (gathered store z z.cores 0 no_counts) (gathers store z z.cores 0 no_counts (omega arith) (omega arith))
    where
      go : (r : Result (List ℕ) Fault) → Gathers store z 0 no_counts r → Sessioned (onward r (λ counts. onward (tested store z counts z.cores 0) (λ _. Ok counts)))
      go r (inl (found, q, o)) =
          subst (λ r. Sessioned (onward r (λ counts. onward (tested store z counts z.cores 0) (λ _. Ok counts)))) (sym q)
          (on_tests found o (tested store z found z.cores 0) (tests store z found z.cores 0 (omega arith)))
      go r (inr (f, q, w)) =
          let b = faulted (heading_of z w.core) (log_of store z w.core) (read_log store z w.core) (judged_log w.core) f w.fails in
          inr (
            f,
            ap (λ r. onward r (λ counts. onward (tested store z counts z.cores 0) (λ _. Ok counts))) q,
            in_log w.core b.0 f w.inside (λ i h. let u = w.earlier i (omega arith) h in (logged i, u.0, log_holds i u.0 u.1)) b.1,
            λ xs a. ok_err (get_or xs w.core 0) f (sym (accepted_counts xs a w.core w.inside) ∙ w.fails),
          )

-- the numbers of an answer tell its cases apart
pub same_counts : (xs ys : List ℕ) → ◌≡◌ {A = List ℕ} (0 ∷ xs) (0 ∷ ys) → xs ≡ ys
same_counts xs ys q = cc

same_fault : (d f : Fault) → log_fault d ≡ log_fault f → d ≡ f
same_fault d f q =
    let a : d.layer ≡ f.layer = cc in
    let b : d.core ≡ f.core = cc in
    let c : d.offset ≡ f.offset = cc in
    let e : d.cause ≡ f.cause = cc in
    λ i. record { layer = a i; core = b i; offset = c i; cause = e i }

pub first_differs : (x y : ℕ) (xs ys : List ℕ) → x ∷ xs ≡ y ∷ ys → (x ≡ y → ⊥) → ⊥
first_differs x y xs ys q n = let p : x ≡ y = cc in n p

pub few_cores : (bytes : ℕ) (z : Sizes) → fits bytes z ≡ true → z.cores ≤ 4
few_cores bytes z q = grind (arith, nat_tests)

-- a log in a store that the sizes fit has no more arcs than its end record can say
pub few_arcs : (store : List ℕ) (z : Sizes) → fits (length store) z ≡ true → (j : ℕ) (body : List Entry) (n : ℕ) → Holds (heading_of z j) (log_of store z j) body n → length (arcs_in body) ≤ 65535
few_arcs store z t j body n o =
    let short : z.log_bytes ≤ 16384 = grind (arith, nat_tests) in
    omega (arith, length-take z.log_bytes (drop (j * z.log_bytes) store), ap length o.bytes, length-append (written (whole (heading_of z j) body n)) o.rest, fewer_records body n (length (arcs_in body)), arcs_few body)

module _ (store : List ℕ) (z : Sizes) (octets : AllByRecursion (λ b. b < 256) store) where
  when_fits : (few : z.cores ≤ 4) (r : Result (List ℕ) Fault) → Sessioned store z octets few r → fits (length store) z ≡ true → Exactly store z (outcome r)
  when_fits few r (inl (counts, q, a, one)) t = record {
    accepts = λ xs e. subst (Accepted store z) (same_counts counts xs (sym (ap outcome q) ∙ e)) a;
    accepted = λ xs _ w. ap outcome q ∙ ap (λ c. 0 ∷ c) (sym (one xs w));
    faulty = λ f e. absurd (first_differs 0 9 counts _ (sym (ap outcome q) ∙ e) (λ n. omega arith));
    unfit = λ e. absurd (first_differs 0 8 counts [] (sym (ap outcome q) ∙ e) (λ n. omega arith));
    refused = λ n. let b : true ≡ false = sym t ∙ n in absurd cc;
  }
  when_fits few r (inr (f, q, first, never)) t = record {
    accepts = λ xs e. absurd (first_differs 9 0 _ xs (sym (ap outcome q) ∙ e) (λ n. omega arith));
    accepted = λ xs _ w. absurd (never xs w);
    faulty = λ d e. subst (FirstFault store z) (same_fault f d (sym (ap outcome q) ∙ e)) first;
    unfit = λ e. absurd (first_differs 9 8 _ [] (sym (ap outcome q) ∙ e) (λ n. omega arith));
    refused = λ n. let b : true ≡ false = sym t ∙ n in absurd cc;
  }

  unfitting : fits (length store) z ≡ false → Exactly store z bad_setting
  unfitting t = record {
    accepts = λ xs e. absurd (first_differs 8 0 [] xs e (λ n. omega arith));
    accepted = λ xs n w. let b : true ≡ false = sym n ∙ t in absurd cc;
    faulty = λ f e. absurd (first_differs 8 9 [] _ e (λ n. omega arith));
    unfit = λ _. t;
    refused = λ _. refl;
  }

  pub read_exactly : Exactly store z (read_session store z)
  read_exactly = go (fits (length store) z) refl
    where
      go : (b : Bool) → fits (length store) z ≡ b → Exactly store z (cond b (outcome (session store z)) bad_setting)
      go true t = let few = few_cores (length store) z t in when_fits few (session store z) (session_judged store z octets few) t
      go false t = unfitting t

-- the items of a slice of bytes
pub bytes_octets : (store : List ℕ) → ((i : ℕ) → Fits w8 (get_or store i 0)) → AllByRecursion (λ b. b < 256) store
bytes_octets store fits = octets_of store (λ i _. omega (arith, fits i))

-- an answer that is the definition's
pub says_exactly : (store : List ℕ) (z : Sizes) (says : List ℕ) → ((i : ℕ) → Fits w8 (get_or store i 0)) → says ≡ read_session store z → Exactly store z says
says_exactly store z says fits q = subst (Exactly store z) (sym q) (read_exactly store z (bytes_octets store fits))
