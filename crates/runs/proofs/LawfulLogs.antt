-- The logged arcs keep the rules of logs.
use Rattle.std.proofs.Common.{◌≡◌, ℕ, zero, suc, ◌+◌, ◌<◌, ◌≤◌, ◌≢◌, ◌⊎◌, ◌↔◌, List, [], ◌∷◌, ◌++◌, length, sym, refl, ap, ◌∙◌, subst, inl, inr, arith}
use mathlib.Core.Option.{Option, none, some, some-injective}
use native.Mathlib.Decide.{ℕ_discrete, dec_lt}
use Rattle.reducers.specs.Numbers.{Numbers, ◌⊑◌}
use Rattle.runs.specs.Runs.{Event, Run, Instr, core_of, access_of, choose, done, Has, Conflict}
use Rattle.runs.specs.Candidates.{Candidate, candidate, candidates, remembered}
use Rattle.runs.specs.Recording.{Arc, arc, In, Judged, none_left, answers_yes, answers_no, Recording, begin, turn, log}
use Rattle.runs.specs.Positions.{position, insert, add, gather}
use Rattle.runs.specs.Theorems.{Rising, LogsAreLawful, LogsFew}
use Rattle.runs.proofs.WorkingOrder.{choose_yes}
use Rattle.runs.proofs.OrderAsClosure.{has_placed}
use Rattle.runs.proofs.CandidateLists.{pick_sound, Sorted, sorted}
use Rattle.runs.proofs.NewestFirst.{candidates_by_cores}
use Rattle.runs.proofs.NoOrderingLost.{good}

-- The arc b was logged before a: a target does not go back, and a target has no two sources of one core.
abbrev Follows : Arc → Arc → Type 0
Follows a b =
    a.target.core ≡ b.target.core →
    (b.target.count ≤ a.target.count) × (a.target.count ≡ b.target.count → a.source.core ≢ b.source.core)

abbrev InOrder : List Arc → Type 0
InOrder [] = Unit {0}
InOrder (a ∷ L) = ((b : Arc) → In b L → Follows a b) × InOrder L

-- no two candidates of one core
abbrev Distinct : List Candidate → Type 0
Distinct [] = Unit {0}
Distinct (y ∷ l) = ((z : Candidate) → In z l → z.source.core ≢ y.source.core) × Distinct l

distinct : (h : Run) (e : Event) (l : List Candidate) → ((y : Candidate) → In y l → candidate h e y.source.core ≡ some y) → Sorted h l → Distinct l
distinct h e [] g s = tt
distinct h e (y ∷ l) g s = (apart, distinct h e l (λ z i. g z (inr i)) s.1)
  where
    apart : (z : Candidate) → In z l → z.source.core ≢ y.source.core
    apart z i q =
        let p : y ≡ z = some-injective _ _ (sym (g y (inl refl)) ∙ ap (candidate h e) (sym q) ∙ g z (inr i)) in
        s.0 z i (inl (ap (λ w. w.source) p))

-- the new arcs come after L's, whose targets at e's core are older than e
judged_in_order : {e : Event} {y : Instr} {l : List Candidate} {N N' : Numbers} {L L' : List Arc} → Judged ◌⊑◌ e y l N L N' L' → Distinct l →
    ((b : Arc) → In b L → y.core ≡ b.target.core → (b.target.count ≤ y.count) × (y.count ≡ b.target.count → (x : Candidate) → In x l → x.source.core ≢ b.source.core)) →
    InOrder L → InOrder L'
judged_in_order none_left d f o = o
judged_in_order (answers_yes p rest) d f o =
    judged_in_order rest d.1 (λ b i q. ((f b i q).0, λ s m k. (f b i q).1 s m (inr k))) o
judged_in_order {e} {y} (answers_no {x = x} {l = l} {L = L} p t rest) d f o =
    judged_in_order rest d.1
    (λ b. elim [
      | inl q ↦ λ c. ((at_new b q).0, λ s n k w. d.0 n k (w ∙ (at_new b q).1))
      | inr i ↦ λ c. ((f b i c).0, λ s n k. (f b i c).1 s n (inr k))
    ])
    ((λ b i c. ((f b i c).0, λ s. (f b i c).1 s x (inl refl))), o)
  where
    at_new : (b : Arc) → b ≡ arc x.source y → (b.target.count ≤ y.count) × (b.source.core ≡ x.source.core)
    at_new b q = (omega (arith, ap (λ (a : Arc). a.target.count) q), ap (λ (a : Arc). a.source.core) q)

in_order : {r : Run} {N : Numbers} {L : List Arc} → Recording ◌⊑◌ r N L → InOrder L
in_order begin = tt
in_order (turn {e = e} {h = h} {N = N} {L = L} r jd n) =
    judged_in_order jd (distinct h e (candidates h e) (λ y i. (pick_sound h e h y i).given) (sorted h e)) (λ b i q. older b ((good r).arcs b i) q) (in_order r)
  where
    older : (b : Arc) → Conflict h b.source b.target → core_of e ≡ b.target.core →
        (b.target.count ≤ suc (done h (core_of e))) ×
        (suc (done h (core_of e)) ≡ b.target.count → (x : Candidate) → In x (candidates h e) → x.source.core ≢ b.source.core)
    older b k q =
        let i : Has h b.target = has_placed h k.0.second b.target k.0.does_second k.0.placed_second in
        let l : b.target.count ≤ done h (core_of e) = subst (λ j. b.target.count ≤ done h j) (sym q) i.1 in
        (omega arith, λ s. absurd (omega arith))

pub in_last : (a b : Arc) (l : List Arc) → In b (l ++ (a ∷ [])) → In b l ⊎ (b ≡ a)
in_last a b [] (inl q) = inr q
in_last a b [] (inr i) = absurd i
in_last a b (c ∷ l) (inl q) = inl (inl q)
in_last a b (c ∷ l) (inr i) = elim (in_last a b l i) [ inl k ↦ inl (inr k) | inr q ↦ inr q ]

abbrev Later : Arc → Arc → Type 0
Later a b = (a.target.count ≤ b.target.count) × (a.target.count ≡ b.target.count → a.source.core ≢ b.source.core)

rising_last : (a : Arc) (l : List Arc) → Rising l → ((b : Arc) → In b l → Later b a) → Rising (l ++ (a ∷ []))
rising_last a [] r f = ((λ b i. absurd i), tt)
rising_last a (c ∷ l) r f = (later, rising_last a l r.1 (λ b i. f b (inr i)))
  where
    later : (b : Arc) → In b (l ++ (a ∷ [])) → Later c b
    later b i = elim (in_last a b l i) [ inl k ↦ r.0 b k | inr q ↦ subst (λ z. Later c z) (sym q) (f c (inl refl)) ]

-- the members of a core's log

pub log_from : (j : ℕ) (L : List Arc) (a : Arc) → In a (log j L) → In a L × (a.target.core ≡ j)
log_from j [] a i = absurd i
log_from j (b ∷ L) a i = go (λ k. log_from j L a k) (ℕ_discrete b.target.core j) i
  where
    go : (In a (log j L) → In a L × (a.target.core ≡ j)) → (d : Dec (b.target.core ≡ j)) →
        In a (choose d (log j L ++ (b ∷ [])) (log j L)) → In a (b ∷ L) × (a.target.core ≡ j)
    go r (yes q) k = elim (in_last b a (log j L) k) [
      | inl m ↦ (inr (r m).0, (r m).1)
      | inr p ↦ (inl p, ap (λ (c : Arc). c.target.core) p ∙ q)
    ]
    go r (no q) k = (inr (r k).0, (r k).1)

in_front : (a b : Arc) (l : List Arc) → In b l → In b (l ++ (a ∷ []))
in_front a b [] i = absurd i
in_front a b (c ∷ l) (inl q) = inl q
in_front a b (c ∷ l) (inr i) = inr (in_front a b l i)

in_end : (a b : Arc) (l : List Arc) → b ≡ a → In b (l ++ (a ∷ []))
in_end a b [] q = inl q
in_end a b (c ∷ l) q = inr (in_end a b l q)

log_to : (j : ℕ) (L : List Arc) (a : Arc) → a.target.core ≡ j → In a L → In a (log j L)
log_to j [] a q i = absurd i
log_to j (b ∷ L) a q i = go (λ k. log_to j L a q k) (ℕ_discrete b.target.core j) i
  where
    go : (In a L → In a (log j L)) → (d : Dec (b.target.core ≡ j)) → In a (b ∷ L) → In a (choose d (log j L ++ (b ∷ [])) (log j L))
    go r (yes p) (inl k) = in_end b a (log j L) k
    go r (yes p) (inr k) = in_front b a (log j L) (r k)
    go r (no p) (inl k) = absurd (p (sym (ap (λ (c : Arc). c.target.core) k) ∙ q))
    go r (no p) (inr k) = r k

pub in_log : (j : ℕ) (L : List Arc) (a : Arc) → a.target.core ≡ j → In a (log j L) ↔ In a L
in_log j L a q = ((λ i. (log_from j L a i).0), log_to j L a q)

rising : (j : ℕ) (L : List Arc) → InOrder L → Rising (log j L)
rising j [] o = tt
rising j (a ∷ L) o = go (ℕ_discrete a.target.core j) (rising j L o.1)
  where
    go : (d : Dec (a.target.core ≡ j)) → Rising (log j L) → Rising (choose d (log j L ++ (a ∷ [])) (log j L))
    go (yes q) r = rising_last a (log j L) r (λ b i.
        let m : In b L × (b.target.core ≡ j) = log_from j L b i in
        let f : (b.target.count ≤ a.target.count) × (a.target.count ≡ b.target.count → a.source.core ≢ b.source.core) =
        o.0 b m.0 (q ∙ sym m.1) in
        (f.0, λ p s. f.1 (sym p) (sym s)))
    go (no q) r = r

pub logs_are_lawful : LogsAreLawful ◌⊑◌
logs_are_lawful r N L rec = record {
  conflicts = (good rec).arcs;
  counts = λ a i.
      let k : Conflict r a.source a.target = (good rec).arcs a i in (
        has_placed r k.0.first a.source k.0.does_first k.0.placed_first,
        has_placed r k.0.second a.target k.0.does_second k.0.placed_second,
      );
  rising = λ j. rising j L (in_order rec);
}

-- a turn logs at most one arc from each other core

judged_few : {e : Event} {y : Instr} {l : List Candidate} {N N' : Numbers} {L L' : List Arc} → Judged ◌⊑◌ e y l N L N' L' → length L' ≤ length l + length L
judged_few none_left = omega arith
judged_few (answers_yes p rest) = omega (arith, judged_few rest)
judged_few (answers_no p t rest) = omega (arith, judged_few rest)

length_insert : {A : Type 0} (key : A → ℕ) (y : A) (l : List A) → length (insert key y l) ≡ suc (length l)
length_insert key y [] = refl
length_insert key y (z ∷ l) = go (dec_lt (key z) (key y)) (length_insert key y l)
  where
    go : {B : Type 0} (d : Dec B) → length (insert key y l) ≡ suc (length l) →
        length (choose d (y ∷ z ∷ l) (z ∷ insert key y l)) ≡ suc (suc (length l))
    go (yes _) q = refl
    go (no _) q = ap suc q

length_add : {A : Type 0} (key : A → ℕ) (o : Option A) (l : List A) → length (add key o l) ≤ suc (length l)
length_add key none l = omega arith
length_add key (some y) l = omega (arith, length_insert key y l)

few_gather : {A : Type 0} (key : A → ℕ) (f : ℕ → Option A) (n : ℕ) → length (gather key f n) ≤ n
few_gather key f zero = omega arith
few_gather key f (suc n) = omega (arith, few_gather key f n, length_add key (f n) (gather key f n))

-- fewer where one core gives none
fewer_gather : {A : Type 0} (key : A → ℕ) (f : ℕ → Option A) (n j : ℕ) → f j ≡ none → j < n → length (gather key f n) < n
fewer_gather key f zero j q l = absurd (omega arith)
fewer_gather {A} key f (suc n) j q l = go (fewer_gather key f n j q) (ℕ_discrete j n)
  where
    none_more : (o : Option A) → o ≡ none → length (add key o (gather key f n)) ≤ length (gather key f n)
    none_more o p = subst (λ t. length (add key t (gather key f n)) ≤ length (gather key f n)) (sym p) (omega arith)

    go : (j < n → length (gather key f n) < n) → Dec (j ≡ n) → length (add key (f n) (gather key f n)) < suc n
    go r (yes p) = omega (arith, none_more (f n) (ap f (sym p) ∙ q), few_gather key f n)
    go r (no p) = omega (arith, r (omega arith), length_add key (f n) (gather key f n))

few_candidates : (h : Run) (e : Event) (p : ℕ) → ((k : ℕ) → p ≤ k → done h k ≡ 0) → core_of e < p → length (candidates h e) < p
few_candidates h e p b l =
    subst (λ c. length c < p) (candidates_by_cores h e p b)
    (fewer_gather (λ y. position h y.source) (candidate h e) p (core_of e)
    (choose_yes (ℕ_discrete (core_of e) (core_of e)) none (remembered h (access_of e) (core_of e)) refl) l)

pub logs_few : LogsFew ◌⊑◌
logs_few p h e N N₁ L L₁ b l jd = omega (arith, judged_few jd, few_candidates h e p b l)
