-- What the numbers of each reducer come to over a whole list of calls.
use Rattle.std.proofs.Common.{◌≡◌, ℕ, ◌≤◌, max, Bool, true, false, cond, ◌&&◌, eqb, List, MatchBool, sym, refl, ap, ◌∙◌, subst, arith}
use Rattle.std.proofs.lemmas.Bool.{eqb-true}
use Rattle.reducers.specs.Numbers.{Numbers, zeros, ◌⊑◌, core?, cell?, stamp, taken, noted}
use Rattle.reducers.specs.Rows.{KnownOnly}
use Rattle.reducers.specs.declared.interface.AccessKind.{AccessKind}
use Rattle.reducers.specs.declared.interface.AccessKind.TheVariants.{Read, Write}
use Rattle.reducers.specs.Calls.{Call, takes, notes, Ran, fresh, next, largest, most, KeepAllKnowsNothing, PairwiseKnowsTheLargest, ExactMeetsEveryBound, NoneKnowsMoreThanExact}

record Holds (calls : List Call) (n : Numbers) : Type 0 where
  knows : (j i : ℕ) → n.known j i ≡ largest calls j i
  no_written : (c k : ℕ) → n.written c k ≡ 0
  no_read : (i c k : ℕ) → n.read i c k ≡ 0

pick : (p q : Bool) (x y a z l : ℕ) → z ≡ 0 → (p ≡ true → x ≡ l) → y ≡ l → cond p (max x (cond q a z)) y ≡ cond (p && q) (max l a) l
pick true true x y a z l hz f g = ap (λ u. max u a) (f refl)
pick true false x y a z l hz f g = let e : x ≡ l = f refl in omega arith
pick false q x y a z l hz f g = g

stamp_zero : (calls : List Call) (n : Numbers) → Holds calls n → (i c : ℕ) (w : AccessKind) (k : ℕ) → stamp n i c w k ≡ 0
stamp_zero calls n h i c Write k = h.no_written c k
stamp_zero calls n h i c Read k = h.no_read i c k

noted_known : (n : Numbers) (j c : ℕ) (w : AccessKind) (t k : ℕ) → (noted n j c w).known t k ≡ n.known t k
noted_known n j c Write t k = refl
noted_known n j c Read t k = refl

took : (calls : List Call) (n m : Numbers) (s a c : ℕ) (w : AccessKind) (t : ℕ) (v : Bool) → Holds calls n → MatchBool v (KnownOnly m (taken n s a c w t)) (m ≡ n)
    → (j i : ℕ) → m.known j i ≡ cond (v && (eqb j t && eqb i s)) (max (largest calls j i) a) (largest calls j i)
took calls n m s a c w t true h met j i =
    met.known_same j i
    ∙ pick (eqb j t) (eqb i s) (n.known t i) (n.known j i) a (stamp n s c w i) (largest calls j i) (stamp_zero calls n h s c w i)
    (λ e. h.knows t i ∙ ap (λ u. largest calls u i) (sym (eqb-true j t e))) (h.knows j i)
took calls n m s a c w t false h met j i = ap (λ (m : Numbers). m.known j i) met ∙ h.knows j i

stamps_left : (calls : List Call) (n m b : Numbers) (v : Bool) → Holds calls n → MatchBool v (KnownOnly m b) (m ≡ n) → ((c k : ℕ) → m.written c k ≡ 0) × ((i c k : ℕ) → m.read i c k ≡ 0)
stamps_left calls n m b true h met = (met.no_written, met.no_read)
stamps_left calls n m b false h met = (λ c k. ap (λ (m : Numbers). m.written c k) met ∙ h.no_written c k, λ i c k. ap (λ (m : Numbers). m.read i c k) met ∙ h.no_read i c k)

noted_same : (calls : List Call) (n m : Numbers) (t c : ℕ) (w : AccessKind) (v : Bool) → Holds calls n → MatchBool v (KnownOnly m (noted n t c w)) (m ≡ n) → (j i : ℕ) → m.known j i ≡ largest calls j i
noted_same calls n m t c w true h met j i = met.known_same j i ∙ noted_known n t c w j i ∙ h.knows j i
noted_same calls n m t c w false h met j i = ap (λ (m : Numbers). m.known j i) met ∙ h.knows j i

holds : {calls : List Call} {n : Numbers} → Ran KnownOnly calls n → Holds calls n
holds fresh = record { knows = λ j i. refl; no_written = λ c k. refl; no_read = λ i c k. refl }
holds (next {calls} {n} {m} r (takes s a c w t) met) =
    let v : Bool = core? s && (core? t && cell? c) in
    let left = stamps_left calls n m (taken n s a c w t) v (holds r) met in
    record { knows = took calls n m s a c w t v (holds r) met; no_written = left.0; no_read = left.1 }
holds (next {calls} {n} {m} r (notes t c w) met) =
    let v : Bool = core? t && cell? c in
    let left = stamps_left calls n m (noted n t c w) v (holds r) met in
    record { knows = noted_same calls n m t c w v (holds r) met; no_written = left.0; no_read = left.1 }

pub pairwise_knows_the_largest : PairwiseKnowsTheLargest
pairwise_knows_the_largest calls n r = let h = holds r in (h.knows, h.no_written, h.no_read)

-- keep-all
nothing : (b : Bool) (n m : Numbers) → n ≡ zeros → MatchBool b (m ≡ zeros) (m ≡ n) → m ≡ zeros
nothing true n m h q = q
nothing false n m h q = q ∙ h

pub keep_all_knows_nothing : KeepAllKnowsNothing
keep_all_knows_nothing calls n r = go r
  where
    go : {calls : List Call} {n : Numbers} → Ran (λ n _. n ≡ zeros) calls n → n ≡ zeros
    go fresh = refl
    go (next {calls} {n} {m} r (takes i a c w j) met) = nothing (core? i && (core? j && cell? c)) n m (go r) met
    go (next {calls} {n} {m} r (notes j c w) met) = nothing (core? j && cell? c) n m (go r) met

-- exact
meets_both : (b : Bool) (n m x y z : Numbers) → MatchBool b (m ≡ x) (m ≡ n) → x ≡ y → n ≡ z → m ≡ cond b y z
meets_both true n m x y z q p h = q ∙ p
meets_both false n m x y z q p h = q ∙ h

pub exact_meets_every_bound : ExactMeetsEveryBound
exact_meets_every_bound calls n r = go r
  where
    go : {calls : List Call} {n : Numbers} → Ran ◌≡◌ calls n → n ≡ most calls
    go fresh = refl
    go (next {calls} {n} {m} r (takes i a c w j) met) =
        meets_both (core? i && (core? j && cell? c)) n m (taken n i a c w j) (taken (most calls) i a c w j) (most calls) met (ap (λ x. taken x i a c w j) (go r)) (go r)
    go (next {calls} {n} {m} r (notes j c w) met) =
        meets_both (core? j && cell? c) n m (noted n j c w) (noted (most calls) j c w) (most calls) met (ap (λ x. noted x j c w) (go r)) (go r)

-- any reducer
below : (n m b : Numbers) → n ⊑ m → m ⊑ b → n ⊑ b
below n m b p q = record {
  known_le = λ j i. omega (arith, p.known_le j i, q.known_le j i);
  written_le = λ c k. omega (arith, p.written_le c k, q.written_le c k);
  read_le = λ i c k. omega (arith, p.read_le i c k, q.read_le i c k);
}

cond_le : (b : Bool) (x y u v : ℕ) → x ≤ u → y ≤ v → cond b x y ≤ cond b u v
cond_le true x y u v p q = p
cond_le false x y u v p q = q

stamp_le : (n b : Numbers) → n ⊑ b → (i c : ℕ) (w : AccessKind) (k : ℕ) → stamp n i c w k ≤ stamp b i c w k
stamp_le n b p i c Write k = p.written_le c k
stamp_le n b p i c Read k = p.read_le i c k

taken_grows : (n b : Numbers) → n ⊑ b → (i a c : ℕ) (w : AccessKind) (j : ℕ) → taken n i a c w j ⊑ taken b i a c w j
taken_grows n b p i a c w j = record {
  known_le = λ t k. cond_le (eqb t j) _ _ _ _ (let s = cond_le (eqb k i) a (stamp n i c w k) a (stamp b i c w k) (omega arith) (stamp_le n b p i c w k) in omega (arith, s, p.known_le j k)) (p.known_le t k);
  written_le = p.written_le;
  read_le = p.read_le;
}

cond_row_le : (b : Bool) (x y u v : ℕ → ℕ) → ((k : ℕ) → x k ≤ u k) → ((k : ℕ) → y k ≤ v k) → (k : ℕ) → cond b x y k ≤ cond b u v k
cond_row_le true x y u v p q k = p k
cond_row_le false x y u v p q k = q k

noted_grows : (n b : Numbers) → n ⊑ b → (j c : ℕ) (w : AccessKind) → noted n j c w ⊑ noted b j c w
noted_grows n b p j c Write = record {
  known_le = p.known_le;
  written_le = λ d k. cond_row_le (eqb d c) (n.known j) (n.written d) (b.known j) (b.written d) (p.known_le j) (p.written_le d) k;
  read_le = p.read_le;
}
noted_grows n b p j c Read = record {
  known_le = p.known_le;
  written_le = p.written_le;
  read_le = λ i d k. cond_row_le (eqb i j && eqb d c) (n.known j) (n.read i d) (b.known j) (b.read i d) (p.known_le j) (p.read_le i d) k;
}

bounded_both : (b : Bool) (n m x y z : Numbers) → MatchBool b (m ⊑ x) (m ≡ n) → x ⊑ y → n ⊑ z → m ⊑ cond b y z
bounded_both true n m x y z q p h = below m x y q p
bounded_both false n m x y z q p h = subst (λ u. u ⊑ z) (sym q) h

pub none_knows_more_than_exact : NoneKnowsMoreThanExact
none_knows_more_than_exact calls n r = go r
  where
    go : {calls : List Call} {n : Numbers} → Ran ◌⊑◌ calls n → n ⊑ most calls
    go fresh = record { known_le = λ j i. omega arith; written_le = λ c k. omega arith; read_le = λ i c k. omega arith }
    go (next {calls} {n} {m} r (takes i a c w j) met) =
        bounded_both (core? i && (core? j && cell? c)) n m (taken n i a c w j) (taken (most calls) i a c w j) (most calls) met (taken_grows n (most calls) (go r) i a c w j) (go r)
    go (next {calls} {n} {m} r (notes j c w) met) =
        bounded_both (core? j && cell? c) n m (noted n j c w) (noted (most calls) j c w) (most calls) met (noted_grows n (most calls) (go r) j c w) (go r)
