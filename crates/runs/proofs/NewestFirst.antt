-- The candidates of a turn are those of each core, the latest position first.
use Rattle.std.proofs.Common.{◌≡◌, ℕ, suc, ◌<◌, ◌≤◌, ◌≢◌, ◌⊎◌, ◌↔◌, [], ◌∷◌, sym, refl, ap, ◌∙◌, subst, inl, inr, arith}
use mathlib.Core.Option.{Option, none, some}
use native.Mathlib.Decide.{ℕ_discrete, dec_le, dec_lt}
use Rattle.runs.specs.Candidates.{Candidate, candidate, candidates, keep, pick}
use Rattle.runs.specs.Positions.{Falls, Newest, gather, position}
use Rattle.runs.specs.Recording.{In}
use Rattle.runs.specs.Runs.{Event, Instr, Run, choose, core_of, done, next, turns}
use Rattle.runs.specs.Theorems.{NewestFirst, CandidatesByCores}
use Rattle.runs.proofs.WorkingOrder.{choose_yes, Inside, in_up, same, done_own, done_other}
use Rattle.runs.proofs.CandidatesCover.{Sound, cases, Met, cand_met}
use Rattle.runs.proofs.CandidateLists.{pick_sound, pick_full, kept_source}
use Rattle.runs.proofs.FallingLists.{unique, gather_to, gather_from, gather_falls}

-- a remembered position stays what it was
pub position_new : (e : Event) (h : Run) (x : Instr) → x ≡ next h e → position (e ∷ h) x ≡ suc (turns h)
position_new e h x q =
    choose_yes (ℕ_discrete (core_of e) x.core) _ _ (sym (ap (λ z. z.core) q)) ∙
    choose_yes (ℕ_discrete x.count (suc (done h x.core))) _ _
    (ap (λ z. z.count) q ∙ ap (λ k. suc (done h k)) (sym (ap (λ z. z.core) q)))

pub position_old : (e : Event) (h : Run) (x : Instr) → Inside h x → position (e ∷ h) x ≡ position h x
position_old e h x i = go (ℕ_discrete (core_of e) x.core) (ℕ_discrete x.count (suc (done h x.core)))
  where
    go : {A : Type 0} (d : Dec A) (c : Dec (x.count ≡ suc (done h x.core))) →
        choose d (choose c (suc (turns h)) (position h x)) (position h x) ≡ position h x
    go (yes _) (yes q) = absurd (omega arith)
    go (yes _) (no q) = refl
    go (no _) c = refl

position_le : (h : Run) (x : Instr) → position h x ≤ turns h
position_le [] x = omega arith
position_le (e ∷ h) x = go (position_le h x) (ℕ_discrete (core_of e) x.core) (ℕ_discrete x.count (suc (done h x.core)))
  where
    go : {A B : Type 0} → position h x ≤ turns h → (d : Dec A) (c : Dec B) → choose d (choose c (suc (turns h)) (position h x)) (position h x) ≤ suc (turns h)
    go r (yes _) (yes _) = omega arith
    go r (yes _) (no _) = omega arith
    go r (no _) c = omega arith

in_cases : (e : Event) (h : Run) (x : Instr) → Inside (e ∷ h) x → (x ≡ next h e) ⊎ Inside h x
in_cases e h x i = go (ℕ_discrete (core_of e) x.core) (dec_le x.count (done h x.core))
  where
    go : Dec (core_of e ≡ x.core) → Dec (x.count ≤ done h x.core) → (x ≡ next h e) ⊎ Inside h x
    go d (yes l) = inr l
    go (yes q) (no l) = inl (same x (next h e) (sym q) (rw q (omega (arith, done_own e h x.core q))))
    go (no q) (no l) = absurd (omega (arith, done_other e h x.core q))

pub position_inj : (h : Run) (x z : Instr) → 1 ≤ x.count → 1 ≤ z.count → Inside h x → Inside h z → position h x ≡ position h z → x ≡ z
position_inj [] x z m n i k p = absurd (omega arith)
position_inj (e ∷ h) x z m n i k p = go (λ a b q. position_inj h x z m n a b q) (in_cases e h x i) (in_cases e h z k)
  where
    go : (Inside h x → Inside h z → position h x ≡ position h z → x ≡ z) → (x ≡ next h e) ⊎ Inside h x → (z ≡ next h e) ⊎ Inside h z → x ≡ z
    go r (inl a) (inl b) = a ∙ sym b
    go r (inl a) (inr b) = absurd (omega (arith, position_new e h x a, position_old e h z b, position_le h z))
    go r (inr a) (inl b) = absurd (omega (arith, position_new e h z b, position_old e h x a, position_le h x))
    go r (inr a) (inr b) = r a b (sym (position_old e h x a) ∙ p ∙ position_old e h z b)

-- the list falls

abbrev Agree : Run → Run → Type 0
Agree t h = (x : Instr) → Inside t x → position h x ≡ position t x

agree_tail : (f : Event) (t h : Run) → Agree (f ∷ t) h → Agree t h
agree_tail f t h a x i = a x (in_up f t x i) ∙ position_old f t x i

keep_falls : (h : Run) (e f : Event) (t : Run) (o : Option Candidate) → candidate h e (core_of f) ≡ o → Agree (f ∷ t) h →
    Falls (λ y. position h y.source) (pick h e t) → Falls (λ y. position h y.source) (keep o (suc (done t (core_of f))) (pick h e t))
keep_falls h e f t none o u s = s
keep_falls h e f t (some y) o u s = go (ℕ_discrete y.source.count (suc (done t (core_of f))))
  where
    go : (d : Dec (y.source.count ≡ suc (done t (core_of f)))) →
        Falls (λ y. position h y.source) (choose d (y ∷ pick h e t) (pick h e t))
    go (no q) = s
    go (yes q) = (first, s)
      where
        at : y.source ≡ next t f
        at = kept_source h e f t y o q

        inside : Inside (f ∷ t) y.source
        inside = subst (λ x. Inside (f ∷ t) x) (sym at) (omega (arith, done_own f t (core_of f) refl))

        first : (z : Candidate) → In z (pick h e t) → position h z.source < position h y.source
        first z m =
            let i : Inside t z.source = (pick_sound h e t z m).inside in
            omega (arith, u y.source inside, position_new f t y.source at, agree_tail f t h u z.source i, position_le t z.source)

pick_falls : (h : Run) (e : Event) (t : Run) → Agree t h → Falls (λ y. position h y.source) (pick h e t)
pick_falls h e [] a = tt
pick_falls h e (f ∷ t) a = keep_falls h e f t (candidate h e (core_of f)) refl a (pick_falls h e t (agree_tail f t h a))

pub given_met : (h : Run) (e : Event) (k : ℕ) (y : Candidate) → candidate h e k ≡ some y → Met h e y.source
given_met h e k y p =
    let s : Sound h e k y = cases h e k y p in
    cand_met h e y (λ q. s.other (sym s.core ∙ q)) s.is

candidates_newest : (h : Run) (e : Event) → Newest h e (candidates h e)
candidates_newest h e = record {
  members = λ y. ((λ m. (pick_sound h e h y m).given), (λ p. pick_full h e h y p (given_met h e _ y p).some (given_met h e _ y p).inside));
  falls = pick_falls h e h (λ x i. refl);
}

pub newest_first : NewestFirst
newest_first h e l = ((λ p. subst (λ m. Newest h e m) (sym p) (candidates_newest h e)), from)
  where
    from : Newest h e l → l ≡ candidates h e
    from n =
        let c : Newest h e (candidates h e) = candidates_newest h e in
        unique (λ y. position h y.source) l (candidates h e) n.falls c.falls
        (λ x m. (c.members x).1 ((n.members x).0 m)) (λ x m. (n.members x).1 ((c.members x).0 m))

pub candidates_by_cores : CandidatesByCores
candidates_by_cores h e n bound = (newest_first h e (gather (λ y. position h y.source) (candidate h e) n)).1 (record { members = members; falls = falls })
  where
    to : (y : Candidate) → In y (gather (λ y. position h y.source) (candidate h e) n) → candidate h e y.source.core ≡ some y
    to y m =
        let r : (k : ℕ) × (k < n) × (candidate h e k ≡ some y) = gather_to (λ y. position h y.source) (candidate h e) n y m in
        ap (candidate h e) (cases h e r.0 y r.2).core ∙ r.2

    from : (y : Candidate) → candidate h e y.source.core ≡ some y → In y (gather (λ y. position h y.source) (candidate h e) n)
    from y p = go (dec_lt y.source.core n)
      where
        go : Dec (y.source.core < n) → In y (gather (λ y. position h y.source) (candidate h e) n)
        go (yes l) = gather_from (λ y. position h y.source) (candidate h e) n y y.source.core l p
        go (no l) = absurd (omega (arith, bound y.source.core (omega arith), (given_met h e _ y p).some, (given_met h e _ y p).inside))

    members : (y : Candidate) → In y (gather (λ y. position h y.source) (candidate h e) n) ↔ (candidate h e y.source.core ≡ some y)
    members y = (to y, from y)

    falls : Falls (λ y. position h y.source) (gather (λ y. position h y.source) (candidate h e) n)
    falls = gather_falls (λ y. position h y.source) (candidate h e) n apart
      where
        apart : (k l : ℕ) (y z : Candidate) → k ≢ l → candidate h e k ≡ some y → candidate h e l ≡ some z →
            position h y.source ≢ position h z.source
        apart k l y z n p q r =
            let s : y.source ≡ z.source = position_inj h y.source z.source (given_met h e k y p).some (given_met h e l z q).some
            (given_met h e k y p).inside (given_met h e l z q).inside r in
            n (sym (cases h e k y p).core ∙ ap (λ x. x.core) s ∙ (cases h e l z q).core)
