-- The reader's state stands for the arcs read so far, and its test of the next arc decides whether that arc may follow them.
use Rattle.std.proofs.Common.{◌≡◌, ℕ, ◌<◌, ◌≤◌, min, Bool, true, false, not, ◌&&◌, eqb, ltb, leb, ◌⊎◌, List, [], ◌∷◌, ◌++◌, length, get_or, set, replicate, sym, refl, ap, ◌∙◌, inl, inr, arith}
use Rattle.std.specs.List.{AllByRecursion}
use Rattle.std.proofs.lemmas.List.{get_or-set_same, get_or-set_other, get_or-replicate, get_or_past, length-set, length_push, length-replicate}
use Rattle.std.proofs.lemmas.Bool.{and_parts, eqb-true, eqb-false, ltb-true, ltb-false, leb-true, leb-false, not-true, cases_eq, cases_lt}
use Rattle.records.specs.declared.settings.Heading.{Heading}
use Rattle.records.specs.Format.{LogArc}
use Rattle.records.specs.Reading.{arc_stands, one_more, no_targets}
use Rattle.logs.specs.Lawful.{Any, Stands, Behind, Lawful, BadArc, no_such_core, own_core, no_source_count, no_target_count, target_falls, source_twice}

-- all and any, of one arc more
pub all_push : {X : Type 0} (P : X → Type 0) (xs : List X) (a : X) → AllByRecursion P xs → P a → AllByRecursion P (xs ++ (a ∷ []))
all_push P [] a h p = (p, tt)
all_push P (x ∷ xs) a h p = (h.0, all_push P xs a h.1 p)

pub all_map : {X : Type 0} (P Q : X → Type 0) (xs : List X) → ((x : X) → P x → Q x) → AllByRecursion P xs → AllByRecursion Q xs
all_map P Q [] f h = tt
all_map P Q (x ∷ xs) f h = (f x h.0, all_map P Q xs f h.1)

all_both : (P Q R : LogArc → Type 0) (xs : List LogArc) → ((x : LogArc) → P x → Q x → R x) → AllByRecursion P xs → AllByRecursion Q xs → AllByRecursion R xs
all_both P Q R [] f h k = tt
all_both P Q R (x ∷ xs) f h k = (f x h.0 k.0, all_both P Q R xs f h.1 k.1)

any_left : (P : LogArc → Type 0) (xs ys : List LogArc) → Any P xs → Any P (xs ++ ys)
any_left P [] ys h = absurd h
any_left P (x ∷ xs) ys (inl h) = inl h
any_left P (x ∷ xs) ys (inr h) = inr (any_left P xs ys h)

any_push : (P : LogArc → Type 0) (xs : List LogArc) (a : LogArc) → P a → Any P (xs ++ (a ∷ []))
any_push P [] a h = inl h
any_push P (x ∷ xs) a h = inr (any_push P xs a h)

pub any_map : (P Q : LogArc → Type 0) (xs : List LogArc) → ((x : LogArc) → P x → Q x) → Any P xs → Any Q xs
any_map P Q [] f h = h
any_map P Q (x ∷ xs) f (inl h) = inl (f x h)
any_map P Q (x ∷ xs) f (inr h) = inr (any_map P Q xs f h)

pub never_both : (P Q : LogArc → Type 0) (xs : List LogArc) → ((x : LogArc) → P x → Q x → ⊥) → AllByRecursion P xs → Any Q xs → ⊥
never_both P Q [] f h k = k
never_both P Q (x ∷ xs) f h (inl k) = f x h.0 k
never_both P Q (x ∷ xs) f h (inr k) = never_both P Q xs f h.1 k

-- an arc more that may follow
pub lawful_push : (g : Heading) (xs : List LogArc) (a : LogArc) → Lawful g xs → Stands g a → AllByRecursion (λ b. Behind b a) xs → Lawful g (xs ++ (a ∷ []))
lawful_push g [] a l s h = (s, tt, tt)
lawful_push g (x ∷ xs) a l s h = (l.0, all_push (Behind x) xs a l.1 h.0, lawful_push g xs a l.2 s h.1)

-- what lawful arcs say of the one behind a front
pub lawful_at : (g : Heading) (xs : List LogArc) (a : LogArc) (more : List LogArc) → Lawful g (xs ++ (a ∷ more)) → Stands g a × AllByRecursion (λ b. Behind b a) xs
lawful_at g [] a more l = (l.0, tt)
lawful_at g (x ∷ xs) a more l = let h = lawful_at g xs a more l.2 in (h.0, (first xs l.1, h.1))
  where
    first : (ys : List LogArc) → AllByRecursion (Behind x) (ys ++ (a ∷ more)) → Behind x a
    first [] h = h.0
    first (y ∷ ys) h = first ys h.1

-- the state for the arcs xs: the last target, each source core's latest target, and how many
pub record Knows (xs : List LogArc) (last : ℕ) (latest : List ℕ) (m : ℕ) : Type 0 where
  pub four : length latest ≡ 4
  pub number : m ≡ min (length xs) 65536
  pub last_is : (last ≡ 0) ⊎ Any (λ b. b.target ≡ last) xs
  pub below : AllByRecursion (λ b. b.target ≤ last) xs
  latest_is : (i : ℕ) → (get_or latest i 0 ≡ 0) ⊎ Any (λ b. (b.target ≡ get_or latest i 0) × (b.source ≡ i)) xs
  latest_top : AllByRecursion (λ b. b.target ≡ last → get_or latest b.source 0 ≡ last) xs

-- a row of one value holds it everywhere, also behind its end
pub all_alike : {X : Type 0} (n k : ℕ) (d : X) → get_or (replicate n d) k d ≡ d
all_alike n k d = elim (cases_lt k n) [ inl h ↦ get_or-replicate n k d d h | inr h ↦ get_or_past (replicate n d) k d (omega (arith, length-replicate n d)) ]

pub knows_none : Knows [] 0 no_targets 0
knows_none = record { four = refl; number = refl; last_is = inl refl; below = tt; latest_is = λ i. inl (all_alike 4 i 0); latest_top = tt }

module _ (xs : List LogArc) (last : ℕ) (latest : List ℕ) (m : ℕ) (k : Knows xs last latest m) (a : LogArc) where
  pub knows_push : a.source < 4 → last ≤ a.target → Knows (xs ++ (a ∷ [])) a.target (set latest a.source a.target) (one_more m)
  knows_push inside up = record {
    four = length-set latest a.source a.target ∙ k.four;
    number = omega (arith, k.number, length_push xs a);
    last_is = inr (any_push (λ b. b.target ≡ a.target) xs a refl);
    below = all_push (λ b. b.target ≤ a.target) xs a (all_map (λ b. b.target ≤ last) (λ b. b.target ≤ a.target) xs (λ b h. omega arith) k.below) (omega arith);
    latest_is = λ i. elim (cases_eq i a.source) [
      | inl q ↦ inr (any_push (λ b. (b.target ≡ get_or (set latest a.source a.target) i 0) × (b.source ≡ i)) xs a (sym (ap (λ j. get_or (set latest a.source a.target) j 0) q ∙ here), sym q))
      | inr q ↦ elim (k.latest_is i) [
        | inl none ↦ inl (there i q ∙ none)
        | inr some ↦ inr (any_left (λ b. (b.target ≡ get_or (set latest a.source a.target) i 0) × (b.source ≡ i)) xs (a ∷ [])
            (any_map (λ b. (b.target ≡ get_or latest i 0) × (b.source ≡ i)) (λ b. (b.target ≡ get_or (set latest a.source a.target) i 0) × (b.source ≡ i)) xs (λ b h. (h.0 ∙ sym (there i q), h.1)) some))
      ]
    ];
    latest_top = all_push (λ b. b.target ≡ a.target → get_or (set latest a.source a.target) b.source 0 ≡ a.target) xs a
        (all_both (λ b. b.target ≤ last) (λ b. b.target ≡ last → get_or latest b.source 0 ≡ last) (λ b. b.target ≡ a.target → get_or (set latest a.source a.target) b.source 0 ≡ a.target) xs top k.below k.latest_top)
        (λ _. here);
  }
    where
      here : get_or (set latest a.source a.target) a.source 0 ≡ a.target
      here = get_or-set_same latest a.source a.target 0 (omega (arith, k.four))

      there : (i : ℕ) → (i ≡ a.source → ⊥) → get_or (set latest a.source a.target) i 0 ≡ get_or latest i 0
      there i q = get_or-set_other latest a.source i a.target 0 q

      top : (b : LogArc) → b.target ≤ last → (b.target ≡ last → get_or latest b.source 0 ≡ last) → b.target ≡ a.target → get_or (set latest a.source a.target) b.source 0 ≡ a.target
      top b low old q = elim (cases_eq b.source a.source) [
        | inl same ↦ ap (λ j. get_or (set latest a.source a.target) j 0) same ∙ here
        | inr other ↦ there b.source other ∙ old (omega arith) ∙ omega arith
      ]

  -- the test passes: the arc may follow
  pub stands_follows : (g : Heading) → arc_stands g last latest a.source a.count a.target ≡ true → Stands g a × (last ≤ a.target) × AllByRecursion (λ b. Behind b a) xs
  stands_follows g e =
      let p₁ = and_parts (ltb a.source g.cores) _ e in
      let p₂ = and_parts (not (eqb a.source g.core)) _ p₁.1 in
      let p₃ = and_parts (ltb 0 a.count) _ p₂.1 in
      let p₄ = and_parts (ltb 0 a.target) _ p₃.1 in
      let p₅ = and_parts (leb last a.target) _ p₄.1 in
      let up = leb-true last a.target p₅.0 in
      let once = eqb-false (get_or latest a.source 0) a.target (not-true _ p₅.1) in (
        record {
          core = ltb-true a.source g.cores p₁.0;
          other = eqb-false a.source g.core (not-true _ p₂.0);
          from = ltb-true 0 a.count p₃.0;
          to = ltb-true 0 a.target p₄.0;
        },
        up,
        all_both (λ b. b.target ≤ last) (λ b. b.target ≡ last → get_or latest b.source 0 ≡ last) (λ b. Behind b a) xs (behind up once) k.below k.latest_top,
      )
    where
      behind : last ≤ a.target → (get_or latest a.source 0 ≡ a.target → ⊥) → (b : LogArc) → b.target ≤ last → (b.target ≡ last → get_or latest b.source 0 ≡ last) → Behind b a
      behind up once b low top = record {
        order = omega arith;
        once = λ t s. once (ap (λ j. get_or latest j 0) (sym s) ∙ top (omega arith) ∙ omega arith);
      }

  -- the test fails: the arc breaks a rule
  pub fails_breaks : (g : Heading) → arc_stands g last latest a.source a.count a.target ≡ false → BadArc g xs a
  fails_breaks g e =
      by_tests (ltb a.source g.cores) refl (eqb a.source g.core) refl (ltb 0 a.count) refl (ltb 0 a.target) refl (leb last a.target) refl (eqb (get_or latest a.source 0) a.target) refl e
    where
      falls : a.target < last → BadArc g xs a
      falls h = elim k.last_is [
        | inl none ↦ absurd (omega arith)
        | inr some ↦ target_falls (any_map (λ b. b.target ≡ last) (λ b. a.target < b.target) xs (λ b q. omega arith) some)
      ]

      twice : 0 < a.target → get_or latest a.source 0 ≡ a.target → BadArc g xs a
      twice h q = elim (k.latest_is a.source) [
        | inl none ↦ absurd (omega arith)
        | inr some ↦ source_twice (any_map (λ b. (b.target ≡ get_or latest a.source 0) × (b.source ≡ a.source)) (λ b. (b.target ≡ a.target) × (b.source ≡ a.source)) xs (λ b h. (h.0 ∙ q, h.1)) some)
      ]

      by_tests : (b₁ : Bool) → ltb a.source g.cores ≡ b₁ → (b₂ : Bool) → eqb a.source g.core ≡ b₂ → (b₃ : Bool) → ltb 0 a.count ≡ b₃ → (b₄ : Bool) → ltb 0 a.target ≡ b₄ →
          (b₅ : Bool) → leb last a.target ≡ b₅ → (b₆ : Bool) → eqb (get_or latest a.source 0) a.target ≡ b₆ →
          (b₁ && (not b₂ && (b₃ && (b₄ && (b₅ && not b₆))))) ≡ false → BadArc g xs a
      by_tests false q₁ b₂ q₂ b₃ q₃ b₄ q₄ b₅ q₅ b₆ q₆ h = no_such_core (ltb-false a.source g.cores q₁)
      by_tests true q₁ true q₂ b₃ q₃ b₄ q₄ b₅ q₅ b₆ q₆ h = own_core (eqb-true a.source g.core q₂)
      by_tests true q₁ false q₂ false q₃ b₄ q₄ b₅ q₅ b₆ q₆ h = no_source_count (let z = ltb-false 0 a.count q₃ in omega arith)
      by_tests true q₁ false q₂ true q₃ false q₄ b₅ q₅ b₆ q₆ h = no_target_count (let z = ltb-false 0 a.target q₄ in omega arith)
      by_tests true q₁ false q₂ true q₃ true q₄ false q₅ b₆ q₆ h = falls (let z = leb-false last a.target q₅ in omega arith)
      by_tests true q₁ false q₂ true q₃ true q₄ true q₅ true q₆ h = twice (ltb-true 0 a.target q₄) (eqb-true (get_or latest a.source 0) a.target q₆)
      by_tests true q₁ false q₂ true q₃ true q₄ true q₅ false q₆ h = absurd cc
