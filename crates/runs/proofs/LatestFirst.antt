-- In a log the arcs to one target come from the latest position first.
use Rattle.std.proofs.Common.{◌≡◌, ℕ, ◌<◌, ◌⊎◌, List, [], ◌∷◌, ◌++◌, sym, refl, ap, ◌∙◌, subst, inl, inr, arith}
use native.Mathlib.Decide.{ℕ_discrete}
use Rattle.reducers.specs.Numbers.{Numbers, Meets}
use Rattle.runs.specs.Runs.{Event, Run, Instr, choose, next}
use Rattle.runs.specs.Candidates.{Candidate, candidates}
use Rattle.runs.specs.Recording.{Arc, arc, In, Judged, none_left, answers_yes, answers_no, Recording, begin, turn, log}
use Rattle.runs.specs.Positions.{Falls, position}
use Rattle.runs.specs.Logged.{LatestFirst, TargetsAreLatestFirst}
use Rattle.runs.proofs.WorkingOrder.{Inside, in_up, in_next, new}
use Rattle.runs.proofs.CandidateLists.{listed_met}
use Rattle.runs.proofs.NewestFirst.{newest_first, position_old}
use Rattle.runs.proofs.BoundedWalk.{new_arc}
use Rattle.runs.proofs.LawfulLogs.{in_last, log_from}

-- Of the arcs to one target the newest has the smallest key.
abbrev Rises : (Instr → ℕ) → List Arc → Type 0
Rises key [] = Unit {0}
Rises key (a ∷ L) = ((b : Arc) → In b L → a.target ≡ b.target → key a.source < key b.source) × Rises key L

rises_as : (f g : Instr → ℕ) (L : List Arc) → ((a : Arc) → In a L → g a.source ≡ f a.source) → Rises f L → Rises g L
rises_as f g [] same r = tt
rises_as f g (a ∷ L) same r = ((λ b i q. omega (arith, same a (inl refl), same b (inr i), r.0 b i q)), rises_as f g L (λ b i. same b (inr i)) r.1)

abbrev Within : Run → List Arc → Type 0
Within r L = (a : Arc) → In a L → Inside r a.source × Inside r a.target

module _ (meets : Meets) where
  judged_rises : (key : Instr → ℕ) {e : Event} {y : Instr} {l : List Candidate} {N N' : Numbers} {L L' : List Arc} →
      Judged meets e y l N L N' L' → Falls (λ x. key x.source) l →
      ((b : Arc) → In b L → y ≡ b.target → (x : Candidate) → In x l → key x.source < key b.source) → Rises key L → Rises key L'
  judged_rises key none_left f above r = r
  judged_rises key (answers_yes p rest) f above r = judged_rises key rest f.1 (λ b i q x m. above b i q x (inr m)) r
  judged_rises key {e} {y} (answers_no {x = x} {l = l} p met rest) f above r =
      judged_rises key rest f.1
      (λ b. elim [
        | inl q ↦ λ t z m. omega (arith, f.0 z m, ap (λ (a : Arc). key a.source) q)
        | inr i ↦ λ t z m. above b i t z (inr m)
      ])
      ((λ b i t. above b i t x (inl refl)), r)

  judged_sources : (h : Run) {e : Event} {N N₁ : Numbers} {L L₁ : List Arc} → Judged meets e (next h e) (candidates h e) N L N₁ L₁ → Within h L →
      (a : Arc) → In a L₁ → Inside h a.source × Inside (e ∷ h) a.target
  judged_sources h {e} {L = L} jd w a i = go (new_arc jd a i)
    where
      go : In a L ⊎ ((x : Candidate) × In x (candidates h e) × (a ≡ arc x.source (next h e))) → Inside h a.source × Inside (e ∷ h) a.target
      go (inl k) = ((w a k).0, in_up e h a.target (w a k).1)
      go (inr (x, k, q)) = (
        subst (λ (b : Arc). Inside h b.source) (sym q) (listed_met h e x k).inside,
        in_next e h a.target (ap (λ (b : Arc). b.target) q),
      )

  kept_turn : (h : Run) {e : Event} {N N₁ : Numbers} {L L₁ : List Arc} → Judged meets e (next h e) (candidates h e) N L N₁ L₁ →
      Within h L × Rises (position h) L → Within (e ∷ h) L₁ × Rises (position (e ∷ h)) L₁
  kept_turn h {e} {L₁ = L₁} jd old = (
    (λ a i. (in_up e h a.source (inside a i).0, (inside a i).1)),
    rises_as (position h) (position (e ∷ h)) L₁ (λ a i. position_old e h a.source (inside a i).0) rises,
  )
    where
      inside : (a : Arc) → In a L₁ → Inside h a.source × Inside (e ∷ h) a.target
      inside = judged_sources h jd old.0

      rises : Rises (position h) L₁
      rises = judged_rises (position h) jd ((newest_first h e (candidates h e)).0 refl).falls
          (λ b i q. absurd (new e h b.target (sym q) (old.0 b i).1)) old.1

  kept : {r : Run} {N : Numbers} {L : List Arc} → Recording meets r N L → Within r L × Rises (position r) L
  kept begin = ((λ a i. absurd i), tt)
  kept (turn {h = h} before jd note) = kept_turn h jd (kept before)

first_last : (r : Run) (a : Arc) (l : List Arc) → LatestFirst r l →
    ((b : Arc) → In b l → a.target ≡ b.target → position r a.source < position r b.source) → LatestFirst r (l ++ (a ∷ []))
first_last r a [] f above = ((λ b i. absurd i), tt)
first_last r a (c ∷ l) f above = (first, first_last r a l f.1 (λ b i. above b (inr i)))
  where
    go : (b : Arc) → In b l ⊎ (b ≡ a) → c.target ≡ b.target → position r b.source < position r c.source
    go b (inl k) q = f.0 b k q
    go b (inr p) q = omega (arith, above c (inl refl) (sym (q ∙ ap (λ (d : Arc). d.target) p)), ap (λ (d : Arc). position r d.source) p)

    first : (b : Arc) → In b (l ++ (a ∷ [])) → c.target ≡ b.target → position r b.source < position r c.source
    first b i q = go b (in_last a b l i) q

first_logged : (r : Run) (k : ℕ) (L : List Arc) → Rises (position r) L → LatestFirst r (log k L)
first_logged r k [] s = tt
first_logged r k (a ∷ L) s = go (ℕ_discrete a.target.core k) (first_logged r k L s.1)
  where
    go : (d : Dec (a.target.core ≡ k)) → LatestFirst r (log k L) → LatestFirst r (choose d (log k L ++ (a ∷ [])) (log k L))
    go (yes q) f = first_last r a (log k L) f (λ b i t. s.0 b (log_from k L b i).0 t)
    go (no q) f = f

pub targets_are_latest_first : (meets : Meets) → TargetsAreLatestFirst meets
targets_are_latest_first meets r N L rec k = first_logged r k L (kept meets rec).1
