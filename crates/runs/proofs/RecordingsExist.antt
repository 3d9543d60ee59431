-- Reducers that are functions of their numbers make recordings.
use Rattle.std.proofs.Common.{◌≡◌, Bool, true, false, cond, leb, List, [], ◌∷◌, sym, refl, subst, arith}
use Rattle.std.proofs.lemmas.Bool.{leb-true, leb-false}
use Rattle.reducers.specs.declared.interface.AccessKind.TheVariants.{Read, Write}
use Rattle.reducers.specs.Numbers.{Numbers, Meets, zeros, ◌⊑◌}
use Rattle.runs.specs.Runs.{local, read, write, Event, ev, Run, Instr, core_of, access_of, next}
use Rattle.runs.specs.Candidates.{Candidate, candidates}
use Rattle.runs.specs.Recording.{Arc, arc, place_of, Judged, none_left, answers_yes, answers_no, Noted, Recording, begin, turn}
use Rattle.reducers.specs.Rows.{known_only}
use Rattle.runs.specs.Reducers.{Reducer, Keeps, Recorded, judge, after_note, recorded}
use Rattle.runs.specs.Theorems.{RecordingsExist, ThreeReducersAreBounded}

split : (b : Bool) (P : Bool → Type 0) → (b ≡ true → P true) → (b ≡ false → P false) → P b
split true P f g = f refl
split false P f g = g refl

module _ (meets : Meets) (R : Reducer) (k : Keeps meets R) where
  judged : (e : Event) (y : Instr) (l : List Candidate) (N : Numbers) (L : List Arc) →
      Judged meets e y l N L (judge R e y l N L).numbers (judge R e y l N L).arcs
  judged e y [] N L = none_left
  judged e y (x ∷ l) N L =
      let N₁ : Numbers = R.take N x.source.core x.source.count (place_of (access_of e)) x.kind (core_of e) in
      let no : Recorded = judge R e y l N₁ (arc x.source y ∷ L) in
      split (leb x.source.count (N.known (core_of e) x.source.core))
      (λ t. Judged meets e y (x ∷ l) N L (cond t (judge R e y l N L) no).numbers (cond t (judge R e y l N L) no).arcs)
      (λ q. answers_yes (leb-true _ _ q) (judged e y l N L))
      (λ q. answers_no (leb-false _ _ q) (k.takes N x.source.core x.source.count (place_of (access_of e)) x.kind (core_of e))
      (judged e y l N₁ (arc x.source y ∷ L)))

  noting : (e : Event) (N : Numbers) → Noted meets e N (after_note R e N)
  noting (ev j local) N = refl
  noting (ev j (read c)) N = k.notes N j c Read
  noting (ev j (write c)) N = k.notes N j c Write

  pub records : (r : Run) → Recording meets r (recorded R r).numbers (recorded R r).arcs
  records [] = begin
  records (e ∷ h) =
      turn (records h) (judged e (next h e) (candidates h e) (recorded R h).numbers (recorded R h).arcs)
      (noting e (judge R e (next h e) (candidates h e) (recorded R h).numbers (recorded R h).arcs).numbers)

pub recordings_exist : RecordingsExist ◌⊑◌ × RecordingsExist ◌≡◌
recordings_exist = (records ◌⊑◌, records ◌≡◌)

-- a recording whose numbers meet their bounds in one way is one in any way that this implies
module _ (meets meets' : Meets) (implies : (n b : Numbers) → meets n b → meets' n b) where
  judged_weakened : {e : Event} {y : Instr} {l : List Candidate} {N N' : Numbers} {L L' : List Arc} → Judged meets e y l N L N' L' → Judged meets' e y l N L N' L'
  judged_weakened none_left = none_left
  judged_weakened (answers_yes p rest) = answers_yes p (judged_weakened rest)
  judged_weakened (answers_no p b rest) = answers_no p (implies _ _ b) (judged_weakened rest)

  noted_weakened : (e : Event) (N M : Numbers) → Noted meets e N M → Noted meets' e N M
  noted_weakened (ev j local) N M n = n
  noted_weakened (ev j (read c)) N M n = implies _ _ n
  noted_weakened (ev j (write c)) N M n = implies _ _ n

  pub weakened : {r : Run} {N : Numbers} {L : List Arc} → Recording meets r N L → Recording meets' r N L
  weakened begin = begin
  weakened (turn {e = e} {N₁ = N₁} {N₂ = N₂} r jd n) = turn (weakened r) (judged_weakened jd) (noted_weakened e N₁ N₂ n)

⊑_same : (n : Numbers) → n ⊑ n
⊑_same n = record { known_le = λ j i. omega arith; written_le = λ c k. omega arith; read_le = λ i c k. omega arith }

zeros_⊑ : (n : Numbers) → zeros ⊑ n
zeros_⊑ n = record { known_le = λ j i. omega arith; written_le = λ c k. omega arith; read_le = λ i c k. omega arith }

known_only_⊑ : (n : Numbers) → known_only n ⊑ n
known_only_⊑ n = record { known_le = λ j i. omega arith; written_le = λ c k. omega arith; read_le = λ i c k. omega arith }

pub three_reducers_are_bounded : ThreeReducersAreBounded
three_reducers_are_bounded = record {
  exact_keeps = record { takes = λ n i a c w j. refl; notes = λ n j c w. refl };
  pairwise_keeps = record { takes = λ n i a c w j. refl; notes = λ n j c w. refl };
  keep_all_keeps = record { takes = λ n i a c w j. refl; notes = λ n j c w. refl };
  exact_bounded = λ n b p. subst (λ m. m ⊑ b) (sym p) (⊑_same b);
  pairwise_bounded = λ n b p. subst (λ m. m ⊑ b) (sym p) (known_only_⊑ b);
  keep_all_bounded = λ n b p. subst (λ m. m ⊑ b) (sym p) (zeros_⊑ b);
}
