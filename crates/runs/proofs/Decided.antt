-- Where the numbers are a function of their bounds, a recording is the one that this function gives.
use Rattle.std.proofs.Common.{◌≡◌, leb, List, ◌∷◌, sym, refl, ap, ◌∙◌}
use Rattle.std.proofs.lemmas.Bool.{cond-true, cond-false, le-leb, lt-leb}
use Rattle.reducers.specs.declared.interface.AccessKind.TheVariants.{Read, Write}
use Rattle.reducers.specs.Decided.{Decides}
use Rattle.reducers.specs.Numbers.{Numbers, Meets, zeros, noted}
use Rattle.reducers.specs.Rows.{known_only, KnownOnly}
use Rattle.runs.specs.Candidates.{Candidate, candidates}
use Rattle.runs.specs.Recording.{Arc, arc, Judged, none_left, answers_yes, answers_no, Noted, Recording, begin, turn}
use Rattle.runs.specs.Reducers.{Reducer, by_choice, judge, after_note, recorded}
use Rattle.runs.specs.Runs.{local, read, write, Event, ev, Run, Instr, core_of, next}
use Rattle.runs.specs.Theorems.{ThreeReducersAreDecided}

module _ (meets : Meets) (F : Numbers → Numbers) (decides : Decides meets F) where
  abbrev by : Reducer
  by = by_choice F

  judged_is : {e : Event} {y : Instr} {l : List Candidate} {N N' : Numbers} {L L' : List Arc} → Judged meets e y l N L N' L' → judge by e y l N L ≡ record { numbers = N'; arcs = L' }
  judged_is none_left = refl
  judged_is {e} {y} (answers_yes {x} {l} {N} {N'} {L} {L'} h rest) =
      cond-true (leb x.source.count (N.known (core_of e) x.source.core)) _ _ (le-leb x.source.count (N.known (core_of e) x.source.core) h) ∙ judged_is rest
  judged_is {e} {y} (answers_no {x} {l} {N} {N₁} {N'} {L} {L'} h met rest) =
      cond-false (leb x.source.count (N.known (core_of e) x.source.core)) _ _ (lt-leb x.source.count (N.known (core_of e) x.source.core) h)
      ∙ ap (λ n. judge by e y l n (arc x.source y ∷ L)) (sym (decides N₁ _ met)) ∙ judged_is rest

  noted_is : (e : Event) (N N' : Numbers) → Noted meets e N N' → N' ≡ after_note by e N
  noted_is (ev j local) N N' q = q
  noted_is (ev j (read c)) N N' q = decides N' (noted N j c Read) q
  noted_is (ev j (write c)) N N' q = decides N' (noted N j c Write) q

  recorded_is : {r : Run} {N : Numbers} {L : List Arc} → Recording meets r N L → recorded by r ≡ record { numbers = N; arcs = L }
  recorded_is begin = refl
  recorded_is (turn {e} {h} {N} {N₁} {N₂} {L} {L₁} before judged note) =
      let t : judge by e (next h e) (candidates h e) (recorded by h).numbers (recorded by h).arcs ≡ record { numbers = N₁; arcs = L₁ } =
      ap (λ s. judge by e (next h e) (candidates h e) s.numbers s.arcs) (recorded_is before) ∙ judged_is judged in
      let s : after_note by e (judge by e (next h e) (candidates h e) (recorded by h).numbers (recorded by h).arcs).numbers ≡ N₂ =
      ap (λ u. after_note by e u.numbers) t ∙ sym (noted_is e N₁ N₂ note) in
      λ i. record { numbers = s i; arcs = (t i).arcs }

-- numbers and arcs of a recording, where the bounds leave one choice
pub choice_is_recorded : (meets : Meets) (F : Numbers → Numbers) → Decides meets F → (r : Run) (N : Numbers) (L : List Arc) → Recording meets r N L →
    (N ≡ (recorded (by_choice F) r).numbers) × (L ≡ (recorded (by_choice F) r).arcs)
choice_is_recorded meets F decides r N L rec =
    let q = sym (recorded_is meets F decides rec) in
    (ap (λ s. s.numbers) q, ap (λ s. s.arcs) q)

pub only_known : Decides KnownOnly known_only
only_known n b k = λ i. record {
  known = λ j c. k.known_same j c i;
  written = λ c j. k.no_written c j i;
  read = λ s c j. k.no_read s c j i;
}

pub three_reducers_are_decided : ThreeReducersAreDecided
three_reducers_are_decided = record {
  exact_logs = λ r N L rec. sym (ap (λ s. s.arcs) (recorded_is ◌≡◌ (λ b. b) (λ n b q. q) rec));
  pairwise_logs = λ r N L rec. sym (ap (λ s. s.arcs) (recorded_is KnownOnly known_only only_known rec));
  keep_all_logs = λ r N L rec. sym (ap (λ s. s.arcs) (recorded_is (λ n _. n ≡ zeros) (λ _. zeros) (λ n b q. q) rec));
}
