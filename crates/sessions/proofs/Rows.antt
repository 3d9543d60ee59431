-- The turns taken so far, with the answers kept of them, are turns in a row.
use Rattle.std.proofs.Common.{◌≡◌, ℕ, ◌+◌, ◌<◌, List, [], ◌∷◌, ◌++◌, map, reverse, length, get_or, take, Result, sym, ap, ◌∙◌, subst}
use Rattle.std.proofs.lemmas.List.{take_more, reverse-append, map-append}
use Rattle.cores.specs.Memory.{Rules}
use Rattle.recorder.specs.Turns.{World, answered, said, Turned}
use Rattle.recorder.specs.declared.recording.Recorded.{Recorded}
use Rattle.recorder.specs.declared.rules.Refusal.{Refusal}
use Rattle.recordings.specs.ByTheRules.{InARow, none, then}
use Rattle.reducers.specs.Numbers.{Meets}

module _ (meets : Meets) (K : Rules) (w : World) where
  abbrev Row : List ℕ → List (Result Recorded Refusal) → World → Type 0
  Row js answers v = InARow meets K w (reverse js) (reverse (map said answers)) v

  pub row_starts : (answers : List (Result Recorded Refusal)) → answers ≡ [] → Row [] answers w
  row_starts answers e = subst (λ a. Row [] a w) (sym e) none

  pub row_goes : (js : List ℕ) (i : ℕ) (answers answers' : List (Result Recorded Refusal)) (v v' : World) (r : Result Recorded Refusal) → i < length js → Row (take i js) answers v →
      Turned meets K (get_or js i 0) v (answered (said r) v') → length v'.cells ≡ length v.cells → length v'.states ≡ length v.states → length v'.tape.store ≡ length v.tape.store →
      answers' ≡ answers ++ (r ∷ []) → Row (take (i + 1) js) answers' v'
  row_goes js i answers answers' v v' r within row t cells states store e =
      let j = get_or js i 0 in
      let turns : reverse (take (i + 1) js) ≡ j ∷ reverse (take i js) = ap reverse (take_more js i 0 within) ∙ reverse-append (take i js) (j ∷ []) in
      let says : reverse (map said answers') ≡ said r ∷ reverse (map said answers) =
      ap (λ a. reverse (map said a)) e ∙ ap reverse (map-append said answers (r ∷ [])) ∙ reverse-append (map said answers) (said r ∷ []) in
      subst (λ ks. InARow meets K w ks (reverse (map said answers')) v') (sym turns)
      (subst (λ ss. InARow meets K w (j ∷ reverse (take i js)) ss v') (sym says) (then row j (answered (said r) v') t cells states store))
