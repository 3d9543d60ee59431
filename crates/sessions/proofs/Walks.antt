-- The steps taken so far, with the answers kept of them, are the first of all steps.
use Rattle.std.proofs.Common.{◌≡◌, ℕ, ◌+◌, ◌<◌, List, [], ◌∷◌, ◌++◌, map, length, get_or, drop, Result, sym, ap, ◌∙◌, add-one, drop-cons}
use Rattle.std.proofs.lemmas.List.{map-append, append_assoc}
use Rattle.cores.specs.declared.interface.Request.{Request}
use Rattle.replayer.specs.Answers.{step_numbers}
use Rattle.replayer.specs.Memories.{walked}
use Rattle.replayer.specs.Runs.{Session, session, counted, one, then}
use Rattle.replayer.specs.Steps.{Outcome, stepped}
use Rattle.replayer.specs.declared.answers.Done.{Done}
use Rattle.replayer.specs.declared.answers.StepRefusal.{StepRefusal}
use Rattle.replayer.specs.declared.replay.Replayer.{Replayer}
use Rattle.replays.specs.Replies.{steps_said}

module _ (next : List ℕ → List ℕ → Request) (after : List ℕ → List ℕ → ℕ → List ℕ) (text store : List ℕ) (s : Session) (js : List ℕ) where
  -- i of the steps were taken from s, and said these answers
  pub record GoesOn (i : ℕ) (answers : List (List ℕ)) (R : Replayer) (cells : List ℕ) (states : List (List ℕ)) : Type 0 where
    pub carried : ℕ
    pub ends : walked next after text store s js ≡ walked next after text store (session carried R cells states) (drop i js)
    pub says : steps_said next after text store s js ≡ answers ++ steps_said next after text store (session carried R cells states) (drop i js)

  pub goes_on : (i : ℕ) (answers answers' : List (Result Done StepRefusal)) (r : Result Done StepRefusal) (R R' : Replayer) (cells cells' : List ℕ) (states states' : List (List ℕ)) → i < length js →
      GoesOn i (map step_numbers answers) R cells states →
      ◌≡◌ {A = Outcome} (record { says = step_numbers r; replayer = R'; cells = cells'; states = states' }) (stepped next after text R cells states store (get_or js i 0)) →
      answers' ≡ answers ++ (r ∷ []) → GoesOn (i + 1) (map step_numbers answers') R' cells' states'
  goes_on i answers answers' r R R' cells cells' states states' within f e q =
      let j = get_or js i 0 in
      let here = session f.carried R cells states in
      let c = f.carried + counted (step_numbers r) in
      let rest : drop i js ≡ j ∷ drop (i + 1) js = rw (add-one, drop-cons js i 0) in
      let moved : one next after text store here j ≡ session c R' cells' states' = ap (then here) (sym e) in
      let put : map step_numbers answers' ≡ map step_numbers answers ++ (step_numbers r ∷ []) = ap (map step_numbers) q ∙ map-append step_numbers answers (r ∷ []) in
      record {
        carried = c;
        ends = f.ends ∙ ap (walked next after text store here) rest ∙ ap (λ t. walked next after text store t (drop (i + 1) js)) moved;
        says = f.says
            ∙ ap (λ l. map step_numbers answers ++ steps_said next after text store here l) rest
            ∙ (λ k. map step_numbers answers ++ (sym (ap (λ (o : Outcome). o.says) e) k ∷ steps_said next after text store (moved k) (drop (i + 1) js)))
            ∙ sym (append_assoc (map step_numbers answers) (step_numbers r ∷ []) _)
            ∙ ap (λ a. a ++ steps_said next after text store (session c R' cells' states') (drop (i + 1) js)) (sym put);
      }
