-- By the rules a turn is accepted exactly if its answer is no refusal, so the answers say what the plain memory is fed.
use Rattle.std.proofs.Common.{◌≡◌, ℕ, true, cond, not, List, ◌∷◌, eqb, sym, refl, ap, ◌∙◌}
use Rattle.std.proofs.lemmas.Bool.{cond-true, ne_eqb}
use Rattle.cores.proofs.LatestStore.{refused_turns_change_nothing}
use Rattle.cores.specs.Memory.{Rules, Memory, plain, unrefused}
use Rattle.records.specs.declared.settings.Sizes.{Sizes}
use Rattle.reducers.specs.Numbers.{Numbers, Meets}
use Rattle.runs.specs.Recording.{Arc}
use Rattle.recordings.specs.ByTheRules.{ByTheRules, with_refusals, AnswersFeed}
use Rattle.recordings.specs.ByTheRules as rules
use Rattle.recordings.specs.Refused.{turn_refusal}
use Rattle.recordings.specs.Tracks.{logs_of}

module _ (meets : Meets) (K : Rules) (z : Sizes) (m : Memory) where
  accepted_are : (js : List ℕ) (says : List (List ℕ)) (u : List ℕ) (N : Numbers) (L : List Arc) → ByTheRules meets K z m js says u N L → u ≡ unrefused (with_refusals js says)
  accepted_are js says u N L rules.none = refl
  accepted_are js says u N L (rules.refuses {js = ks} {says = past} b j q) =
      let n = turn_refusal K z true (plain K m u) (logs_of j L) j in
      accepted_are ks past u N L b ∙ sym (cond-true (not (eqb n 0)) (unrefused (with_refusals ks past)) (j ∷ unrefused (with_refusals ks past)) (ap not (ne_eqb n 0 q)))
  accepted_are js says u N L (rules.accepts {js = ks} {says = past} {u = t} {N = M} {L = A} b j q l) = ap (λ x. j ∷ x) (accepted_are ks past t M A b)

pub answers_feed : (meets : Meets) → AnswersFeed meets
answers_feed meets K z m js says u N L b =
    let e = accepted_are meets K z m js says u N L b in
    (e, ap (plain K m) e ∙ sym (refused_turns_change_nothing K m (with_refusals js says)))
