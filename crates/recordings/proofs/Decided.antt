-- Turns by the rules leave a recording of their run, so a reducer with one choice decides what is accepted and logged.
use Rattle.std.proofs.Common.{◌≡◌, ℕ, ◌-◌, true, cond, eqb, List, [], ◌∷◌, length, sym, refl, ap, ◌∙◌}
use Rattle.std.proofs.lemmas.Bool.{cond-true, cond-false, eq-eqb, ne_eqb}
use Rattle.cores.specs.Memory.{Rules, Memory, plain}
use Rattle.records.specs.declared.settings.Sizes.{Sizes}
use Rattle.reducers.specs.Numbers.{Numbers, Meets}
use Rattle.runs.specs.Recording.{Arc, Recording, begin, turn}
use Rattle.runs.proofs.Decided.{choice_is_recorded}
use Rattle.runs.specs.Reducers.{Reducer, by_choice}
use Rattle.recordings.specs.ByTheRules.{ByTheRules, plainly_said}
use Rattle.recordings.specs.ByTheRules as rules
use Rattle.recordings.specs.Decided.{arcs_by, accepted_by, said_by, DecidesArcs, ArcsDecide, RulesDecide}
use Rattle.recordings.specs.Refused.{turn_refusal}
use Rattle.recordings.specs.Tracks.{run_of, logs_of}

module _ (meets : Meets) (K : Rules) (z : Sizes) (m : Memory) where
  rules_record : (js : List ℕ) (says : List (List ℕ)) (u : List ℕ) (N : Numbers) (L : List Arc) → ByTheRules meets K z m js says u N L → Recording meets (run_of K m u) N L
  rules_record js says u N L rules.none = begin
  rules_record js says u N L (rules.refuses {js = ks} {says = past} b j q) = rules_record ks past u N L b
  rules_record js says u N L (rules.accepts {js = ks} {says = past} {u = t} {N = M} {L = A} b j q l) = turn (rules_record ks past t M A b) l.judged l.noted

  module _ (R : Reducer) (d : DecidesArcs meets R) where
    refuses_as : (js : List ℕ) (u : List ℕ) (L : List Arc) (j : ℕ) → u ≡ accepted_by R K z m js → L ≡ arcs_by R K m u →
        let t = accepted_by R K z m js in
        turn_refusal K z true (plain K m u) (logs_of j L) j ≡ turn_refusal K z true (plain K m t) (logs_of j (arcs_by R K m t)) j
    refuses_as js u L j e a =
        ap (λ l. turn_refusal K z true (plain K m u) (logs_of j l) j) a ∙ ap (λ t. turn_refusal K z true (plain K m t) (logs_of j (arcs_by R K m t)) j) e

    decide : (js : List ℕ) (says : List (List ℕ)) (u : List ℕ) (N : Numbers) (L : List Arc) → ByTheRules meets K z m js says u N L → u ≡ accepted_by R K z m js
    unfolding accepted_by
    decide js says u N L rules.none = refl
    decide js says u N L (rules.refuses {js = ks} {says = past} b j q) =
        let e = decide ks past u N L b in
        let same = refuses_as ks u L j e (d (run_of K m u) N L (rules_record ks past u N L b)) in
        e ∙ sym (cond-false (eqb (turn_refusal K z true _ _ j) 0) _ _ (ne_eqb _ 0 (λ x. q (same ∙ x))))
    decide js says u N L (rules.accepts {js = ks} {says = past} {u = t} {N = M} {L = A} b j q l) =
        let e = decide ks past t M A b in
        let same = refuses_as ks t A j e (d (run_of K m t) M A (rules_record ks past t M A b)) in
        ap (λ x. j ∷ x) e ∙ sym (cond-true (eqb (turn_refusal K z true _ _ j) 0) _ _ (eq-eqb _ 0 (sym same ∙ q)))

    says_are : (js : List ℕ) (says : List (List ℕ)) (u : List ℕ) (N : Numbers) (L : List Arc) → ByTheRules meets K z m js says u N L → says ≡ said_by R K z m js
    unfolding said_by
    says_are js says u N L rules.none = refl
    says_are js says u N L (rules.refuses {js = ks} {says = past} b j q) =
        let e = decide ks past u N L b in
        let same = refuses_as ks u L j e (d (run_of K m u) N L (rules_record ks past u N L b)) in
        let t = accepted_by R K z m ks in
        let v = turn_refusal K z true (plain K m t) (logs_of j (arcs_by R K m t)) j in
        let head : ◌≡◌ {A = List ℕ} (turn_refusal K z true (plain K m u) (logs_of j L) j ∷ []) (cond (eqb v 0) (plainly_said K m t j (length (arcs_by R K m (j ∷ t)) - length (arcs_by R K m t))) (v ∷ [])) =
        ap (λ n. n ∷ []) same ∙ sym (cond-false (eqb v 0) _ _ (ne_eqb v 0 (λ x. q (same ∙ x)))) in
        let rest = says_are ks past u N L b in
        λ i. head i ∷ rest i
    says_are js says u N L (rules.accepts {js = ks} {says = past} {u = t} {N = M} {L = A} b j q l) =
        let e = decide ks past t M A b in
        let part = d (run_of K m t) M A (rules_record ks past t M A b) in
        let same = refuses_as ks t A j e part in
        let t' = accepted_by R K z m ks in
        let v = turn_refusal K z true (plain K m t') (logs_of j (arcs_by R K m t')) j in
        let before : A ≡ arcs_by R K m t' = part ∙ ap (arcs_by R K m) e in
        let behind : L ≡ arcs_by R K m (j ∷ t') = d (run_of K m (j ∷ t)) N L (rules_record js says u N L (rules.accepts b j q l)) ∙ ap (λ x. arcs_by R K m (j ∷ x)) e in
        let head : plainly_said K m t j (length L - length A) ≡ cond (eqb v 0) (plainly_said K m t' j (length (arcs_by R K m (j ∷ t')) - length (arcs_by R K m t'))) (v ∷ []) =
        (λ i. plainly_said K m (e i) j (length (behind i) - length (before i))) ∙ sym (cond-true (eqb v 0) _ _ (eq-eqb v 0 (sym same ∙ q))) in
        let rest = says_are ks past t M A b in
        λ i. head i ∷ rest i

pub arcs_decide : (meets : Meets) → ArcsDecide meets
arcs_decide meets R d K z m js says u N L b =
    (decide meets K z m R d js says u N L b, d (run_of K m u) N L (rules_record meets K z m js says u N L b), says_are meets K z m R d js says u N L b)

pub rules_decide : (meets : Meets) → RulesDecide meets
rules_decide meets F one K z m js says u N L b =
    let d : DecidesArcs meets (by_choice F) = λ r N L rec. (choice_is_recorded meets F one r N L rec).1 in
    let (accepted, arcs, answers) = arcs_decide meets (by_choice F) d K z m js says u N L b in
    (accepted, arcs, answers, (choice_is_recorded meets F one (run_of K m u) N L (rules_record meets K z m js says u N L b)).0)
