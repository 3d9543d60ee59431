-- The arcs of an access obey the rules, among themselves and behind those of earlier instructions.
use Rattle.std.proofs.Common.{◌≡◌, ℕ, ◌<◌, ◌≤◌, List, [], ◌∷◌, ◌++◌, Some, None, Option, refl, arith}
use Rattle.std.proofs.lemmas.Bool.{cond_both}
use Rattle.std.specs.List.{AllByRecursion}
use Rattle.accesses.proofs.Order.{Pairwise}
use Rattle.accesses.specs.declared.access.Access.{Access}
use Rattle.accesses.specs.declared.access.Candidate.{Candidate}
use Rattle.logs.specs.Lawful.{Stands, Behind, Lawful}
use Rattle.logs.proofs.Arcs.{all_append}
use Rattle.logs.proofs.Rules.{all_map}
use Rattle.recorder.specs.Judged.{known?, fresh, arcs_to}
use Rattle.recorder.specs.Refusals.{Book}
use Rattle.records.specs.Format.{LogArc}
use Rattle.records.specs.Settings.{heading_of}
use Rattle.records.specs.declared.settings.Heading.{Heading}
use Rattle.reducers.specs.Numbers.{Numbers}
use Rattle.lawful_logs.specs.Orderly.{done_by}
use Rattle.lawful_logs.proofs.Candidates.{Fit, CoresDiffer}

-- the arc from a candidate
abbrev arc_from : Access → Candidate → LogArc
arc_from by x = record { source = x.source.core; count = x.source.count; target = by.count }

-- what holds of the arc from a candidate, if there is one
abbrev To : (LogArc → Type 0) → Access → Option Candidate → Type 0
To Q by None = Unit {0}
To Q by (Some x) = Q (arc_from by x)

fresh_all : (Q : LogArc → Type 0) (by : Access) (n : Numbers) (o : Option Candidate) → To Q by o → AllByRecursion Q (fresh by n o)
fresh_all Q by n None h = tt
fresh_all Q by n (Some x) h = cond_both (known? by.core n x) [] (arc_from by x ∷ []) (AllByRecursion Q) (λ _. tt) (λ _. (h, tt))

arcs_all : (Q : LogArc → Type 0) (by : Access) (n : Numbers) (xs : List (Option Candidate)) (ms : List Numbers) → AllByRecursion (To Q by) xs → AllByRecursion Q (arcs_to by n xs ms)
arcs_all Q by n [] ms h = tt
arcs_all Q by n (x ∷ xs) [] h = tt
arcs_all Q by n (x ∷ xs) (m ∷ ms) h = all_append Q (fresh by n x) (arcs_to by m xs ms) (fresh_all Q by n x h.0) (arcs_all Q by m xs ms h.1)

pub arcs_target : (by : Access) (n : Numbers) (xs : List (Option Candidate)) (ms : List Numbers) → AllByRecursion (λ a. a.target ≡ by.count) (arcs_to by n xs ms)
arcs_target by n xs ms = arcs_all (λ a. a.target ≡ by.count) by n xs ms (each xs)
  where
    one : (o : Option Candidate) → To (λ a. a.target ≡ by.count) by o
    one None = tt
    one (Some x) = refl

    each : (os : List (Option Candidate)) → AllByRecursion (To (λ a. a.target ≡ by.count) by) os
    each [] = tt
    each (o ∷ os) = (one o, each os)

module _ (b : Book) (by : Access) (some : 0 < by.count) where
  abbrev g : Heading
  g = heading_of b.sizes by.core

  abbrev Fits : Option Candidate → Type 0
  Fits = Fit b b.sizes.cores by.core

  stands : (o : Option Candidate) → Fits o → To (Stands g) by o
  stands None f = tt
  stands (Some x) f = record { core = f.0; other = f.1; from = f.2.0; to = some }

  done : (o : Option Candidate) → Fits o → To (λ a. a.count ≤ done_by b a.source) by o
  done None f = tt
  done (Some x) f = f.2.1

  pub arcs_done : (n : Numbers) (xs : List (Option Candidate)) (ms : List Numbers) → AllByRecursion Fits xs → AllByRecursion (λ a. a.count ≤ done_by b a.source) (arcs_to by n xs ms)
  arcs_done n xs ms h = arcs_all (λ a. a.count ≤ done_by b a.source) by n xs ms (all_map Fits (To (λ a. a.count ≤ done_by b a.source) by) xs done h)

  apart_behind : (x : Candidate) (o : Option Candidate) → CoresDiffer (Some x) o → To (Behind (arc_from by x)) by o
  apart_behind x None h = tt
  apart_behind x (Some y) h = record { order = omega arith; once = λ _ e. h e }

  pub arcs_lawful : (n : Numbers) (xs : List (Option Candidate)) (ms : List Numbers) → AllByRecursion Fits xs → Pairwise CoresDiffer xs → Lawful g (arcs_to by n xs ms)
  arcs_lawful n [] ms f d = tt
  arcs_lawful n (x ∷ xs) [] f d = tt
  arcs_lawful n (None ∷ xs) (m ∷ ms) f d = arcs_lawful m xs ms f.1 d.1
  arcs_lawful n (Some x ∷ xs) (m ∷ ms) f d =
      let rest = arcs_to by m xs ms in
      let more = arcs_lawful m xs ms f.1 d.1 in
      let behind = arcs_all (Behind (arc_from by x)) by m xs ms (all_map (CoresDiffer (Some x)) (To (Behind (arc_from by x)) by) xs (apart_behind x) d.0) in
      cond_both (known? by.core n x) [] (arc_from by x ∷ []) (λ front. Lawful g (front ++ rest)) (λ _. more) (λ _. (stands (Some x) f.0, behind, more))

-- later arcs behind earlier ones
pub lawful_append : (g : Heading) (xs ys : List LogArc) (n : ℕ) → Lawful g xs → AllByRecursion (λ a. a.target ≤ n) xs → Lawful g ys → AllByRecursion (λ a. n < a.target) ys → Lawful g (xs ++ ys)
lawful_append g [] ys n l r k s = k
lawful_append g (x ∷ xs) ys n l r k s =
    let behind = all_map (λ a. n < a.target) (Behind x) ys (λ a h. record { order = omega (arith, r.0, h); once = λ e _. omega (arith, r.0, h, e) }) s in
    (l.0, all_append (Behind x) xs ys l.1 behind, lawful_append g xs ys n l.2 r.1 k s)
