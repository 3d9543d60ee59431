-- The arcs of an access go to the end of its core's log, and to no other.
use Rattle.std.proofs.Common.{◌≡◌, ℕ, Bool, true, false, cond, ◌≢◌, List, [], ◌∷◌, ◌++◌, map, Some, None, Option, sym, refl, ap, ◌∙◌}
use native.Mathlib.Decide.{ℕ_discrete}
use Rattle.std.proofs.lemmas.List.{append_assoc, append-nil, map-append}
use Rattle.std.specs.List.{AllByRecursion}
use Rattle.accesses.specs.declared.access.Access.{Access}
use Rattle.accesses.specs.declared.access.Candidate.{Candidate}
use Rattle.records.specs.Format.{LogArc}
use Rattle.recorder.specs.Judged.{known?, arcs_to}
use Rattle.reducers.specs.Numbers.{Numbers}
use Rattle.runs.proofs.WorkingOrder.{choose_yes, choose_no}
use Rattle.runs.specs.Recording.{Arc, arc, log}
use Rattle.runs.specs.Runs.{Instr}
use Rattle.recordings.specs.Tracks.{logged, to_log, logs_of}

abbrev pub To : ℕ → List LogArc → Type 0
To b more = AllByRecursion (λ a. a.target ≡ b) more

to_append : (b : ℕ) (xs ys : List LogArc) → To b xs → To b ys → To b (xs ++ ys)
to_append b [] ys p q = q
to_append b (x ∷ xs) ys p q = (p.0, to_append b xs ys p.1 q)

fresh_to : (by : Access) (x : Candidate) (k : Bool) → To by.count (cond k [] (record { source = x.source.core; count = x.source.count; target = by.count } ∷ []))
fresh_to by x true = tt
fresh_to by x false = (refl, tt)

-- the arcs to an access are to its count
pub arcs_target : (by : Access) (n : Numbers) (xs : List (Option Candidate)) (ms : List Numbers) → To by.count (arcs_to by n xs ms)
arcs_target by n [] ms = tt
arcs_target by n (x ∷ xs) [] = tt
arcs_target by n (None ∷ xs) (m ∷ ms) = arcs_target by m xs ms
arcs_target by n (Some x ∷ xs) (m ∷ ms) = to_append by.count _ (arcs_to by m xs ms) (fresh_to by x (known? by.core n x)) (arcs_target by m xs ms)

one_more : (y : Instr) (a : LogArc) → a.target ≡ y.count → to_log (arc (record { core = a.source; count = a.count }) y) ≡ a
one_more y a q = λ i. record { source = a.source; count = a.count; target = sym q i }

pub own_logged : (y : Instr) (more : List LogArc) (L : List Arc) → To y.count more → logs_of y.core (logged y more L) ≡ logs_of y.core L ++ more
own_logged y [] L h = sym (append-nil (logs_of y.core L))
own_logged y (a ∷ more) L h =
    let x = arc (record { core = a.source; count = a.count }) y in
    own_logged y more (x ∷ L) h.1
    ∙ ap (λ l. map to_log l ++ more) (choose_yes (ℕ_discrete y.core y.core) (log y.core L ++ (x ∷ [])) (log y.core L) refl)
    ∙ ap (λ l. l ++ more) (map-append to_log (log y.core L) (x ∷ []) ∙ ap (λ v. logs_of y.core L ++ (v ∷ [])) (one_more y a h.0))
    ∙ append_assoc (logs_of y.core L) (a ∷ []) more

pub other_logged : (k : ℕ) (y : Instr) (more : List LogArc) (L : List Arc) → k ≢ y.core → logs_of k (logged y more L) ≡ logs_of k L
other_logged k y [] L n = refl
other_logged k y (a ∷ more) L n =
    let x = arc (record { core = a.source; count = a.count }) y in
    other_logged k y more (x ∷ L) n ∙ ap (map to_log) (choose_no (ℕ_discrete y.core k) (log k L ++ (x ∷ [])) (log k L) (λ q. n (sym q)))
