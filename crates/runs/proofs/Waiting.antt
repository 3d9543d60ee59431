-- A core waits exactly while the source of an arc to its next instruction is not done, so its own log is enough to tell.
use Rattle.std.proofs.Common.{◌≡◌, ℕ, suc, ◌≤◌, Bool, true, false, cond, ◌&&◌, ◌↔◌, List, [], ◌∷◌, get_or, sym, refl, ap}
use mathlib.Core.Option.{none, some, none-ne-some}
use Rattle.std.proofs.lemmas.Bool.{both_ways}
use Rattle.runs.specs.Runs.{Instr}
use Rattle.runs.specs.Recording.{Arc, In, log}
use Rattle.runs.specs.Replay.{lets, free, waiting}
use Rattle.runs.specs.Theorems.{WaitsForSources, OwnLogIsEnough}
use Rattle.runs.proofs.WorkingOrder.{same}
use Rattle.runs.proofs.LawfulLogs.{in_log}
use Rattle.runs.proofs.ReplaySteps.{Passed, free_gives, free_from}

abbrev upcoming : List ℕ → ℕ → Instr
upcoming d j = record { core = j; count = suc (get_or d j 0) }

abbrev SourcesDone : List Arc → List ℕ → ℕ → Type 0
SourcesDone arcs d j = (a : Arc) → In a arcs → a.target ≡ upcoming d j → a.source.count ≤ get_or d a.source.core 0

done_from : (arcs : List Arc) (d : List ℕ) (j : ℕ) → free arcs d j ≡ true → SourcesDone arcs d j
unfolding Passed
done_from arcs d j f a i q = free_gives arcs d j f a i (ap (λ x. x.core) q) (ap (λ x. x.count) q)

done_to : (arcs : List Arc) (d : List ℕ) (j : ℕ) → SourcesDone arcs d j → free arcs d j ≡ true
unfolding Passed
done_to arcs d j h = free_from arcs d j (λ a i p q. h a i (same a.target (upcoming d j) p q))

free_waiting : (a : List Arc) (d : List ℕ) (j : ℕ) → (free a d j ≡ true) ↔ (waiting a d j ≡ none)
free_waiting [] d j = ((λ e. refl), (λ e. refl))
free_waiting (x ∷ a) d j = go (lets x d j) (free_waiting a d j)
  where
    go : (b : Bool) → (free a d j ≡ true) ↔ (waiting a d j ≡ none) →
        ((b && free a d j) ≡ true) ↔ (cond b (waiting a d j) (some x) ≡ none)
    go true r = r
    go false r = ((λ e. absurd (both_ways false refl e)), (λ e. absurd (none-ne-some x (sym e))))

pub waits_for_sources : WaitsForSources
waits_for_sources arcs d j = ((done_from arcs d j, done_to arcs d j), free_waiting arcs d j)

equal : (a b : Bool) → (a ≡ true → b ≡ true) → (b ≡ true → a ≡ true) → a ≡ b
equal true b f g = sym (f refl)
equal false true f g = g refl
equal false false f g = refl

next_arcs : (arcs some_arcs : List Arc) (d : List ℕ) (j : ℕ) →
    ((a : Arc) → a.target ≡ upcoming d j → In a arcs ↔ In a some_arcs) → free arcs d j ≡ free some_arcs d j
next_arcs arcs some_arcs d j h =
    equal (free arcs d j) (free some_arcs d j)
    (λ f. done_to some_arcs d j (λ a i q. done_from arcs d j f a ((h a q).1 i) q))
    (λ f. done_to arcs d j (λ a i q. done_from some_arcs d j f a ((h a q).0 i) q))

pub own_log_is_enough : OwnLogIsEnough
own_log_is_enough = (next_arcs, λ L d j. next_arcs (log j L) L d j (λ a q. in_log j L a (ap (λ x. x.core) q)))
