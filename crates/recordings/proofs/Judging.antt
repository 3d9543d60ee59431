-- The candidates that the recorder judges are judged as the theory says, and the arcs that it appends are those logged.
use Rattle.std.proofs.Common.{◌≡◌, ℕ, ◌<◌, Bool, true, false, cond, ◌&&◌, leb, List, [], ◌∷◌, ◌++◌, Some, None, MatchBool, Option, sym, refl, ap, ◌∙◌, subst}
use Rattle.std.proofs.lemmas.Bool.{and_from, lt-ltb, leb-true, leb-false, false≢true}
use Rattle.std.specs.List.{AllByRecursion}
use Rattle.accesses.specs.declared.access.Access.{Access}
use Rattle.accesses.specs.declared.access.Candidate.{Candidate}
use Rattle.access_laws.specs.Recalls.{as_run, given, access_to}
use Rattle.recorder.specs.Judged as recorder
use Rattle.recorder.specs.Judged.{known?, arcs_to, last_of, none, then}
use Rattle.reducers.specs.declared.interface.AccessKind.{AccessKind}
use Rattle.reducers.specs.declared.interface.AccessKind.TheVariants.{Read, Write}
use Rattle.reducers.specs.Numbers.{Numbers, Meets, core?, cell?, taken}
use Rattle.runs.specs.Recording.{Arc, arc, place_of, Judged, none_left, answers_yes, answers_no}
use Rattle.runs.specs.Runs.{Event, Instr, ev}
use Rattle.recordings.specs.Tracks.{logged}

-- a candidate from a core of the reducer's range
abbrev pub InRange : Option Candidate → Type 0
InRange None = Unit {0}
InRange (Some x) = x.source.core < 4

in_range_true : (i j c : ℕ) → i < 4 → j < 4 → c < 256 → (core? i && (core? j && cell? c)) ≡ true
in_range_true i j c h k l = and_from (core? i) _ (lt-ltb i 4 h) (and_from (core? j) (cell? c) (lt-ltb j 4 k) (lt-ltb c 256 l))

knows_is : (n : Numbers) (i a j : ℕ) → i < 4 → j < 4 → (core? i && (core? j && leb a (n.known j i))) ≡ leb a (n.known j i)
knows_is n i a j h k = ap (λ b. b && (core? j && leb a (n.known j i))) (lt-ltb i 4 h) ∙ ap (λ b. b && leb a (n.known j i)) (lt-ltb j 4 k)

pub when_true : (b : Bool) (P Q : Type 0) → b ≡ true → MatchBool b P Q → P
when_true true P Q e h = h
when_true false P Q e h = absurd (false≢true e)

place_is : (c : ℕ) (w : AccessKind) → place_of (access_to c w) ≡ c
place_is c Read = refl
place_is c Write = refl

module _ (meets : Meets) (c j b : ℕ) (w : AccessKind) (mine : j < 4) (inside : c < 256) (y : Instr) where
  abbrev e : Event
  e = ev j (access_to c w)

  module _ (by : Access) (core_is : by.core ≡ j) where
    judged_by : (x : Candidate) (k : Bool) (xs : List (Option Candidate)) (n m : Numbers) (ms : List Numbers) (L : List Arc) → x.source.core < 4 → known? j n x ≡ k →
        MatchBool k (m ≡ n) (MatchBool (core? x.source.core && (core? j && cell? c)) (meets m (taken n x.source.core x.source.count c x.kind j)) (m ≡ n)) →
        ((L : List Arc) → Judged meets e y (given xs) m L (last_of m ms) (logged y (arcs_to by m xs ms) L)) →
        Judged meets e y (given (Some x ∷ xs)) n L (last_of m ms) (logged y (cond k [] (record { source = x.source.core; count = x.source.count; target = by.count } ∷ []) ++ arcs_to by m xs ms) L)
    judged_by x true xs n m ms L h q s rest =
        answers_yes (leb-true x.source.count (n.known j x.source.core) (sym (knows_is n x.source.core x.source.count j h mine) ∙ q))
        (subst (λ k. Judged meets e y (given xs) k L (last_of m ms) (logged y (arcs_to by m xs ms) L)) s (rest L))
    judged_by x false xs n m ms L h q s rest =
        answers_no (leb-false x.source.count (n.known j x.source.core) (sym (knows_is n x.source.core x.source.count j h mine) ∙ q))
        (subst (λ p. meets m (taken n x.source.core x.source.count p x.kind j)) (sym (place_is c w))
        (when_true _ _ _ (in_range_true x.source.core j c h mine inside) s))
        (rest (arc (as_run x).source y ∷ L))

    judged_on : (x : Option Candidate) (xs : List (Option Candidate)) (n m : Numbers) (ms : List Numbers) (L : List Arc) → InRange x → recorder.Steps meets c j n x m →
        ((L : List Arc) → Judged meets e y (given xs) m L (last_of m ms) (logged y (arcs_to by m xs ms) L)) →
        Judged meets e y (given (x ∷ xs)) n L (last_of m ms) (logged y (arcs_to by n (x ∷ xs) (m ∷ ms)) L)
    judged_on None xs n m ms L h s rest = subst (λ k. Judged meets e y (given xs) k L (last_of m ms) (logged y (arcs_to by m xs ms) L)) s (rest L)
    judged_on (Some x) xs n m ms L h s rest =
        subst (λ i. Judged meets e y (given (Some x ∷ xs)) n L (last_of m ms) (logged y (cond (known? i n x) [] (record { source = x.source.core; count = x.source.count; target = by.count } ∷ []) ++ arcs_to by m xs ms) L)) (sym core_is)
        (judged_by x (known? j n x) xs n m ms L h refl s rest)

    pub judged_is : {xs : List (Option Candidate)} {n : Numbers} {trail : List Numbers} (L : List Arc) → AllByRecursion InRange xs → recorder.Judged meets c j n xs trail →
        Judged meets e y (given xs) n L (last_of n trail) (logged y (arcs_to by n xs trail) L)
    judged_is L r none = none_left
    judged_is L r (then {n} {m} {x} {xs} {ms} s rest) = judged_on x xs n m ms L r.0 s (λ L. judged_is L r.1 rest)
