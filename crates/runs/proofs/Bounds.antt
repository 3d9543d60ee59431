-- After a take a known number is the larger of the old one and the count taken or the stamp's entry; what is at most a maximum is at most one of the two.
use Rattle.std.proofs.Common.{◌≡◌, ℕ, ◌≤◌, max, cond, eqb, ◌⊎◌, refl, ap, ◌∙◌, inl, inr, arith}
use native.Mathlib.Decide.{ℕ_discrete, dec_le}
use Rattle.std.proofs.lemmas.Bool.{eq-eqb, ne_eqb, cond-true, cond-false}
use Rattle.reducers.specs.declared.interface.AccessKind.{AccessKind}
use Rattle.reducers.specs.Numbers.{Numbers, stamp, taken}
use Rattle.runs.specs.Runs.{Event, core_of, access_of, choose}
use Rattle.runs.specs.Candidates.{Candidate}
use Rattle.runs.specs.Recording.{place_of}

pub max_or : (n a b : ℕ) → n ≤ max a b → (n ≤ a) ⊎ (n ≤ b)
max_or n a b l = go (dec_le n a)
  where
    go : Dec (n ≤ a) → (n ≤ a) ⊎ (n ≤ b)
    go (yes m) = inl m
    go (no m) = inr (omega arith)

-- the stamp of a candidate of e, and the most that may be known once its arc is taken

abbrev pub stamp_of : Numbers → Event → Candidate → ℕ → ℕ
stamp_of s e y = stamp s y.source.core (place_of (access_of e)) y.kind

abbrev pub with_arc : Numbers → Event → Candidate → Numbers
with_arc s e y = taken s y.source.core y.source.count (place_of (access_of e)) y.kind (core_of e)

pub known_taken : (s : Numbers) (i a c : ℕ) (w : AccessKind) (j k : ℕ) →
    (taken s i a c w j).known j k ≡ choose (ℕ_discrete k i) (max (s.known j k) a) (max (s.known j k) (stamp s i c w k))
known_taken s i a c w j k = cond-true (eqb j j) _ _ (eq-eqb j j refl) ∙ go (ℕ_discrete k i)
  where
    go : (d : Dec (k ≡ i)) →
        max (s.known j k) (cond (eqb k i) a (stamp s i c w k)) ≡ choose d (max (s.known j k) a) (max (s.known j k) (stamp s i c w k))
    go (yes q) = ap (max (s.known j k)) (cond-true (eqb k i) _ _ (eq-eqb k i q))
    go (no q) = ap (max (s.known j k)) (cond-false (eqb k i) _ _ (ne_eqb k i q))
