-- The run that the source core's current knowledge gets wrong, computed.
use Rattle.std.proofs.Common.{◌≡◌, ◌≤◌, ◌⊎◌, List, [], ◌∷◌, get_or, sym, refl, ap, ◌∙◌, subst, inl, inr, arith}
use native.Mathlib.Decide.{ℕ_discrete, dec_le}
use Rattle.cores.specs.Memory.{outcome, effect, plain}
use Rattle.runs.specs.PlainRun.{run}
use Rattle.runs.specs.Replay.{replayed}
use Rattle.runs.specs.Runs.{read, write, ev, Instr, Conflict, program, link, chain}
use Rattle.runs.specs.Recording.{Arc, arc, Reach}
use Rattle.runs.specs.Reducers.{recorded, exact}
use Rattle.runs.specs.Worked.{script, late_text, late_begun, late_turns, at, current_knowledge, late_run, CurrentKnowledgeLosesAnOrdering}
use Rattle.runs.proofs.NoOrderingLost.{no_ordering_lost}
use Rattle.runs.proofs.RecordingsExist.{recordings_exist}

abbrev late_arcs : List Arc
late_arcs = arc (at 0 1) (at 2 1) ∷ arc (at 1 1) (at 0 2) ∷ []

logged_late : (recorded current_knowledge late_run).arcs ≡ late_arcs
unfolding ℕ_discrete dec_le
logged_late = refl

-- what the arcs order after 1:1
abbrev After : Instr → Type 0
After x = (x.core ≡ 1) ⊎ ((x.core ≡ 0) × (2 ≤ x.count))

stays : {x y : Instr} → After x → Reach late_run late_arcs x y → After y
stays (inl q) (program i k c l) = inl (sym c ∙ q)
stays (inr (q, m)) (program i k c l) = inr (sym c ∙ q, omega arith)
stays {x} {y} a (link (inl q)) = absurd (not_first a)
  where
    not_first : After x → ⊥
    not_first (inl p) = omega (arith, p, ap (λ (b : Arc). b.source.core) q)
    not_first (inr (p, m)) = omega (arith, m, ap (λ (b : Arc). b.source.count) q)
stays a (link (inr (inl q))) = inr (ap (λ (b : Arc). b.target.core) q, omega (arith, ap (λ (b : Arc). b.target.count) q))
stays a (link (inr (inr q))) = absurd q
stays a (chain p q) = stays (stays a p) q

not_after : After (at 2 2) → ⊥
not_after (inl q) = omega (arith, q)
not_after (inr (q, m)) = omega (arith, q)

in_conflict : Conflict late_run (at 1 1) (at 2 2)
unfolding ℕ_discrete
in_conflict = (
  record {
    first = 2;
    second = 5;
    does_first = ev 1 (write 1);
    does_second = ev 2 (read 1);
    placed_first = inl (inl (inl (inr (refl, refl, refl))));
    placed_second = inr (refl, refl, refl);
    earlier = omega arith;
  },
  ((λ q. omega (arith, q)), refl),
)

not_ordered : Reach late_run (recorded current_knowledge late_run).arcs (at 1 1) (at 2 2) → ⊥
not_ordered p = not_after (stays (inl refl) (subst (λ l. Reach late_run l (at 1 1) (at 2 2)) logged_late p))

exact_late : (recorded exact late_run).arcs ≡ arc (at 1 1) (at 2 2) ∷ late_arcs
unfolding ℕ_discrete dec_le
exact_late = refl

is_late : run (λ c. c) (script late_text) late_begun late_turns ≡ late_run
unfolding outcome effect
is_late = refl

plain_reads : get_or (plain (script late_text) late_begun late_turns).states 2 [] ≡ 7 ∷ 9 ∷ []
unfolding outcome effect
plain_reads = refl

replay_reads : get_or (replayed (script late_text) late_begun late_turns (recorded current_knowledge late_run).arcs (2 ∷ 2 ∷ 0 ∷ [])).memory.states 2 [] ≡ 7 ∷ 0 ∷ []
unfolding outcome effect ℕ_discrete dec_le
replay_reads = refl

pub ordering_lost : CurrentKnowledgeLosesAnOrdering
ordering_lost = record {
  logged_exactly = exact_late;
  logged_currently = logged_late;
  in_conflict = in_conflict;
  not_ordered = not_ordered;
  is_late = is_late;
  plain_reads = plain_reads;
  replay_reads = replay_reads;
  out_of_bounds = λ k. not_ordered
      ((no_ordering_lost late_run (recorded current_knowledge late_run).numbers (recorded current_knowledge late_run).arcs (recordings_exist.0 current_knowledge k late_run) (at 1 1) (at 2 2)).1
      (link in_conflict));
}
