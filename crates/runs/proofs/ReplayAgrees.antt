-- Replays agree with the plain memory and finish; so do those over the arcs of a recording.
use Rattle.std.proofs.Common.{◌≡◌, ℕ, List, length, get_or, replicate, refl, arith}
use lib.ListN.{length-replicate}
use Rattle.std.proofs.lemmas.List.Folds.{sum_by-replicate}
use Rattle.std.specs.List.{sum}
use Rattle.cores.specs.Memory.{Rules, Memory, start, Accepted}
use Rattle.reducers.proofs.RowLists.{each_replicate}
use Rattle.reducers.specs.Numbers.{Numbers, ◌⊑◌}
use Rattle.runs.specs.Runs.{link}
use Rattle.runs.specs.Recording.{Arc, Recording}
use Rattle.runs.specs.PlainRun.{run}
use Rattle.runs.specs.Replay.{Suffices}
use Rattle.runs.specs.Theorems.{CountsAgree, ReplayAgrees, ReplayOfARecordingAgrees}
use Rattle.runs.proofs.PlainTurns.{Guided}
use Rattle.runs.proofs.NoOrderingLost.{good, no_ordering_lost}
use Rattle.runs.proofs.ReplaySteps.{agrees}
use Rattle.runs.proofs.ReplayFinishes.{one_round, finishes}
use Rattle.runs.proofs.ArcsGuide.{counts_agree, guided}

zeros : (n k : ℕ) → ◌≡◌ {A = ℕ} (get_or (replicate n 0) k 0) 0
zeros = each_replicate (λ n. n ≡ 0) 0 0 refl refl

guides : (place : ℕ → ℕ) (K : Rules) (cells : List ℕ) (states : List (List ℕ)) (u : List ℕ) (arcs : List Arc) →
    Suffices place K (start cells states) u arcs → Guided K (start cells states) u arcs
guides place K cells states u arcs S = guided place K (start cells states) (length-replicate (length states) 0) (zeros (length states)) u arcs S

pub run_counts_agree : CountsAgree
run_counts_agree place K cells states u a k =
    counts_agree place K (start cells states) (length-replicate (length states) 0) (zeros (length states)) u a k

pub replay_agrees : ReplayAgrees
replay_agrees place K cells states u arcs S =
    let paired : length (start cells states).counts ≡ length states = length-replicate (length states) 0 in
    let G : Guided K (start cells states) u arcs = guides place K cells states u arcs S in
    let none : sum (start cells states).counts ≡ 0 = omega (arith, sum_by-replicate (λ n. n) (length states) 0) in
    record {
      agrees = agrees K (start cells states) paired (zeros (length states)) u arcs G;
      moves_on = one_round K (start cells states) paired (zeros (length states)) none u arcs G;
      finishes = finishes K (start cells states) paired (zeros (length states)) none u arcs G;
    }

-- the arcs of a recording suffice
recording_suffices : (place : ℕ → ℕ) (K : Rules) (m : Memory) (u : List ℕ) → Accepted K m u →
    (N : Numbers) (L : List Arc) → Recording ◌⊑◌ (run place K m u) N L → Suffices place K m u L
recording_suffices place K m u a N L rec = record {
  accepted = a;
  forward = λ b i. ((good rec).arcs b i).0;
  covered = λ x y k. (no_ordering_lost (run place K m u) N L rec x y).1 (link k);
}

pub replay_of_a_recording_agrees : (K : Rules) → ReplayOfARecordingAgrees ◌⊑◌ K
replay_of_a_recording_agrees K place cells states u a N L rec =
    replay_agrees place K cells states u L (recording_suffices place K (start cells states) u a N L rec)
