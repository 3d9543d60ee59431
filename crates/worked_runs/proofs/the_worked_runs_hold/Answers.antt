-- The worked runs, by computing.
use mathlib.Core.Path.{refl}
use Rattle.logs.specs.Session.{gathered, tested}
use Rattle.logs.specs.Walk.{reading_from, holding_from}
use Rattle.recorder.specs.Decided.{turned_by}
use Rattle.recorder.specs.Turns.{begun, headed_from, refusal, turned}
use Rattle.replayer.specs.Groups.{group_at, read_group}
use Rattle.replayer.specs.Runs.{left, circled, rounds, ran}
use Rattle.replayer.specs.Steps.{cleared, stepped}
use Rattle.worked_runs.proofs.the_worked_runs_hold.Goals as goal

pub returns : goal.returns
unfolding begun headed_from refusal turned turned_by gathered tested reading_from holding_from group_at read_group cleared stepped left circled rounds ran
returns c =
    record {
      exact_arcs = (refl, refl, refl, refl);
      pairwise_arcs = (refl, refl, refl);
      keep_all_arcs = (refl, refl, refl);
      bytes = refl;
      waits_and_finishes = (refl, refl, refl, refl, refl);
      read_between = (refl, refl, refl, refl, refl, refl, refl, refl, refl);
      own_read = (refl, refl, refl, refl, refl, refl);
      least_room = (refl, refl);
      turns_done = refl;
      turns_leave = (refl, refl, refl, refl, refl);
      turns_refused = (refl, refl, refl, refl, refl, refl, refl);
      turns_refused_in_order = (refl, refl, refl, refl, refl);
      openings = (refl, refl, refl, refl, refl, refl, refl);
      steps_done = refl;
      steps_refused = (refl, refl, refl);
      runs_end = (refl, refl, refl, refl, refl);
      circle_goes_up = (refl, refl);
      done_target_ends_the_group = (refl, refl, refl, refl, refl);
      named = (refl, refl, refl, refl, refl, refl);
    }
