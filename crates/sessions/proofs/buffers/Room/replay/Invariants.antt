-- What the steps from here on say and leave, behind what was said, is what they say and leave from the opening.
use Rattle.std.proofs.Common.{◌≡◌, ◌≤◌, map, length, vec_items, vec_len, vec_capacity}
use Rattle.replayer.specs.Answers.{step_numbers}
use Rattle.replayer.specs.Runs.{session}
use Rattle.sessions.proofs.Walks.{GoesOn}
use Rattle.sessions.proofs.buffers.Room.replay.Given as goal

abbrev pub invariant-loop-j : goal.invariant-loop-j
invariant-loop-j g l =
    let s = g.K.Core.state in
    let answers = l.self.1.0 in
    (vec_len answers ≡ l.j-index)
    × (length l.steps ≤ vec_capacity answers)
    × GoesOn g.K.Core.next g.K.Core.after l.text l.store (session 0 l.initial.replayer l.initial.cells (map s l.initial.cores)) l.steps l.j-index
    (map step_numbers (vec_items answers)) l.replayer l.cells (map s l.cores)
