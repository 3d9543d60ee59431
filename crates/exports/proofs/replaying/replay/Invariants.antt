-- What is there now is what the steps so far make of what the opening left.
use Rattle.std.proofs.Common.{◌≡◌, map, take}
use Rattle.std.specs.List.{fold}
use Rattle.exports.specs.Calls.{replay, one_step}
use Rattle.exports.proofs.replaying.replay.Given as goal

abbrev pub invariant-loop-j : goal.invariant-loop-j
invariant-loop-j g l =
    let s = g.K.Core.state in
    let b = l.initial in
    replay l.sum l.replayer l.cells (map s l.cores)
    ≡ fold (one_step g.K.Core.next g.K.Core.after l.text l.store)
    (replay b.sum b.replayer b.cells (map s b.cores)) (take l.j-index l.steps)
