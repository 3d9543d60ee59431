-- What is there now is what the turns so far make of what begin left.
use Rattle.std.proofs.Common.{◌≡◌, take}
use Rattle.std.specs.List.{fold}
use Rattle.cores.specs.Memory.{rules}
use Rattle.recorder.specs.Turns.{scene}
use Rattle.exports.specs.Calls.{recording, one_turn}
use Rattle.exports.proofs.recording.record.Given as goal

abbrev pub invariant-loop-j : goal.invariant-loop-j
invariant-loop-j g l =
    let n = g.R.Reducer.numbers in
    let s = g.K.Core.state in
    let b = l.initial in
    recording l.sum (scene n s l.recorder l.cores l.cells l.store)
    ≡ fold (one_turn g.R.Decided.choice (rules g.K.Core.next g.K.Core.after l.text))
    (recording b.sum (scene n s b.recorder b.cores b.cells b.store)) (take l.j-index l.turns)
