-- The cases so far were counted.
use Rattle.std.proofs.Common.{◌≡◌, ◌+◌, take}
use Rattle.comparing.specs.Cases.{agreed, differed}
use Rattle.comparing.proofs.cases.compare.Given as goal

abbrev pub invariant-loop-case : goal.invariant-loop-case
invariant-loop-case l =
    let before = take l.case-index l.cases in
    (l.tally.agreed ≡ agreed before) × (l.tally.differed ≡ differed before) × (l.tally.agreed + l.tally.differed ≡ l.case-index)
