-- The worked texts, by computing.
use Rattle.std.proofs.Common.{refl}
use Rattle.bench_input.specs.Described.{session, described}
use Rattle.bench_input.specs.Numbers.{numbers}
use Rattle.bench_input.specs.Worked.{WorkedInput, WorkedBad}

pub worked_input : WorkedInput
unfolding numbers session described
worked_input = refl

pub worked_bad : WorkedBad
unfolding numbers session described
worked_bad = (refl, refl, refl, refl, refl, refl, refl)
