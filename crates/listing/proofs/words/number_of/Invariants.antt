-- The bytes so far are digits, and write the number so far.
use Rattle.listing.proofs.Digits.{Begun}
use Rattle.std.proofs.Common.{take}
use Rattle.listing.proofs.words.number_of.Given as goal

abbrev pub invariant-loop-b : goal.invariant-loop-b
invariant-loop-b l = Begun (take l.b-index l.word) l.n
