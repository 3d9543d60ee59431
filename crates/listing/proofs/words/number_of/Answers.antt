-- A word is a number where each byte is a digit and the number stays small.
use Rattle.std.proofs.Common.{sym, ◌∙◌}
use Rattle.listing.proofs.Digits.{digit_more, digit_bad}
use Rattle.listing.proofs.words.number_of.Goals as goal

pub returns-in_err-n : goal.returns-in_err-n
returns-in_err-n c = c.from_residual.ensures ∙ sym (digit_bad _ _ _ c.loop-b.invariant c.loop-b-test.true (sym c.in_err-n.ensures))

pub loop-b-preserved : goal.loop-b-preserved
loop-b-preserved c = digit_more _ _ _ c.loop-b.invariant _ c.loop-b-test.true (sym c.in_ok-n.ensures)
