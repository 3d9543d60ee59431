-- The numbers found are those of the parts so far.
use Rattle.std.proofs.Common.{vec_items}
use Rattle.bench_input.proofs.Words.{ReadUpTo}
use Rattle.bench_input.proofs.numbers.read_numbers.Given as goal

abbrev pub invariant-loop-word : goal.invariant-loop-word
invariant-loop-word l = ReadUpTo (goal.iterator-loop-word).next_gives (λ x. x.now) l.bytes l.word-iterator (vec_items l.found)
