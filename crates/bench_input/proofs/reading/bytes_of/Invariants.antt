-- The numbers so far are bytes, and were kept.
use Rattle.std.proofs.Common.{◌≡◌, take, drop, vec_items}
use Rattle.bench_input.specs.Described.{all_bytes}
use Rattle.bench_input.proofs.reading.bytes_of.Given as goal

abbrev pub invariant-loop-n : goal.invariant-loop-n
invariant-loop-n l = (all_bytes l.numbers ≡ all_bytes (drop l.n-index l.numbers)) × (vec_items l.bytes ≡ take l.n-index l.numbers)
