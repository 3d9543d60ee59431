-- What the bench program does.
use Rattle.std.specs.Prelude.{◌≡◌, List, ℕ, [], ◌++◌, codes}
use Rattle.bench_answer.specs.Answer.{answer_lines}
use Rattle.bench_input.specs.Described.{described}
use Rattle.bench_listing.specs.Lines.{text_of}
use Rattle.listing.specs.Lines.{full_line}
use Rattle.worlds.specs.Worlds.{State, with_input, with_said}

-- the input is read, and its answer said
abbrev pub Benched : State → State → Type 0
Benched s t = t ≡ with_said (with_input s []) (text_of (answer_lines (described s.input)))

abbrev pub bench_line : List ℕ → List ℕ
bench_line why = full_line (codes "bench: " ++ why)
