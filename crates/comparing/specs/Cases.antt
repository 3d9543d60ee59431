-- Cases of a comparison: how many are answered as expected, and how many otherwise.
use Rattle.std.specs.Prelude.{ℕ, Bool, not, List, length, vec_items, string_bytes}
use Rattle.std.specs.List.{filter}
use Rattle.std.specs.Str.{bytes_eq}
use Rattle.bench_answer.specs.Answer.{answer_lines}
use Rattle.bench_input.specs.Described.{described}
use Rattle.bench_listing.specs.Lines.{text_of}
use Rattle.comparing.specs.declared.cases.Asked.{Asked}
use Rattle.comparing.specs.declared.cases.Asked.TheVariants.{Bench, Inspect}
use Rattle.comparing.specs.declared.cases.Case.{Case}
use Rattle.listing.specs.Listing.{listing}

-- the text that answers what is asked
abbrev pub answer_to : Asked → List ℕ
answer_to (Bench input) = text_of (answer_lines (described (string_bytes input)))
answer_to (Inspect store sizes) = listing (vec_items store) sizes

abbrev pub agrees : Case → Bool
agrees c = bytes_eq (answer_to c.asked) (string_bytes c.expected)

abbrev pub agreed : List Case → ℕ
agreed cases = length (filter agrees cases)

abbrev pub differed : List Case → ℕ
differed cases = length (filter (λ c. not (agrees c)) cases)
