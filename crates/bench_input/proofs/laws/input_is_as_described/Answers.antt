-- The theorem on described sessions, and the worked texts.
use Rattle.bench_input.proofs.Finding.{finds_the_described}
use Rattle.bench_input.proofs.WorkedTexts.{worked_input, worked_bad}
use Rattle.bench_input.proofs.laws.input_is_as_described.Goals as goal

pub returns : goal.returns
returns c = record { finds = finds_the_described; worked = worked_input; bad = worked_bad }
