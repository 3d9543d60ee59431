-- Places keep the order of cells: by the theorem of that name.
use Rattle.runs.proofs.places_keep_the_order_of_cells.Goals as goal
use Rattle.runs.proofs.Places.{places_keep_the_order}

pub returns : goal.returns
returns c = places_keep_the_order
