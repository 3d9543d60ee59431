-- The turns so far were taken in a row, there is room for the answers that come, and nothing beyond the sizes was touched.
use Rattle.std.proofs.Common.{◌≡◌, ◌≤◌, map, reverse, length, take, vec_items, vec_len, vec_capacity}
use Rattle.cores.specs.Memory.{rules}
use Rattle.records.specs.Settings.{SurplusKept}
use Rattle.recorder.specs.Turns.{scene, said}
use Rattle.recordings.specs.ByTheRules.{InARow}
use Rattle.sessions.proofs.buffers.Room.record.Given as goal

abbrev pub invariant-loop-j : goal.invariant-loop-j
invariant-loop-j g l =
    let n = g.R.Reducer.numbers in
    let s = g.K.Core.state in
    (vec_len l.self.turns ≡ l.j-index)
    × (length l.turns ≤ vec_capacity l.self.turns)
    × (l.recorder.ledger.sizes ≡ l.initial.recorder.ledger.sizes)
    × SurplusKept l.initial.recorder.ledger.sizes l.initial.cores l.cores l.initial.cells l.cells
    × InARow g.R.Reducer.meets (rules g.K.Core.next g.K.Core.after l.text)
    (scene n s l.initial.recorder l.initial.cores l.initial.cells l.initial.store)
    (reverse (take l.j-index l.turns)) (reverse (map said (vec_items l.self.turns))) (scene n s l.recorder l.cores l.cells l.store)
    × ((l.self.steps ≡ l.initial.self.steps) × (l.self.stepped_cells ≡ l.initial.self.stepped_cells) × (l.self.stepped_cores ≡ l.initial.self.stepped_cores) × (l.self.cells ≡ l.initial.self.cells) × (l.self.cores ≡ l.initial.self.cores))
