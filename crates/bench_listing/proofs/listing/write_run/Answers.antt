-- The text of a run is that of its arcs, its cells and its steps.
use Rattle.std.proofs.Common.{◌≡◌, [], ◌∷◌, ◌++◌, map, string_bytes, sym, ap, ◌∙◌, append_assoc, rules}
use Rattle.logs.specs.Arcs.{all_arcs}
use Rattle.bench_listing.specs.Lines.{text_of}
use Rattle.bench_listing.specs.Runs.{arc_line, cells_line, replayed_line}
use Rattle.bench_listing.proofs.Texts.{in_turn, text_append}
use Rattle.bench_listing.proofs.listing.write_run.Goals as goal

pub returns : goal.returns
returns c =
    let arcs = map arc_line (all_arcs c.args.store.now c.args.sizes) in
    let rest = cells_line c.args.cells.now ∷ replayed_line c.args.steps ∷ [] in
    let wrote : string_bytes c.writeln-2.new.self ≡ string_bytes c.write_logs.new.out ++ text_of rest = search (rules, append_assoc) in
    in_turn (string_bytes c.args.out.now) (string_bytes c.write_logs.new.out) _ (text_of arcs) (text_of rest) c.in_ok-write_logs.ensures wrote
    ∙ ap (λ l. string_bytes c.args.out.now ++ l) (sym (text_append arcs rest))
