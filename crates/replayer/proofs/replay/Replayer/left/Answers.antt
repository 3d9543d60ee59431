-- The chain adds up what each core of the session has left.
use Rattle.std.proofs.Common.{◌≡◌, ◌∙◌, ◌-◌, ◌≤◌, ◌^◌, length, take, rules, arith}
use Rattle.std.specs.List.{zip}
use Rattle.std.proofs.iter.Yields.{fronts}
use Rattle.std.specs.Iterator.Adapters.{take_steps, map_source}
use Rattle.std.proofs.lemmas.List.{length-take}
use Rattle.std.proofs.lemmas.Slice.Zip.{length-zip}
use Rattle.std.proofs.lemmas.Iterator.{YieldsList, zips, YieldsList-from_slice, YieldsList-from_take, YieldsList-from_zip, YieldsList-from_map}
use Rattle.std.proofs.lemmas.Iterator.Consumers.{YieldsList-at, sum_by_from_yields_List}
use Rattle.std.proofs.lemmas.Iterator.Adapters.{fits_from_length, at_most_from_yields_List}
use Rattle.replayer.proofs.Runs.{left_sum}
use Rattle.replayer.proofs.replay.Replayer.left.Goals as goal
use Rattle.replayer.proofs.replay.Replayer.left.Goals.{After-map}

-- the counts and done counts of the session's cores
pairs : (c : After-map) → YieldsList (take_steps (zips fronts fronts)) (λ p. (p.0.now, p.1.now)) (map_source c.map.result)
    (take c.args.self.now.sizes.cores (zip c.args.self.now.counts c.args.self.now.done))
pairs c =
    let R = c.args.self.now in
    YieldsList-at c.map.ensures.source (YieldsList-from_take R.sizes.cores (YieldsList-at c.take.ensures.source (YieldsList-from_zip (YieldsList-from_slice R.counts cc) (YieldsList-from_slice R.done cc))) cc)

pub sum-requires-clause-fits : goal.sum-requires-clause-fits
sum-requires-clause-fits c =
    let R = c.args.self.now in
    let four : length R.counts ≡ 4 = search rules in
    let few : length (take R.sizes.cores (zip R.counts R.done)) ≤ 4 = omega (arith, length-take R.sizes.cores (zip R.counts R.done), length-zip R.counts R.done) in
    fits_from_length _ _ 4 (2 ^ 32) (at_most_from_yields_List (pairs c) few) c.map.ensures.closure (omega arith) (λ x r q k. search rules)

pub returns : goal.returns
returns c =
    let R = c.args.self.now in
    sum_by_from_yields_List _ _ c.map.result _ c.sum.ensures.ran
    (YieldsList-from_map _ (λ p. p.0 - p.1) (pairs (goal.at.returns c).After-map) c.map.ensures.closure (λ x r q k. search rules))
    ∙ left_sum R (search rules)
