-- Each core starts from its item.
use Rattle.std.proofs.Common.{rules}
use Rattle.std.proofs.lemmas.Iterator.{YieldsList-from_slice, YieldsList-from_map_by}
use Rattle.std.proofs.lemmas.Iterator.Consumers.{map_from_collect}
use borrow.Author.Tests.{tests}
use Rattle.bench_answer.proofs.buffers.cores_at.Goals as goal

pub returns : goal.returns
returns g c =
    map_from_collect _ c.collect.ensures.ran
    (YieldsList-from_map_by _ g.K.Core.state g.K.StartingCore.first (YieldsList-from_slice c.args.starts.now cc) c.map.ensures.closure (λ x r q k. search (rules, tests)))
