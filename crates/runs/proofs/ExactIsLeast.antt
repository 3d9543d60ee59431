-- No arcs that keep the order of a run are without one that the exact reducer logs.
use Rattle.runs.specs.Runs.{Run, Instr, Has, Closure, program, link, chain, Before, Reduced}
use Rattle.runs.specs.Recording.{arc, In}
use Rattle.runs.specs.Theorems.{ExactIsLeast, DroppingLosesAnOrdering}
use Rattle.runs.proofs.NoOrderingLost.{closure_before}
use Rattle.runs.proofs.ExactIsReduction.{exact_logs_the_reduction}

-- a pair of the reduction that a closure orders is one of its links
direct_link : (r : Run) (Link : Instr → Instr → Type 0) {x y : Instr} →
    ((u v : Instr) → Closure (Has r) Link u v → Before r u v) → Reduced r x y → Closure (Has r) Link x y → Link x y
direct_link r Link f d (program i k c l) = absurd (d.cores c)
direct_link r Link f d (link i) = i
direct_link r Link f d (chain {x = x} {y = z} {z = y} p q) = absurd (d.direct z (f x z p) (f z y q))

pub exact_is_least : ExactIsLeast
exact_is_least r N L rec M keeps a i =
    let d : Reduced r a.source a.target = ((exact_logs_the_reduction r N L rec).0 a.source a.target).0 i in
    direct_link r (λ x y. In (arc x y) M) (λ u v p. (keeps u v).0 p) d ((keeps a.source a.target).1 d.before)

pub dropping_loses_an_ordering : DroppingLosesAnOrdering
dropping_loses_an_ordering r N L rec a i M sub out =
    let d : Reduced r a.source a.target = ((exact_logs_the_reduction r N L rec).0 a.source a.target).0 i in (
      d.before,
      λ p. out (direct_link r (λ x y. In (arc x y) M)
          (λ u v q. closure_before r (λ x y k. (((exact_logs_the_reduction r N L rec).0 x y).0 (sub (arc x y) k)).before) q) d p),
    )
