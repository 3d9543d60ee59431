-- The arcs of the logs that a store holds.
use Rattle.std.specs.Prelude.{ℕ, zero, suc, cond, List, [], ◌++◌, map, length, nat_lt}
use Rattle.records.specs.declared.settings.Sizes.{Sizes}
use Rattle.records.specs.Format.{LogArc}
use Rattle.records.specs.Settings.{fits}
use Rattle.logs.specs.Lawful.{arcs_in}
use Rattle.logs.specs.Session.{read_log}

-- an arc with both ends: from instruction `count` of core `source` to instruction `target` of core `target_core`
pub record RunArc : Type 0 where
  pub source : ℕ
  pub count : ℕ
  pub target_core : ℕ
  pub target : ℕ

-- an arc of core j's log
abbrev pub arc_to : ℕ → LogArc → RunArc
arc_to j a = record { source = a.source; count = a.count; target_core = j; target = a.target }

-- the arcs of each of n cores' logs, core 0's first
unfoldable pub arcs_by_core : (ℕ → List LogArc) → ℕ → List RunArc
arcs_by_core arcs zero = []
arcs_by_core arcs (suc n) = arcs_by_core arcs n ++ map (arc_to n) (arcs n)

-- the arcs among the records that are read from core j's log; none of a core that the session has not
abbrev pub logged : List ℕ → Sizes → ℕ → List LogArc
logged store z j = cond (nat_lt j z.cores) (arcs_in (read_log store z j).entries) []

-- the arcs of all logs of a store; none where the sizes do not fit it
abbrev pub all_arcs : List ℕ → Sizes → List RunArc
all_arcs store z = cond (fits (length store) z) (arcs_by_core (logged store z) z.cores) []
