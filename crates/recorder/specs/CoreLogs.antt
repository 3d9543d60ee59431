-- A core's log while an access is recorded.
use Rattle.std.specs.Prelude.{◌≡◌}
use Rattle.recorder.specs.declared.arcs.CoreLog.{CoreLog}

-- the same log of the same store, for the same access
abbrev pub Same : CoreLog → CoreLog → Type 0
Same l m = (m.store.ghost_name ≡ l.store.ghost_name) × (m.sizes ≡ l.sizes) × (m.by ≡ l.by)
