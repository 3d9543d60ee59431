-- The space of a session's buffers.
use Rattle.std.specs.Prelude.{ℕ, Bool, ◌&&◌, nat_le, vec_capacity}
use Rattle.records.specs.declared.settings.Sizes.{Sizes}
use Rattle.sessions.specs.declared.buffers.SessionBuffers.{SessionBuffers}

-- space for the answers of so many turns and steps, and for the replay's cells and cores behind the steps and behind the run
abbrev pub suffices : {K : Type 0} → SessionBuffers K → Sizes → ℕ → ℕ → Bool
suffices b z turns steps =
    nat_le turns (vec_capacity b.room.turns) && (nat_le steps (vec_capacity b.room.steps)
    && (nat_le z.cells (vec_capacity b.room.stepped_cells) && (nat_le z.cores (vec_capacity b.room.stepped_cores)
    && (nat_le z.cells (vec_capacity b.room.cells) && nat_le z.cores (vec_capacity b.room.cores)))))
