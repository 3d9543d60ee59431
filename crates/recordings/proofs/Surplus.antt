-- A turn writes one cell and one state, both within the sizes.
use Rattle.std.proofs.Common.{[], get_or, drop, ap, ◌∙◌, inl, inr}
use Rattle.std.proofs.lemmas.List.{drop-set-lt}
use Rattle.std.proofs.lemmas.Bool.{cases_eq}
use Rattle.cores.proofs.Surplus.{stored_surplus}
use Rattle.cores.specs.Memory.{brought}
use Rattle.recorder.proofs.Passing.{passed}
use Rattle.recorder.specs.Turns.{asks, refusal}
use Rattle.reducers.specs.Numbers.{Meets}
use Rattle.traces.proofs.Steps.{refused_turn, accepted_turn}
use Rattle.recordings.specs.Surplus.{TurnsKeepTheSurplus}

pub turns_keep_the_surplus : (meets : Meets) → TurnsKeepTheSurplus meets
turns_keep_the_surplus meets K j w o t =
    let C = w.tape.book.sizes.cells in
    let P = w.tape.book.sizes.cores in
    elim (cases_eq (refusal K j w) 0) [
      | inl e ↦
          let p = passed K j w e in
          let q = accepted_turn meets K j w o t e in (
            ap (λ a. drop C a.leaves.cells) q ∙ stored_surplus (asks K j w) C w.cells p.inside,
            ap (λ a. drop P a.leaves.states) q ∙ drop-set-lt P w.states j (K.after (get_or w.states j []) (brought (asks K j w) w.cells)) p.here,
          )
      | inr never ↦
          let q = refused_turn meets K j w o t never in
          (ap (λ a. drop C a.leaves.cells) q, ap (λ a. drop P a.leaves.states) q)
    ]
