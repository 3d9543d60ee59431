-- A turn is refused by the plain memory and the arcs logged so far.
use Rattle.std.proofs.Common.{◌≡◌, ℕ, ◌-◌, ◌*◌, ◌<◌, cond, not, eqb, ltb, leb, List, [], map, length, get_or, Some, None, Option, sym, refl, ap, ◌∙◌, inl, inr}
use Rattle.std.proofs.lemmas.List.{get_or-take}
use Rattle.std.proofs.lemmas.Bool.{cases_lt, cond-true, le-leb}
use Rattle.cores.specs.Acting.{within}
use Rattle.cores.specs.Memory.{Rules, Memory, outcome, plain, start}
use Rattle.logs.specs.Lawful.{front}
use Rattle.records.specs.Format.{LogArc, arc, written}
use Rattle.records.specs.Settings.{heading_of, free_behind}
use Rattle.recorder.specs.Refusals.{Book, log_in, halts, touched, full, barred}
use Rattle.recorder.specs.Turns.{World, asks, ready, refusal}
use Rattle.recorder.specs.declared.rules.Touch.{Touch}
use Rattle.reducers.specs.Numbers.{Meets}
use Rattle.traces.specs.Recording.{Recording, Faithful}
use Rattle.recordings.specs.Refused.{no_room, request_refusal, turn_refusal, RefusalsArePlain}
use Rattle.recordings.specs.Sessions.{Session, Records}
use Rattle.recordings.specs.Tracks.{logs_of}

full_is : (b : Book) (j : ℕ) (arcs : List LogArc) (t : Option Touch) → (log_in b j).end ≡ length (written (front (heading_of b.sizes j) (map arc arcs))) → full b j t ≡ no_room b.sizes j arcs t
full_is b j arcs None q = refl
full_is b j arcs (Some t) q = ap (λ e. ltb (free_behind b.sizes e) (7 * (b.sizes.cores - 1))) q

module _ (meets : Meets) (K : Rules) (w : World) (r : Recording) (s : Session) (j : ℕ) (f : Faithful w r) (rec : Records meets K w r s) where
  abbrev m : Memory
  m = plain K (start s.cells s.states) s.turns

  abbrev b : Book
  b = w.tape.book

  asked : j < b.sizes.cores → asks K j w ≡ (outcome K m j).request
  unfolding outcome
  asked mine = ap K.next (sym (get_or-take b.sizes.cores w.states j [] mine) ∙ ap (λ l. get_or l j []) rec.tracks.states)

  within_session : j < b.sizes.cores → barred b j (asks K j w) ≡ request_refusal b.sizes j (get_or m.counts j 0) (logs_of j rec.arcs) (outcome K m j).request
  within_session mine =
      (λ i. cond (halts (asks K j w)) 2 (cond (eqb (rec.tracks.counts j mine i) 65535) 3 (cond (within (asks K j w) b.sizes.cells)
      (cond (full_is b j (logs_of j rec.arcs) (touched (asks K j w)) ((f.logs j mine).place ∙ ap (λ a. length (written (front (heading_of b.sizes j) a))) (rec.logs j)) i) 5 0) 4)))
      ∙ ap (request_refusal b.sizes j (get_or m.counts j 0) (logs_of j rec.arcs)) (asked mine)

  is_plain : refusal K j w ≡ turn_refusal K b.sizes (ready w) m (logs_of j rec.arcs) j
  unfolding refusal
  is_plain = elim (cases_lt j b.sizes.cores) [
    | inl mine ↦ ap (λ x. cond (not (ready w)) 8 (cond (leb b.sizes.cores j) 1 x)) (within_session mine)
    | inr h ↦ ap (λ x. cond (not (ready w)) 8 x) (cond-true (leb b.sizes.cores j) 1 _ (le-leb b.sizes.cores j h) ∙ sym (cond-true (leb b.sizes.cores j) 1 _ (le-leb b.sizes.cores j h)))
  ]

pub refusals_are_plain : (meets : Meets) → RefusalsArePlain meets
refusals_are_plain meets K w r s j f rec = is_plain meets K w r s j f rec
