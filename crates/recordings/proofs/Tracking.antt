-- An accepted turn of a recorder that tracks the plain memory: request, number and state are the plain memory's, and so are cells, states and counts after it.
use Rattle.std.proofs.Common.{◌≡◌, ℕ, suc, ◌+◌, ◌<◌, ◌≤◌, true, ltb, List, [], ◌∷◌, length, get_or, take, set, sym, ap, ◌∙◌, subst, inl, inr, arith}
use Rattle.std.proofs.Math.Seq.{take-set-lt}
use Rattle.std.proofs.lemmas.List.{get_or-take, length-take-le, get_or-set_same, get_or-set_other, get_or_past, length-replicate}
use Rattle.std.proofs.lemmas.Bool.{and_from, lt-ltb, cases_eq}
use Rattle.access_laws.specs.Recalls as recalls
use Rattle.cores.proofs.Storing.{take_stored, brought_take, states_size, counts_size}
use Rattle.cores.specs.Acting.{within}
use Rattle.cores.specs.Memory.{Rules, Memory, brought, stored, able, outcome, effect, accepts, plain, start}
use Rattle.records.specs.declared.settings.Sizes.{Sizes}
use Rattle.recorder.proofs.Passing.{Passed}
use Rattle.recorder.proofs.Rooms.{fitting}
use Rattle.recorder.specs.Refusals.{log_in, counted_in}
use Rattle.recorder.specs.Turns as recorder
use Rattle.recorder.specs.Turns.{World, asks}
use Rattle.reducers.specs.Numbers.{Meets}
use Rattle.runs.proofs.ReplayAgrees.{run_counts_agree}
use Rattle.runs.specs.Recording.{Arc}
use Rattle.runs.specs.Runs.{Run, done, turns}
use Rattle.recordings.specs.Tracks.{run_of, Tracks}
use Rattle.recordings.proofs.Turning.{able_is}

module _ (meets : Meets) (K : Rules) (z : Sizes) (cs : List ℕ) (ss : List (List ℕ)) (u : List ℕ) (L : List Arc) (w : World) (t : Tracks meets K z (start cs ss) u L w) (j : ℕ) (p : Passed K j w) where
  abbrev m : Memory
  m = start cs ss

  abbrev now : Memory
  now = plain K m u

  abbrev r : Run
  r = run_of K m u

  pub mine : j < z.cores
  mine = subst (λ s. j < s.cores) t.sizes p.here

  pub four : z.cores ≤ 4
  four = subst (λ s. s.cores ≤ 4) t.sizes p.few

  pub few_cells : z.cells ≤ 256
  few_cells = subst (λ s. s.cells ≤ 256) t.sizes (fitting (length w.tape.store) w.tape.book.sizes p.fitting).cells

  cores_there : z.cores ≤ length w.states
  cores_there = subst (λ s. s.cores ≤ length w.states) t.sizes p.cores

  cells_there : z.cells ≤ length w.cells
  cells_there = subst (λ s. s.cells ≤ length w.cells) t.sizes p.cells

  pub inside : within (asks K j w) z.cells ≡ true
  inside = subst (λ s. within (asks K j w) s.cells ≡ true) t.sizes p.inside

  here : get_or now.states j [] ≡ get_or w.states j []
  here = ap (λ s. get_or s j []) (sym t.states) ∙ get_or-take z.cores w.states j [] mine

  pub request_is : (outcome K now j).request ≡ asks K j w
  unfolding outcome
  request_is = ap K.next here

  pub number_is : (outcome K now j).number ≡ brought (asks K j w) w.cells
  unfolding outcome
  number_is =
      ap (λ s. brought (K.next s) now.cells) here ∙ ap (brought (asks K j w)) (sym t.cells) ∙ brought_take (asks K j w) z.cells w.cells inside

  pub state_is : (outcome K now j).state ≡ K.after (get_or w.states j []) (brought (asks K j w) w.cells)
  unfolding outcome
  state_is = ap (λ s. K.after s (brought (K.next (get_or now.states j [])) now.cells)) here ∙ ap (K.after (get_or w.states j [])) number_is

  states_long : length now.states ≡ z.cores
  states_long = ap length (sym t.states) ∙ length-take-le z.cores w.states cores_there

  cells_long : length now.cells ≡ z.cells
  cells_long = ap length (sym t.cells) ∙ length-take-le z.cells w.cells cells_there

  counts_long : length now.counts ≡ z.cores
  counts_long = counts_size K m u ∙ length-replicate (length ss) 0 ∙ sym (states_size K m u) ∙ states_long

  pub is_accepted : accepts K now j ≡ true
  is_accepted =
      and_from (ltb j (length now.states)) (able (K.next (get_or now.states j [])) (length now.cells))
      (lt-ltb j (length now.states) (omega (arith, states_long, mine)))
      (ap (λ s. able (K.next s) (length now.cells)) here ∙ ap (able (asks K j w)) cells_long ∙ able_is (asks K j w) z.cells p.runs inside)

  pub cells_after : take z.cells (stored (asks K j w) w.cells) ≡ (plain K m (j ∷ u)).cells
  unfolding effect
  cells_after = take_stored (asks K j w) z.cells w.cells inside ∙ ap (stored (asks K j w)) t.cells ∙ ap (λ q. stored q now.cells) (sym request_is)

  pub states_after : take z.cores (set w.states j (K.after (get_or w.states j []) (brought (asks K j w) w.cells))) ≡ (plain K m (j ∷ u)).states
  unfolding outcome effect
  states_after = take-set-lt z.cores w.states j _ mine ∙ ap (λ s. set s j (K.after (get_or w.states j []) (brought (asks K j w) w.cells))) t.states ∙ ap (set now.states j) (sym state_is)

  pub done_is : (k : ℕ) → done r k ≡ get_or now.counts k 0
  done_is k = run_counts_agree (λ c. c) K cs ss u t.accepted k

  pub few : (k : ℕ) → z.cores ≤ k → done r k ≡ 0
  few k h = done_is k ∙ get_or_past now.counts k 0 (omega (arith, counts_long))

  count_is : (log_in w.tape.book j).instructions ≡ done r j
  count_is = t.counts j mine ∙ sym (done_is j)

  pub access_is : recorder.next_access w.tape.book j ≡ recalls.next_access r j
  access_is =
      let c : (log_in w.tape.book j).instructions + 1 ≡ suc (done r j) = omega (arith, count_is) in
      let q : w.tape.book.position + 1 ≡ suc (turns r) = omega (arith, t.position) in
      λ i. record { core = j; count = c i; position = q i }

  pub counts_after : (arcs end k : ℕ) → k < z.cores → (log_in (counted_in w.tape.book j arcs end) k).instructions ≡ get_or (plain K m (j ∷ u)).counts k 0
  unfolding outcome effect
  counts_after arcs end k h = elim (cases_eq k j) [
    | inl q ↦ ap (λ i. (log_in (counted_in w.tape.book j arcs end) i).instructions) q
        ∙ ap (λ l. l.instructions) (get_or-set_same w.tape.book.logs j _ _ (omega (arith, t.four, four, mine)))
        ∙ (let c : (log_in w.tape.book j).instructions + 1 ≡ suc (get_or now.counts j 0) = omega (arith, t.counts j mine) in c)
        ∙ sym (get_or-set_same now.counts j (suc (get_or now.counts j 0)) 0 (omega (arith, counts_long, mine)))
        ∙ ap (λ i. get_or (set now.counts j (suc (get_or now.counts j 0))) i 0) (sym q)
    | inr q ↦ ap (λ l. l.instructions) (get_or-set_other w.tape.book.logs j k _ _ q) ∙ t.counts k h ∙ sym (get_or-set_other now.counts j k (suc (get_or now.counts j 0)) 0 q)
  ]
