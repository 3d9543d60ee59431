-- One turn: it is refused with nothing changed, or passed every test and is the plain memory's.
use Rattle.std.proofs.Common.{◌≡◌, ℕ, suc, ◌+◌, ◌<◌, ◌≤◌, eqb, List, [], ◌∷◌, map, length, get_or, take, set, sym, refl, ap, ◌∙◌, arith}
use Rattle.std.proofs.Math.Seq.{take-set-lt}
use Rattle.std.proofs.lemmas.List.{length-take-le, get_or-take, get_or-map, map-set}
use Rattle.std.proofs.lemmas.Bool.{cond-true, cond-false, eq-eqb, ne_eqb}
use Rattle.cores.proofs.Storing.{take_stored, brought_take}
use Rattle.cores.specs.Memory.{Rules, Memory, brought, stored, outcome, effect, turned as stepped}
use Rattle.recorder.proofs.Passing.{Passed}
use Rattle.recorder.specs.Refusals.{log_in}
use Rattle.recorder.specs.Sound.{no_log}
use Rattle.recorder.specs.Turns.{World, world, asks, done_said, Answered, answered, refusal, turned, Turned, new_arcs, entered}
use Rattle.recorder.specs.declared.ledger.Log.{Log}
use Rattle.records.specs.Format.{arc, written}
use Rattle.reducers.specs.Numbers.{Numbers, Meets}
use Rattle.traces.specs.Recording.{memory_of}

module _ (meets : Meets) (K : Rules) (j : ℕ) (w : World) (o : Answered) (f : Turned meets K j w o) where
  pub refused_turn : (refusal K j w ≡ 0 → ⊥) → o ≡ answered (refusal K j w ∷ []) w
  unfolding turned
  refused_turn never = f.same ∙ cond-false (eqb (refusal K j w) 0) _ _ (ne_eqb (refusal K j w) 0 never)

  pub accepted_turn : refusal K j w ≡ 0 →
      let request = asks K j w in
      let number = brought request w.cells in
      o ≡ answered
      (done_said request ((log_in w.tape.book j).instructions + 1) number (length (new_arcs w.tape j request f.trail)))
      (world (entered w.tape j request f.trail f.last) (stored request w.cells) (set w.states j (K.after (get_or w.states j []) number)))
  unfolding turned
  accepted_turn e = f.same ∙ cond-true (eqb (refusal K j w) 0) _ _ (eq-eqb (refusal K j w) 0 e)

counts_more : (P j : ℕ) (logs : List Log) (new : Log) → j < P → P ≤ length logs → new.instructions ≡ (get_or logs j no_log).instructions + 1 →
    let count : Log → ℕ = λ (l : Log). l.instructions in
    map count (take P (set logs j new)) ≡ set (map count (take P logs)) j (suc (get_or (map count (take P logs)) j 0))
counts_more P j logs new here long e =
    let count : Log → ℕ = λ (l : Log). l.instructions in
    let short : j < length (take P logs) = omega (arith, length-take-le P logs long, here) in
    let was : get_or (map count (take P logs)) j 0 ≡ count (get_or logs j no_log) = get_or-map count (take P logs) j no_log 0 short ∙ ap count (get_or-take P logs j no_log here) in
    let is : new.instructions ≡ suc (get_or (map count (take P logs)) j 0) = omega (arith, e, was) in
    ap (map count) (take-set-lt P logs j new here) ∙ map-set count (take P logs) j new ∙ ap (set (map count (take P logs)) j) is

-- the world after an accepted turn has the plain memory's cells, states and counts
pub turn_is_plain : (K : Rules) (j : ℕ) (w : World) (trail : List Numbers) (m : Numbers) → length w.tape.book.logs ≡ 4 → Passed K j w →
    let request = asks K j w in
    memory_of (world (entered w.tape j request trail m) (stored request w.cells) (set w.states j (K.after (get_or w.states j []) (brought request w.cells))))
    ≡ stepped K (memory_of w) j
unfolding outcome effect
turn_is_plain K j w trail m four p =
    let b = w.tape.book in
    let P = b.sizes.cores in
    let C = b.sizes.cells in
    let request = asks K j w in
    let s : get_or (take P w.states) j [] ≡ get_or w.states j [] = get_or-take P w.states j [] p.here in
    let n : brought request (take C w.cells) ≡ brought request w.cells = brought_take request C w.cells p.inside in
    let own = memory_of w in
    let l = log_in b j in
    let arcs = new_arcs w.tape j request trail in
    let next : List ℕ → Memory = λ q. record {
      cells = stored (K.next q) own.cells;
      states = set own.states j (K.after q (brought (K.next q) own.cells));
      counts = set own.counts j (suc (get_or own.counts j 0));
    } in
    let cells = take_stored request C w.cells p.inside in
    let told = K.after (get_or w.states j []) (brought request w.cells) in
    let states : take P (set w.states j told) ≡ set own.states j (K.after (get_or w.states j []) (brought request own.cells)) =
    take-set-lt P w.states j told p.here ∙ ap (λ k. set own.states j (K.after (get_or w.states j []) k)) (sym n) in
    let counts = counts_more P j b.logs (record { instructions = l.instructions + 1; arcs = l.arcs + length arcs; end = l.end + length (written (map arc arcs)) })
    p.here (omega (arith, p.few, four)) refl in
    (λ i. record { cells = cells i; states = states i; counts = counts i }) ∙ ap next (sym s)
