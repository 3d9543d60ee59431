-- Opening the logs of a recording accepts them, and stands at the beginning of their replay.
use Rattle.std.proofs.Common.{◌≡◌, ℕ, suc, ◌+◌, ◌*◌, ◌<◌, ◌≤◌, true, leb, List, [], ◌∷◌, map, length, get_or, take, drop, replicate, Ok, Err, Result, sym, ap, ◌∙◌, subst, mul-le-mul_right, suc-mul, arith}
use Rattle.std.proofs.lemmas.List.{drop-take, take-take, length-take-le, take-replicate}
use Rattle.std.proofs.lemmas.Bool.{cond-true, and_parts, leb-true}
use Rattle.cores.specs.Memory.{Rules, plain, start}
use Rattle.lawful_logs.proofs.Orderly.{orderly_is_accepted}
use Rattle.lawful_logs.specs.Orderly.{Orderly}
use Rattle.logs.proofs.Arcs.{arcs_alone}
use Rattle.logs.proofs.Sessions.{read_exactly, few_cores}
use Rattle.logs.specs.Lawful.{Holds, Accepted}
use Rattle.logs.specs.Session as reading
use Rattle.records.specs.Faults.{Fault}
use Rattle.records.specs.Settings.{fits, settled, log_of, heading_of}
use Rattle.records.specs.declared.settings.Sizes.{Sizes}
use Rattle.recorder.specs.Turns.{World}
use Rattle.recorder.specs.declared.ledger.Log.{Log}
use Rattle.recordings.specs.Sessions.{Session, Records}
use Rattle.recordings.specs.Tracks.{logs_of, body_of}
use Rattle.lawful_logs.proofs.Orderly.{counts_at}
use Rattle.reducers.specs.Numbers.{Meets}
use Rattle.replayer.proofs.Following.{opening_follows}
use Rattle.replayer.specs.Following.{Follows}
use Rattle.replayer.specs.Steps.{found, reopened, started}
use Rattle.replayer.specs.declared.replay.Replayer.{Replayer}
use Rattle.traces.specs.Recording.{Recording, Faithful}
use Rattle.runs.specs.Replay.{replayed}
use Rattle.replays.specs.Matches.{Matches}
use Rattle.replays.specs.Promise.{SameStart}

-- the bytes of a log lie within those of all logs
same_log : (z : Sizes) (j : ℕ) (a b : List ℕ) → j < z.cores → take (z.cores * z.log_bytes) a ≡ take (z.cores * z.log_bytes) b → log_of a z j ≡ log_of b z j
same_log z j a b h q = one a ∙ ap (λ l. drop (j * L) (take (j * L + L) l)) q ∙ sym (one b)
  where
    L : ℕ
    L = z.log_bytes

    inside : j * L + L ≤ z.cores * L
    inside = let m : suc j * L ≤ z.cores * L = mul-le-mul_right L h in rw (← suc-mul j L) m

    one : (l : List ℕ) → log_of l z j ≡ drop (j * L) (take (j * L + L) (take (z.cores * L) l))
    one l = sym (drop-take (j * L) L l) ∙ ap (drop (j * L)) (sym (take-take (j * L + L) (z.cores * L) l inside))

accepted_anew : (z : Sizes) (counts a b : List ℕ) → take (z.cores * z.log_bytes) b ≡ take (z.cores * z.log_bytes) a → Accepted a z counts → Accepted b z counts
accepted_anew z counts a b q w = record {
  bodies = w.bodies;
  holds = λ j h. subst (λ l. Holds (heading_of z j) l (w.bodies j) (get_or counts j 0)) (same_log z j a b h (sym q)) (w.holds j h);
  sources = w.sources;
  four = w.four;
  others = w.others;
}

no_counts_are : (P : ℕ) → P ≤ 4 → take {A = ℕ} P (0 ∷ 0 ∷ 0 ∷ 0 ∷ []) ≡ replicate P 0
no_counts_are P h = take-replicate P 4 0 h

is_ok : (r : Result (List ℕ) Fault) (counts : List ℕ) → reading.outcome r ≡ 0 ∷ counts → r ≡ Ok counts
is_ok (Ok c) counts q = let e : c ≡ counts = cc in ap Ok e
is_ok (Err f) counts q = let e : ◌≡◌ {A = ℕ} 9 0 = cc in absurd (omega (arith, e))

module _ (meets : Meets) (K : Rules) (w : World) (r : Recording) (s : Session) (f : Faithful w r) (o : Orderly w r) (rec : Records meets K w r s)
    (R : Replayer) (store cells : List ℕ) (states : List (List ℕ)) (g : SameStart w.tape.book.sizes s w.tape.store store cells states) where
  abbrev z : Sizes
  z = w.tape.book.sizes

  abbrev counts : List ℕ
  counts = map (λ (l : Log). l.instructions) w.tape.book.logs

  accepted : (logs : Accepted store z counts) × (logs.bodies ≡ (λ k. body_of k rec.arcs))
  unfolding accepted_anew
  accepted =
      let a = orderly_is_accepted w r f o in
      (accepted_anew z counts w.tape.store store g.same_bytes a.0, a.1 ∙ (λ i k. rec.logs k i))

  fitting : fits (length store) z ≡ true
  fitting = (and_parts (fits (length store) z) _ g.ready).0

  reads : reading.session store z ≡ Ok counts
  reads = is_ok (reading.session store z) counts
      (sym (cond-true (fits (length store) z) _ _ fitting) ∙ (read_exactly store z g.octets).accepted counts fitting accepted.0)

  opens : reopened R z (length states) (length cells) store ≡ record { says = 0 ∷ []; replayer = started z counts }
  opens = cond-true (settled z (length states) (length cells) (length store)) _ _ g.ready ∙ ap (found R z) reads

  follows : Follows store (λ k. body_of k rec.arcs) (started z counts)
  follows = subst (λ a. Follows store a (started z counts)) accepted.1
      (subst (λ x. (logs : Accepted store z x.replayer.counts) → Follows store logs.bodies x.replayer) opens
      (opening_follows R z (length states) (length cells) store (ap (λ x. x.says) opens)) accepted.0)

  pub stands : Matches (plain K (start s.cells s.states) s.turns).counts rec.arcs store (started z counts) cells states (replayed K (start s.cells s.states) s.turns rec.arcs [])
  stands =
      let enough = leb-true z.cores (length states) (and_parts (leb z.cores (length states)) _ (and_parts (fits (length store) z) _ g.ready).1).0 in
      let size : z.cores ≡ length s.states = sym (length-take-le z.cores states enough) ∙ ap length g.same_states in
      record {
        bodies = λ k. body_of k rec.arcs;
        follows = follows;
        arcs = λ k. arcs_alone (logs_of k rec.arcs);
        ready = g.ready;
        memory = λ i. record { cells = g.same_cells i; states = g.same_states i; counts = (no_counts_are z.cores (few_cores (length store) z fitting) ∙ ap (λ k. replicate k 0) size) i };
        recorded = λ k h. counts_at w.tape.book.logs k ∙ rec.tracks.counts k h;
      }

pub recordings_open :
    (meets : Meets)
    (K : Rules) (w : World) (r : Recording) (s : Session) → Faithful w r → Orderly w r → (rec : Records meets K w r s) →
    (R : Replayer) (store cells : List ℕ) (states : List (List ℕ)) → SameStart w.tape.book.sizes s w.tape.store store cells states →
    let o = reopened R w.tape.book.sizes (length states) (length cells) store in
    let m = start s.cells s.states in
    (o.says ≡ 0 ∷ [])
    × (o.replayer.sizes ≡ w.tape.book.sizes)
    × Matches (plain K m s.turns).counts rec.arcs store o.replayer cells states (replayed K m s.turns rec.arcs [])
recordings_open meets K w r s f o rec R store cells states g =
    let q = opens meets K w r s f o rec R store cells states g in (
      ap (λ x. x.says) q,
      ap (λ x. x.replayer.sizes) q,
      subst (λ x. Matches (plain K (start s.cells s.states) s.turns).counts rec.arcs store x.replayer cells states (replayed K (start s.cells s.states) s.turns rec.arcs [])) (sym q)
          (stands meets K w r s f o rec R store cells states g),
    )
