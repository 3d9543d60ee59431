-- From begin on and turn by turn, each log is a head, its turns' arcs and an end, and all else in the store stays.
use Rattle.std.proofs.Common.{◌≡◌, ℕ, zero, suc, ◌+◌, ◌-◌, ◌*◌, ◌<◌, ◌≤◌, true, cond, eqb, List, [], ◌∷◌, ◌++◌, map, length, drop, sym, refl, ap, ◌∙◌, subst, inl, inr, arith}
use Rattle.std.proofs.lemmas.List.{append_assoc, length-append, drop-drop, get_or-set_same, get_or-set_other, get_or-replicate}
use Rattle.std.proofs.lemmas.Bool.{cases_eq, cond-true, cond-false, eq-eqb, ne_eqb}
use Rattle.cores.specs.declared.interface.Request.{Request}
use Rattle.logs.proofs.Arcs.{arcs_more}
use Rattle.logs.proofs.Judging.{written_append}
use Rattle.logs.specs.Lawful.{arcs_in, front, whole}
use Rattle.recorder.proofs.Rooms.{fitting, log_inside, turn_fits, arcs_size}
use Rattle.recorder.specs.Refusals.{log_in, barred, touched}
use Rattle.recorder.specs.Sound.{no_log}
use Rattle.recorder.specs.Turns.{Tape, candidates_for, next_access, new_arcs, entered, headed, headed_from}
use Rattle.recorder.specs.declared.ledger.Log.{Log}
use Rattle.records.proofs.Splices.{length_splice}
use Rattle.records.specs.Format.{LogArc, Entry, arc, end, bytes_of, end_size, written, splice}
use Rattle.records.specs.Settings.{least_begun, fits, log_of, heading_of}
use Rattle.records.specs.declared.settings.Sizes.{Sizes}
use Rattle.reducers.specs.Numbers.{Numbers}
use Rattle.recorded_logs.specs.Held.{HeldLog, Held, surplus, BeginHolds, TurnHolds, SurplusStays}
use Rattle.recorded_logs.proofs.Parts.{log_same, log_other, behind_all, overlay, whole_bytes, front_bytes, front_more}

-- more arcs, and a new end, over the old end
grown : (z : Sizes) (j : ℕ) (log : Log) (bytes old : List ℕ) (body : List Entry) (new : List LogArc) → HeldLog z j log bytes old body →
    log.end + end_size + length (written (map arc new)) ≤ z.log_bytes →
    let k = log.arcs + length new in
    HeldLog z j (record { instructions = log.instructions + 1; arcs = k; end = log.end + length (written (map arc new)) })
    (splice log.end (written (map arc new ++ (end (log.instructions + 1) k ∷ []))) bytes) old (body ++ map arc new)
grown z j log bytes old body new h room =
    let g = heading_of z j in
    let k = log.arcs + length new in
    let F = written (front g body) in
    let A = written (map arc new) in
    let was = bytes_of (end log.instructions (length (arcs_in body))) in
    let E : ℕ → List ℕ = λ i. bytes_of (end (log.instructions + 1) i) in
    let over : written (map arc new ++ (end (log.instructions + 1) k ∷ [])) ≡ A ++ E k = written_append (map arc new) (end (log.instructions + 1) k ∷ []) in
    let long : length (A ++ E k) ≡ length A + end_size = length-append A (E k) in
    let many : k ≡ length (arcs_in (body ++ map arc new)) = omega (arith, h.many, length-append (arcs_in body) new, ap length (arcs_more body new)) in
    let more : written (front g (body ++ map arc new)) ≡ F ++ A = front_more g body new in
    let far : log.end + end_size + (length (A ++ E k) - end_size) ≡ log.end + length A + end_size = omega (arith, long) in
    record {
      many = many;
      place = omega (arith, h.place, ap length more, length-append F A);
      inside = omega arith;
      says =
          ap (λ bs. splice log.end bs bytes) over
          ∙ ap (splice log.end (A ++ E k)) (h.says ∙ ap (λ bs. bs ++ drop (log.end + end_size) old) (whole_bytes g body log.instructions))
          ∙ ap (λ i. splice i (A ++ E k) ((F ++ was) ++ drop (log.end + end_size) old)) h.place
          ∙ overlay F was (A ++ E k) (drop (log.end + end_size) old) (omega (arith, long))
          ∙ ap (λ bs. F ++ ((A ++ E k) ++ bs)) (drop-drop (length (A ++ E k) - end_size) (log.end + end_size) old ∙ ap (λ i. drop i old) far)
          ∙ sym (append_assoc F (A ++ E k) (drop (log.end + length A + end_size) old))
          ∙ ap (λ bs. bs ++ drop (log.end + length A + end_size) old)
          (sym (append_assoc F A (E k)) ∙ ap (λ bs. bs ++ E k) (sym more) ∙ ap (λ i. written (front g (body ++ map arc new)) ++ E i) many
          ∙ sym (whole_bytes g (body ++ map arc new) (log.instructions + 1)));
    }

-- how much j's log grows in a turn
module _ (t : Tape) (j : ℕ) (request : Request) (trail : List Numbers) where
  abbrev new : List LogArc
  new = new_arcs t j request trail

  abbrev log : Log
  log = log_in t.book j

  abbrev put : List ℕ
  put = written (map arc new ++ (end (log.instructions + 1) (log.arcs + length new) ∷ []))

  new_room : (old : List ℕ) (body : List Entry) → fits (length t.store) t.book.sizes ≡ true → j < t.book.sizes.cores → barred t.book j request ≡ 0 →
      Held t old j body → (log.end + end_size + length (written (map arc new)) ≤ t.book.sizes.log_bytes) × (log.end + length put ≤ t.book.sizes.log_bytes)
  new_room old body f here e h =
      let size = arcs_size (next_access t.book j) t.numbers (candidates_for t.book.sizes.cores t.history j (touched request)) trail in
      let under : 6 + 7 * log.arcs ≤ log.end = omega (arith, h.place, h.many, front_bytes (heading_of t.book.sizes j) body) in
      let fit = turn_fits t.book j request e t.history (length t.store) f here under h.inside (length new) size.1 in
      let last = end (log.instructions + 1) (log.arcs + length new) ∷ [] in
      let long = ap length (written_append (map arc new) last) ∙ length-append (written (map arc new)) (written last) in
      (omega (arith, fit.0, size.0), omega (arith, fit.0, size.0, long))

pub turn_holds : TurnHolds
turn_holds t old bodies j request trail m f here four e hold k there =
    let z = t.book.sizes in
    let l = log_in t.book j in
    let fresh = new_arcs t j request trail in
    let l' : Log = record { instructions = l.instructions + 1; arcs = l.arcs + length fresh; end = l.end + length (written (map arc fresh)) } in
    let bs = written (map arc fresh ++ (end (l.instructions + 1) (l.arcs + length fresh) ∷ [])) in
    let room = new_room t j request trail old (bodies j) f here e (hold j here) in
    let z-fits = fitting (length t.store) z f in
    let at : j < length t.book.logs = omega (arith, here, four, z-fits.few) in
    let after = entered t j request trail m in
    elim (cases_eq k j) [
      | inl same ↦
          let g = grown z j l (log_of t.store z j) (log_of old z j) (bodies j) fresh (hold j here) room.0 in
          let g' = subst (λ (x : Log). HeldLog z j x (splice l.end bs (log_of t.store z j)) (log_of old z j) (bodies j ++ map arc fresh)) (sym (get_or-set_same t.book.logs j l' no_log at)) g in
          let own : Held after old j (bodies j ++ map arc fresh) =
          subst (λ (x : List ℕ). HeldLog z j (log_in after.book j) x (log_of old z j) (bodies j ++ map arc fresh)) (sym (log_same z t.store bs j l.end here room.1 z-fits.all)) g'
          in
          subst (λ i. Held after old i (cond (eqb i j) (bodies i ++ map arc fresh) (bodies i))) (sym same)
          (subst (λ (x : List Entry). Held after old j x) (sym (cond-true (eqb j j) (bodies j ++ map arc fresh) (bodies j) (eq-eqb j j refl))) own)
      | inr apart ↦
          let g = subst (λ (x : Log). HeldLog z k x (log_of t.store z k) (log_of old z k) (bodies k)) (sym (get_or-set_other t.book.logs j k l' no_log apart)) (hold k there) in
          let g' = subst (λ (x : List ℕ). HeldLog z k (log_in after.book k) x (log_of old z k) (bodies k)) (sym (log_other z t.store bs j l.end here room.1 z-fits.all k there apart)) g in
          subst (λ (x : List Entry). Held after old k x) (sym (cond-false (eqb k j) (bodies k ++ map arc fresh) (bodies k) (ne_eqb k j apart))) g'
    ]

pub surplus_stays : SurplusStays
surplus_stays t old body j request trail m f here e hold =
    let room = new_room t j request trail old body f here e hold in
    behind_all t.book.sizes t.store (put t j request trail) j (log_in t.book j).end here room.1 (fitting (length t.store) t.book.sizes f).all

-- heads and ends, log by log
module _ (z : Sizes) (long : least_begun ≤ z.log_bytes) where
  abbrev first : ℕ → List ℕ
  first core = written (whole (heading_of z core) [] 0)

  headed_at : (core : ℕ) (store : List ℕ) → headed z core store ≡ splice (core * z.log_bytes + 0) (first core) store
  headed_at core store = let e : core * z.log_bytes ≡ core * z.log_bytes + 0 = omega arith in ap (λ i. splice i (first core) store) e

  module _ (core : ℕ) (store : List ℕ) (here : core < z.cores) (all : z.cores * z.log_bytes ≤ length store) where
    headed_length : length (headed z core store) ≡ length store
    headed_length = length_splice (core * z.log_bytes) (first core) store (omega (arith, log_inside core z.cores z.log_bytes here))

    headed_other : (k : ℕ) → k < z.cores → (k ≡ core → ⊥) → log_of (headed z core store) z k ≡ log_of store z k
    headed_other k there apart = ap (λ q. log_of q z k) (headed_at core store) ∙ log_other z store (first core) core 0 here (omega arith) all k there apart

    headed_own : log_of (headed z core store) z core ≡ first core ++ drop (6 + end_size) (log_of store z core)
    headed_own = ap (λ q. log_of q z core) (headed_at core store) ∙ log_same z store (first core) core 0 here (omega arith) all

    headed_surplus : surplus z (headed z core store) ≡ surplus z store
    headed_surplus = ap (surplus z) (headed_at core store) ∙ behind_all z store (first core) core 0 here (omega arith) all

  headed_past : (m core k : ℕ) (store : List ℕ) → core + m ≤ z.cores → k < core → z.cores * z.log_bytes ≤ length store →
      log_of (headed_from z m core store) z k ≡ log_of store z k
  unfolding headed_from
  headed_past zero core k store h below all = refl
  headed_past (suc m) core k store h below all =
      let here : core < z.cores = omega arith in
      let n = headed_length core store here all in
      headed_past m (core + 1) k (headed z core store) (omega arith) (omega arith) (omega (arith, n, all))
      ∙ headed_other core store here all k (omega arith) (λ q. absurd (omega (arith, q, below)))

  headed_log : (m core k : ℕ) (store : List ℕ) → core + m ≤ z.cores → core ≤ k → k < core + m → z.cores * z.log_bytes ≤ length store →
      log_of (headed_from z m core store) z k ≡ first k ++ drop (6 + end_size) (log_of store z k)
  unfolding headed_from
  headed_log zero core k store h low high all = absurd (omega arith)
  headed_log (suc m) core k store h low high all =
      let here : core < z.cores = omega arith in
      let n = headed_length core store here all in
      let all' : z.cores * z.log_bytes ≤ length (headed z core store) = omega (arith, n, all) in
      elim (cases_eq k core) [
        | inl same ↦
            headed_past m (core + 1) k (headed z core store) (omega arith) (omega (arith, same)) all'
            ∙ subst (λ i. log_of (headed z core store) z i ≡ first i ++ drop (6 + end_size) (log_of store z i)) (sym same) (headed_own core store here all)
        | inr apart ↦
            headed_log m (core + 1) k (headed z core store) (omega arith) (omega (arith, apart)) (omega arith) all'
            ∙ ap (λ bs. first k ++ drop (6 + end_size) bs) (headed_other core store here all k (omega arith) apart)
      ]

  headed_behind : (m core : ℕ) (store : List ℕ) → core + m ≤ z.cores → z.cores * z.log_bytes ≤ length store → surplus z (headed_from z m core store) ≡ surplus z store
  unfolding headed_from
  headed_behind zero core store h all = refl
  headed_behind (suc m) core store h all =
      let here : core < z.cores = omega arith in
      headed_behind m (core + 1) (headed z core store) (omega arith) (omega (arith, headed_length core store here all, all)) ∙ headed_surplus core store here all

pub begin_holds : BeginHolds
begin_holds z store history n f =
    let h = fitting (length store) z f in
    let log : Log = record { instructions = 0; arcs = 0; end = 6 } in
    let begun = headed_from z z.cores 0 store in (
      (λ k there.
          let g : HeldLog z k log (log_of begun z k) (log_of store z k) [] = record {
            many = refl;
            place = refl;
            inside = h.long;
            says = headed_log z h.long z.cores 0 k store (omega arith) (omega arith) (omega (arith, there)) h.all;
          }
          in
          subst (λ (x : Log). HeldLog z k x (log_of begun z k) (log_of store z k) []) (sym (get_or-replicate 4 k log no_log (omega (arith, h.few, there)))) g),
      headed_behind z h.long z.cores 0 store (omega arith) h.all,
    )
