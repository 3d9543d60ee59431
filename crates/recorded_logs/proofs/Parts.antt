-- Where in the store a write is seen, and what a log's bytes become when its end is written over.
use Rattle.std.proofs.Common.{◌≡◌, ℕ, ◌+◌, ◌-◌, ◌*◌, ◌<◌, ◌≤◌, List, [], ◌∷◌, ◌++◌, map, length, take, drop, sym, refl, ap, ◌∙◌, inl, inr, arith}
use Rattle.std.proofs.lemmas.List.{append_assoc, length-append, length-drop, drop-drop, drop_at, take_at}
use Rattle.std.proofs.lemmas.Bool.{cases_order}
use Rattle.logs.proofs.Judging.{written_append}
use Rattle.logs.specs.Lawful.{arcs_in, front, whole}
use Rattle.recorder.proofs.Rooms.{log_inside}
use Rattle.records.proofs.Splices.{take_front, drop_behind, drop_within, take_within}
use Rattle.records.specs.Format.{LogArc, Entry, head, arc, end, bytes_of, written, splice}
use Rattle.records.specs.Settings.{log_of}
use Rattle.records.specs.declared.settings.Heading.{Heading}
use Rattle.records.specs.declared.settings.Sizes.{Sizes}

module _ (z : Sizes) (store bs : List ℕ) (j e : ℕ) (here : j < z.cores) (room : e + length bs ≤ z.log_bytes) (all : z.cores * z.log_bytes ≤ length store) where
  abbrev L : ℕ
  L = z.log_bytes

  -- a write inside the log of j changes it as it says
  pub log_same : log_of (splice (j * L + e) bs store) z j ≡ splice e bs (log_of store z j)
  log_same =
      let i = log_inside j z.cores L here in
      let d = length-drop (j * L) store in
      ap (take L) (drop_within (j * L) e bs store (omega (arith, i)))
      ∙ take_within L e bs (drop (j * L) store) room (omega (arith, i, d))

  -- and no other
  pub log_other : (k : ℕ) → k < z.cores → (k ≡ j → ⊥) → log_of (splice (j * L + e) bs store) z k ≡ log_of store z k
  log_other k there apart =
      let i = log_inside j z.cores L here in
      elim (cases_order k j) [
        | inl same ↦ absurd (apart same)
        | inr (inl below) ↦
            let b = log_inside k j L below in
            let d = j * L + e - k * L in
            let is : j * L + e ≡ k * L + d = omega (arith, b) in
            let n = length-drop (k * L) store in
            ap (λ q. take L (drop (k * L) (splice q bs store))) is
            ∙ ap (take L) (drop_within (k * L) d bs store (omega (arith, i, b)))
            ∙ take_front L d bs (drop (k * L) store) (omega (arith, b)) (omega (arith, i, b, n))
        | inr (inr above) ↦
            let b = log_inside j k L above in
            ap (take L) (drop_behind (k * L) (j * L + e) bs store (omega (arith, b)) (omega (arith, i)))
      ]

  -- nor what lies behind all logs
  pub behind_all : drop (z.cores * L) (splice (j * L + e) bs store) ≡ drop (z.cores * L) store
  behind_all =
      let i = log_inside j z.cores L here in
      drop_behind (z.cores * L) (j * L + e) bs store (omega (arith, i)) (omega (arith, i))

-- bytes bs over the shorter bytes es, behind F
pub overlay : (F es bs rest : List ℕ) → length es ≤ length bs → splice (length F) bs ((F ++ es) ++ rest) ≡ F ++ (bs ++ drop (length bs - length es) rest)
overlay F es bs rest h =
    let d = length bs - length es in
    let same : length bs ≡ length es + d = omega arith in
    let far : drop (length F + length bs) (F ++ (es ++ rest)) ≡ drop d rest =
    sym (drop-drop (length bs) (length F) (F ++ (es ++ rest)))
    ∙ ap (drop (length bs)) (drop_at F (es ++ rest) (length F) refl)
    ∙ ap (λ n. drop n (es ++ rest)) same
    ∙ sym (drop-drop d (length es) (es ++ rest))
    ∙ ap (drop d) (drop_at es rest (length es) refl)
    in
    ap (splice (length F) bs) (append_assoc F es rest)
    ∙ ap (λ q. q ++ (bs ++ drop (length F + length bs) (F ++ (es ++ rest)))) (take_at F (es ++ rest) (length F) refl)
    ∙ ap (λ q. F ++ (bs ++ q)) far

-- a body takes at least the bytes of its arcs
body_bytes : (body : List Entry) → 7 * length (arcs_in body) ≤ length (written body)
body_bytes [] = omega arith
body_bytes (head i p n ∷ more) = omega (arith, body_bytes more, length-append (bytes_of (head i p n)) (written more))
body_bytes (arc a ∷ more) = omega (arith, body_bytes more, length-append (bytes_of (arc a)) (written more))
body_bytes (end n k ∷ more) = omega (arith, body_bytes more, length-append (bytes_of (end n k)) (written more))

module _ (g : Heading) where
  pub whole_bytes : (body : List Entry) (n : ℕ) → written (whole g body n) ≡ written (front g body) ++ bytes_of (end n (length (arcs_in body)))
  whole_bytes body n = written_append (front g body) (end n (length (arcs_in body)) ∷ [])

  pub front_bytes : (body : List Entry) → 6 + 7 * length (arcs_in body) ≤ length (written (front g body))
  front_bytes body = omega (arith, body_bytes body)

  pub front_more : (body : List Entry) (new : List LogArc) → written (front g (body ++ map arc new)) ≡ written (front g body) ++ written (map arc new)
  front_more body new = written_append (front g body) (map arc new)
