-- One candidate after another: the numbers, the arcs and the bytes that judging them leaves.
use Rattle.std.proofs.Common.{◌≡◌, ℕ, ◌+◌, ◌*◌, ◌<◌, ◌≤◌, Bool, true, false, cond, List, [], ◌∷◌, ◌++◌, map, length, get_or, take, Some, None, Option, sym, refl, ap, ◌∙◌, subst, arith}
use Rattle.std.proofs.lemmas.List.{append-nil, append_assoc, length-append, map-append, take_more}
use Rattle.accesses.specs.Histories.{one}
use Rattle.accesses.specs.declared.access.Access.{Access}
use Rattle.accesses.specs.declared.access.Candidate.{Candidate}
use Rattle.logs.proofs.Judging.{written_append}
use Rattle.records.proofs.Splices.{splice_none, splice_splice}
use Rattle.records.specs.Format.{LogArc, arc, written, splice}
use Rattle.records.specs.declared.settings.Sizes.{Sizes}
use Rattle.reducers.specs.Numbers.{Numbers, Meets}
use Rattle.recorder.specs.Judged.{known?, Steps, Judged, none, then, fresh, arcs_to, last_of, moved, Logged}
use Rattle.recorder.specs.declared.arcs.Tail.{Tail}

-- at most one arc, of seven bytes
pub fresh_few : (by : Access) (n : Numbers) (o : Option Candidate) →
    (length (written (map arc (fresh by n o))) ≡ 7 * length (fresh by n o)) × (length (fresh by n o) ≤ one o)
fresh_few by n None = (refl, omega arith)
fresh_few by n (Some x) = go (known? by.core n x)
  where
    go : (v : Bool) →
        let arcs : List LogArc = cond v [] (record { source = x.source.core; count = x.source.count; target = by.count } ∷ []) in
        (length (written (map arc arcs)) ≡ 7 * length arcs) × (length arcs ≤ 1)
    go true = (refl, omega arith)
    go false = (refl, omega arith)

pub arcs_append : (xs ys : List LogArc) → written (map arc (xs ++ ys)) ≡ written (map arc xs) ++ written (map arc ys)
arcs_append xs ys = ap written (map-append arc xs ys) ∙ written_append (map arc xs) (map arc ys)

pub moved_none : (t : Tail) → t ≡ moved t []
moved_none t = let p : t.offset ≡ t.offset + 0 = omega arith in let q : t.arcs ≡ t.arcs + 0 = omega arith in λ i. record { offset = p i; arcs = q i }

moved_moved : (t : Tail) (xs ys : List LogArc) → moved (moved t xs) ys ≡ moved t (xs ++ ys)
moved_moved t xs ys =
    let p : t.offset + length (written (map arc xs)) + length (written (map arc ys)) ≡ t.offset + length (written (map arc (xs ++ ys))) =
    omega (arith, length-append (written (map arc xs)) (written (map arc ys)), ap length (arcs_append xs ys)) in
    let q : t.arcs + length xs + length ys ≡ t.arcs + length (xs ++ ys) = omega (arith, length-append xs ys) in
    λ i. record { offset = p i; arcs = q i }

-- bytes put behind arcs that were put at an offset of the log from `base` on
pub put_put : (base : ℕ) (t : Tail) (xs : List LogArc) (bs store : List ℕ) → base + t.offset ≤ length store →
    splice (base + (moved t xs).offset) bs (splice (base + t.offset) (written (map arc xs)) store) ≡ splice (base + t.offset) (written (map arc xs) ++ bs) store
put_put base t xs bs store h =
    let e : base + (moved t xs).offset ≡ base + t.offset + length (written (map arc xs)) = omega arith in
    ap (λ i. splice i bs (splice (base + t.offset) (written (map arc xs)) store)) e
    ∙ splice_splice (base + t.offset) (written (map arc xs)) bs store h

module _ (meets : Meets) (z : Sizes) (c : ℕ) (by : Access) where
  abbrev base : ℕ
  base = by.core * z.log_bytes

  judged_push : {n : Numbers} {xs : List (Option Candidate)} {ms : List Numbers} (x : Option Candidate) (m : Numbers) → Judged meets c by.core n xs ms →
      Steps meets c by.core (last_of n ms) x m → Judged meets c by.core n (xs ++ x ∷ []) (ms ++ m ∷ [])
  judged_push x m none s = then s none
  judged_push x m (then p l) s = then p (judged_push x m l s)

  last_push : (n : Numbers) (ms : List Numbers) (m : Numbers) → last_of n (ms ++ m ∷ []) ≡ m
  last_push n [] m = refl
  last_push n (k ∷ ms) m = last_push k ms m

  arcs_push : {n : Numbers} {xs : List (Option Candidate)} {ms : List Numbers} (x : Option Candidate) (m : Numbers) → Judged meets c by.core n xs ms →
      arcs_to by n (xs ++ x ∷ []) (ms ++ m ∷ []) ≡ arcs_to by n xs ms ++ fresh by (last_of n ms) x
  arcs_push {n} x m none = append-nil (fresh by n x)
  arcs_push {n} x m (then {m = k} {x = y} {xs = ys} {ms = ks} p l) =
      ap (λ zs. fresh by n y ++ zs) (arcs_push x m l) ∙ sym (append_assoc (fresh by n y) (arcs_to by k ys ks) (fresh by (last_of k ks) x))

  pub logged_none : (n : Numbers) (t : Tail) (store : List ℕ) → Logged meets z c by n [] n t store t store
  logged_none n t store = record { trail = []; judged = none; last = refl; bytes = sym (splice_none (base + t.offset) store); tail = moved_none t }

  logged_push : (n m k : Numbers) (xs : List (Option Candidate)) (x : Option Candidate) (t u v : Tail) (s1 s2 s3 : List ℕ) →
      base + t.offset ≤ length s1 → Logged meets z c by n xs m t s1 u s2 → Steps meets c by.core m x k →
      s3 ≡ splice (base + u.offset) (written (map arc (fresh by m x))) s2 → v ≡ moved u (fresh by m x) → Logged meets z c by n (xs ++ x ∷ []) k t s1 v s3
  logged_push n m k xs x t u v s1 s2 s3 room f s bytes' tail' =
      let ms = f.trail in
      let arcs = arcs_to by n xs ms in
      let step : Steps meets c by.core (last_of n ms) x k = subst (λ q. Steps meets c by.core q x k) f.last s in
      let push = arcs_push x k f.judged in
      let all : arcs_to by n (xs ++ x ∷ []) (ms ++ k ∷ []) ≡ arcs ++ fresh by m x = push ∙ ap (λ q. arcs ++ fresh by q x) (sym f.last) in
      record {
        trail = ms ++ k ∷ [];
        judged = judged_push x k f.judged step;
        last = sym (last_push n ms k);
        bytes =
            bytes'
            ∙ ap (λ (q : Tail). splice (base + q.offset) (written (map arc (fresh by m x))) s2) f.tail
            ∙ ap (splice (base + (moved t arcs).offset) (written (map arc (fresh by m x)))) f.bytes
            ∙ put_put base t arcs (written (map arc (fresh by m x))) s1 room
            ∙ ap (λ bs. splice (base + t.offset) bs s1) (sym (arcs_append arcs (fresh by m x)))
            ∙ ap (λ q. splice (base + t.offset) (written (map arc q)) s1) (sym all);
        tail = tail' ∙ ap (λ (q : Tail). moved q (fresh by m x)) f.tail ∙ moved_moved t arcs (fresh by m x) ∙ ap (moved t) (sym all);
      }

  -- the sizes and the access may be given as what equals them
  pub logged_more : (n m k : Numbers) (xs : List (Option Candidate)) (i : ℕ) (d : Option Candidate) (t u v : Tail) (s1 s2 s3 : List ℕ) (z' : Sizes) (by' : Access) →
      i < length xs → base + t.offset ≤ length s1 → Logged meets z c by n (take i xs) m t s1 u s2 → z' ≡ z → by' ≡ by → Steps meets c by'.core m (get_or xs i d) k →
      s3 ≡ splice (by'.core * z'.log_bytes + u.offset) (written (map arc (fresh by' m (get_or xs i d)))) s2 → v ≡ moved u (fresh by' m (get_or xs i d)) →
      Logged meets z c by n (take (i + 1) xs) k t s1 v s3
  logged_more n m k xs i d t u v s1 s2 s3 z' by' within room f ez eb s bytes' tail' =
      let x = get_or xs i d in
      let step = subst (λ (b : Access). Steps meets c b.core m x k) eb s in
      let bytes = bytes' ∙ (λ i. splice ((eb i).core * (ez i).log_bytes + u.offset) (written (map arc (fresh (eb i) m x))) s2) in
      let tail = tail' ∙ ap (λ (b : Access). moved u (fresh b m x)) eb in
      subst (λ zs. Logged meets z c by n zs k t s1 v s3) (sym (take_more xs i d within)) (logged_push n m k (take i xs) x t u v s1 s2 s3 room f step bytes tail)
