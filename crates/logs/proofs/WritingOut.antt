-- Logs written out from what was read have their old bytes up to their ends, and nothing else is touched.
use Rattle.std.proofs.Common.{◌≡◌, ℕ, zero, suc, ◌+◌, ◌-◌, ◌*◌, ◌<◌, ◌≤◌, Bool, true, false, cond, ◌&&◌, ltb, leb, List, [], ◌∷◌, ◌++◌, length, get_or, take, drop, Ok, Err, Result, sym, refl, ap, ◌∙◌, subst, inl, inr, mul-le-mul_right, suc-mul, Fits, w8, zero-add, arith}
use Rattle.std.proofs.lemmas.List.{length-append, length-drop, length-take, take_at}
use Rattle.std.proofs.lemmas.Bool.{and_from, and_parts, lt-ltb, le-leb, leb-true, cases_eq, cases_lt}
use Rattle.std.specs.List.{AllByRecursion}
use Rattle.records.specs.declared.settings.Sizes.{Sizes}
use Rattle.records.specs.Faults.{Fault, bad_setting}
use Rattle.records.specs.Format.{Entry, bytes_of, written, splice}
use Rattle.records.specs.Settings.{least_opened, fits, log_of, heading_of}
use Rattle.records.specs.Writing.{Wrote, put_at, behind, write_at}
use Rattle.records.proofs.Splices.{splice_none, splice_splice, length_splice, take_front, drop_behind, drop_within, take_within}
use Rattle.logs.specs.Lawful.{Accepted, whole}
use Rattle.logs.specs.Session.{read_log, session, outcome}
use Rattle.logs.proofs.Paths.{holds_read, holds_few}
use Rattle.logs.proofs.Sessions.{log_octets, few_cores, bytes_octets, read_exactly}
use Rattle.logs.specs.WriteOut.{copied, all_copied, copying, write_session, Restored}

-- the loop over the cores
module _ (store : List ℕ) (z : Sizes) (j : ℕ) (out : List ℕ) where
  copied_next : (k : ℕ) → all_copied store z (suc k) j out ≡ all_copied store z k (j + 1) (copied z j 0 (read_log store z j).entries out)
  unfolding all_copied
  copied_next k = refl

  copied_none : all_copied store z 0 j out ≡ out
  unfolding all_copied
  copied_none = refl

  pub copied_more : j < z.cores → all_copied store z (z.cores - j) j out ≡ all_copied store z (z.cores - (j + 1)) (j + 1) (copied z j 0 (read_log store z j).entries out)
  copied_more h =
      let e : z.cores - j ≡ suc (z.cores - (j + 1)) = omega arith in
      ap (λ k. all_copied store z k j out) e ∙ copied_next (z.cores - (j + 1))

  pub copied_all : z.cores ≤ j → all_copied store z (z.cores - j) j out ≡ out
  copied_all h = let e : z.cores - j ≡ 0 = omega arith in ap (λ k. all_copied store z k j out) e ∙ copied_none

-- a log ends before the next begins
pub log_inside : (i j L : ℕ) → i < j → i * L + L ≤ j * L
log_inside i j L h = let m : suc i * L ≤ j * L = mul-le-mul_right L h in rw (← suc-mul i L) m

-- one record after another is all of them at once
module _ (z : Sizes) (j : ℕ) where
  pub written_at : (out : List ℕ) (at : ℕ) (e : Entry) → fits (length out) z ≡ true → j < z.cores → behind at e ≤ z.log_bytes →
      (write_at out z j at e).store ≡ put_at out z j at e
  written_at out at e f h room =
      ap (λ b. (cond {A = Wrote} b (record { says = 0 ∷ behind at e ∷ []; store = put_at out z j at e }) (record { says = bad_setting; store = out })).store)
      (and_from (fits (length out) z) _ f (and_from (ltb j z.cores) _ (lt-ltb j z.cores h) (le-leb (at + length (bytes_of e)) z.log_bytes room)))

  copied_is : (es : List Entry) (out : List ℕ) (at : ℕ) → fits (length out) z ≡ true → j < z.cores → j * z.log_bytes + z.log_bytes ≤ length out → at + length (written es) ≤ z.log_bytes →
      copied z j at es out ≡ splice (j * z.log_bytes + at) (written es) out
  copied_is [] out at f h inside room = sym (splice_none (j * z.log_bytes + at) out)
  copied_is (e ∷ more) out at f h inside room =
      let L = z.log_bytes in
      let b = j * L + at in
      let size = length-append (bytes_of e) (written more) in
      let fits_one : b + length (bytes_of e) ≤ length out = omega arith in
      let now_is = written_at out at e f h (omega arith) in
      let same = length_splice b (bytes_of e) out fits_one in
      let next : b + length (bytes_of e) ≡ j * L + (at + length (bytes_of e)) = omega arith in
      ap (copied z j (at + length (bytes_of e)) more) now_is
      ∙ copied_is more (splice b (bytes_of e) out) (at + length (bytes_of e)) (ap (λ n. fits n z) same ∙ f) h (omega arith) (omega arith)
      ∙ ap (λ n. splice n (written more) (splice b (bytes_of e) out)) (sym next)
      ∙ splice_splice b (bytes_of e) (written more) out (omega arith)

-- the logs of a store into one of whose logs bytes were put at its front
module _ (z : Sizes) (j : ℕ) (bs out : List ℕ) (room : length bs ≤ z.log_bytes) (inside : j * z.log_bytes + z.log_bytes ≤ length out) where
  abbrev L : ℕ
  L = z.log_bytes

  own_log : log_of (splice (j * L + 0) bs out) z j ≡ bs ++ drop (length bs) (log_of out z j)
  own_log =
      let d = length-drop (j * L) out in
      ap (take L) (drop_within (j * L) 0 bs out (omega arith))
      ∙ take_within L 0 bs (drop (j * L) out) (omega arith) (omega arith)
      ∙ ap (λ n. bs ++ drop n (log_of out z j)) (zero-add (length bs))

  other_log : (i : ℕ) → (i ≡ j → ⊥) → log_of (splice (j * L + 0) bs out) z i ≡ log_of out z i
  other_log i ne = elim (cases_lt i j) [
    | inl h ↦
        (let below = log_inside i j L h in
        let far = j * L - i * L in
        let there : j * L + 0 ≡ i * L + far = omega arith in
        let d = length-drop (i * L) out in
        ap (λ n. take L (drop (i * L) (splice n bs out))) there
        ∙ ap (take L) (drop_within (i * L) far bs out (omega arith))
        ∙ take_front L far bs (drop (i * L) out) (omega arith) (omega arith))
    | inr h ↦ (let above = log_inside j i L (omega arith) in ap (take L) (drop_behind (i * L) (j * L + 0) bs out (omega arith) (omega arith)))
  ]

-- an accepted session, log by log
module _ (store : List ℕ) (z : Sizes) (octets : AllByRecursion (λ b. b < 256) store) (few : z.cores ≤ 4) (counts : List ℕ) (a : Accepted store z counts) where
  abbrev bytes : ℕ → List ℕ
  bytes j = written (whole (heading_of z j) (a.bodies j) (get_or counts j 0))

  entries_are : (j : ℕ) → j < z.cores → (read_log store z j).entries ≡ whole (heading_of z j) (a.bodies j) (get_or counts j 0)
  entries_are j h =
      let o = a.holds j h in
      ap (λ r. r.entries) (holds_read (heading_of z j) (log_of store z j) (a.bodies j) (get_or counts j 0) few (holds_few (heading_of z j) (log_of store z j) (a.bodies j) (get_or counts j 0) (log_octets store z octets few j) o) o)

  bytes_fit : (j : ℕ) → j < z.cores → length (bytes j) ≤ z.log_bytes
  bytes_fit j h =
      let o = a.holds j h in
      omega (arith, ap length o.bytes, length-append (bytes j) o.rest, length-take z.log_bytes (drop (j * z.log_bytes) store))

  -- what stands after the logs from core j on were written into `out`
  record Put (j : ℕ) (out after : List ℕ) : Type 0 where
    size : length after ≡ length out
    earlier : (i : ℕ) → i < j → log_of after z i ≡ log_of out z i
    here : (i : ℕ) → j ≤ i → i < z.cores → log_of after z i ≡ bytes i ++ drop (length (bytes i)) (log_of out z i)
    surplus : drop (z.cores * z.log_bytes) after ≡ drop (z.cores * z.log_bytes) out

  put : (k j : ℕ) (out : List ℕ) → j + k ≡ z.cores → fits (length out) z ≡ true → z.cores * z.log_bytes ≤ length out → Put j out (all_copied store z k j out)
  put zero j out e f room =
      subst (Put j out) (sym (copied_none store z j out)) (record { size = refl; earlier = λ i h. refl; here = λ i h l. absurd (omega arith); surplus = refl })
  put (suc k) j out e f room =
      let L = z.log_bytes in
      let h : j < z.cores = omega arith in
      let inside : j * L + L ≤ length out = omega (arith, log_inside j z.cores L h) in
      let fit = bytes_fit j h in
      let mid = splice (j * L + 0) (bytes j) out in
      let size = length_splice (j * L + 0) (bytes j) out (omega arith) in
      let now_is : copied z j 0 (read_log store z j).entries out ≡ mid =
      ap (λ es. copied z j 0 es out) (entries_are j h) ∙ copied_is z j (whole (heading_of z j) (a.bodies j) (get_or counts j 0)) out 0 f h inside (omega arith) in
      let p = put k (j + 1) mid (omega arith) (ap (λ n. fits n z) size ∙ f) (omega arith) in
      subst (Put j out) (sym (copied_next store z j out k ∙ ap (all_copied store z k (j + 1)) now_is)) (record {
        size = p.size ∙ size;
        earlier = λ i l. p.earlier i (omega arith) ∙ other_log z j (bytes j) out fit inside i (λ q. omega arith);
        here = λ i l u. elim (cases_eq i j) [
          | inl q ↦ subst (λ i. log_of (all_copied store z k (j + 1) mid) z i ≡ bytes i ++ drop (length (bytes i)) (log_of out z i)) (sym q)
              (p.earlier j (omega arith) ∙ own_log z j (bytes j) out fit inside)
          | inr ne ↦ p.here i (omega arith) u ∙ ap (λ x. bytes i ++ drop (length (bytes i)) x) (other_log z j (bytes j) out fit inside i ne)
        ];
        surplus = p.surplus ∙ drop_behind (z.cores * L) (j * L + 0) (bytes j) out (omega (arith, log_inside j z.cores L h)) (omega arith);
      })

  restores : (out : List ℕ) → fits (length out) z ≡ true → z.cores * z.log_bytes ≤ length out → Restored store z out (all_copied store z z.cores 0 out)
  restores out f room =
      let p = put z.cores 0 out (omega arith) f room in
      record {
        counts = counts;
        bodies = a.bodies;
        holds = a.holds;
        bytes = λ j h.
            p.here j (omega arith) h
            ∙ ap (λ x. x ++ drop (length (bytes j)) (log_of out z j)) (sym (ap (take (length (bytes j))) (a.holds j h).bytes ∙ take_at (bytes j) (a.holds j h).rest (length (bytes j)) refl));
        surplus = p.surplus;
      }

room_in : (bytes : ℕ) (z : Sizes) → fits bytes z ≡ true → z.cores * z.log_bytes ≤ bytes
room_in bytes z q =
    let p₁ = (and_parts (leb 1 z.cores) _ q).1 in
    let p₂ = (and_parts (leb z.cores 4) _ p₁).1 in
    let p₃ = (and_parts (leb 1 z.cells) _ p₂).1 in
    let p₄ = (and_parts (leb z.cells 256) _ p₃).1 in
    let p₅ = (and_parts (leb least_opened z.log_bytes) _ p₄).1 in
    let p₆ = (and_parts (leb z.log_bytes 16384) _ p₅).1 in
    leb-true (z.cores * z.log_bytes) bytes p₆

pub write_restores : (store : List ℕ) (z : Sizes) (out : List ℕ) → AllByRecursion (λ b. b < 256) store → (write_session store z out).says ≡ 0 ∷ [] → Restored store z out (write_session store z out).store
write_restores store z out octets = go (fits (length out) z) refl (fits (length store) z) refl (session store z) refl
  where
    go : (b₁ : Bool) → fits (length out) z ≡ b₁ → (b₂ : Bool) → fits (length store) z ≡ b₂ → (r : Result (List ℕ) Fault) → session store z ≡ r →
        (cond {A = Wrote} (b₁ && b₂) (copying store z out r) (record { says = bad_setting; store = out })).says ≡ 0 ∷ [] →
        Restored store z out (cond {A = Wrote} (b₁ && b₂) (copying store z out r) (record { says = bad_setting; store = out })).store
    go true f true t (Ok counts) q e =
        restores store z octets (few_cores (length store) z t) counts
        ((read_exactly store z octets).accepts counts (ap (λ b. cond b (outcome (session store z)) bad_setting) t ∙ ap outcome q)) out f (room_in (length out) z f)
    go true f true t (Err d) q e = absurd cc
    go true f false t r q e = absurd cc
    go false f b₂ t r q e = absurd cc

-- an outcome that is the definition's
pub says_restored : (store : List ℕ) (z : Sizes) (out after says : List ℕ) → ((i : ℕ) → Fits w8 (get_or store i 0)) →
    record { says = says; store = after } ≡ write_session store z out → says ≡ 0 ∷ [] → Restored store z out after
says_restored store z out after says fits q e =
    subst (Restored store z out) (sym (ap (λ w. w.store) q)) (write_restores store z out (bytes_octets store fits) (sym (ap (λ w. w.says) q) ∙ e))
