-- The keep-all reducer logs every candidate, and the pairwise one those that are newer than what was logged between the two cores.
use Rattle.std.proofs.Common.{◌≡◌, ℕ, ◌≤◌, max, Bool, true, false, cond, ◌&&◌, eqb, ltb, List, ◌∷◌, sym, refl, ap, ◌∙◌, subst, inl, inr, arith}
use Rattle.std.proofs.lemmas.Bool.{cond-true, cond-false, lt-ltb, le-ltb}
use Rattle.std.proofs.lemmas.Bool.Decides.{nat_tests}
use Rattle.reducers.specs.declared.interface.AccessKind.{AccessKind}
use Rattle.reducers.specs.declared.interface.AccessKind.TheVariants.{Read, Write}
use Rattle.reducers.specs.Numbers.{Numbers, Meets, zeros, stamp, taken}
use Rattle.reducers.specs.Rows.{KnownOnly}
use Rattle.runs.specs.Runs.{local, read, write, Event, ev, Run, Instr, core_of, access_of, next}
use Rattle.runs.specs.Candidates.{Candidate, candidates}
use Rattle.runs.specs.Recording.{Arc, arc, In, place_of, Judged, none_left, answers_yes, answers_no, Noted, Recording, begin, turn}
use Rattle.runs.specs.Logged.{arcs_from, every_candidate, newer, newer_arcs, every_newer, KeepAllLogsEveryCandidate, PairwiseLogsWhatIsNewer}
use Rattle.runs.proofs.CandidateLists.{listed_met}

-- counts of candidates are from 1
abbrev Counted : List Candidate → Type 0
Counted l = (x : Candidate) → In x l → 1 ≤ x.source.count

counted : (h : Run) (e : Event) → Counted (candidates h e)
counted h e x i = (listed_met h e x i).some

-- keep-all: no number is ever above 0

abbrev None : Meets
None n _ = n ≡ zeros

all_judged : {e : Event} {y : Instr} {l : List Candidate} {N N' : Numbers} {L L' : List Arc} → Judged None e y l N L N' L' → Counted l → N ≡ zeros →
    (L' ≡ arcs_from y l L) × (N' ≡ zeros)
all_judged none_left o z = (refl, z)
all_judged {e} (answers_yes {x} p rest) o z = absurd (omega (arith, o x (inl refl), ap (λ (n : Numbers). n.known (core_of e) x.source.core) z))
all_judged (answers_no p met rest) o z = all_judged rest (λ x i. o x (inr i)) met

all_noted : (e : Event) (N N' : Numbers) → Noted None e N N' → N ≡ zeros → N' ≡ zeros
all_noted (ev j local) N N' q z = q ∙ z
all_noted (ev j (read c)) N N' q z = q
all_noted (ev j (write c)) N N' q z = q

all_logged : {r : Run} {N : Numbers} {L : List Arc} → Recording None r N L → (L ≡ every_candidate r) × (N ≡ zeros)
all_logged begin = (refl, refl)
all_logged (turn {e} {h} {N} {N₁} {N₂} {L} {L₁} before judged note) =
    let p : (L ≡ every_candidate h) × (N ≡ zeros) = all_logged before in
    let q : (L₁ ≡ arcs_from (next h e) (candidates h e) L) × (N₁ ≡ zeros) = all_judged judged (counted h e) p.1 in
    (q.0 ∙ ap (arcs_from (next h e) (candidates h e)) p.0, all_noted e N₁ N₂ note q.1)

pub keep_all_logs_every_candidate : KeepAllLogsEveryCandidate
keep_all_logs_every_candidate r N L rec = (all_logged rec).0

-- pairwise: what is known is what was logged, and no stamp is above 0

record Tracks (N : Numbers) (L : List Arc) : Type 0 where
  knows : (x : Instr) (j : ℕ) → 1 ≤ x.count → newer x j L ≡ ltb (N.known j x.core) x.count
  no_written : (c k : ℕ) → N.written c k ≡ 0
  no_read : (i c k : ℕ) → N.read i c k ≡ 0

no_stamp : (N : Numbers) (L : List Arc) → Tracks N L → (i c : ℕ) (w : AccessKind) (k : ℕ) → stamp N i c w k ≡ 0
no_stamp N L t i c Read k = t.no_read i c k
no_stamp N L t i c Write k = t.no_written c k

more : (i k s t a n here there st : ℕ) (b : Bool) → b ≡ ltb there n → (s ≡ t → here ≡ there) → st ≡ 0 →
    (cond (eqb i k && eqb s t) (ltb a n) true && b) ≡ ltb (cond (eqb t s) (max here (cond (eqb k i) a st)) there) n
more i k s t a n here there st b p q z = grind (arith, nat_tests)

taken_tracks : (h : Run) (e : Event) (x : Candidate) (N N₁ : Numbers) (L : List Arc) → Tracks N L →
    KnownOnly N₁ (taken N x.source.core x.source.count (place_of (access_of e)) x.kind (core_of e)) →
    Tracks N₁ (arc x.source (next h e) ∷ L)
taken_tracks h e x N N₁ L t k = record { knows = knows; no_written = k.no_written; no_read = k.no_read }
  where
    knows : (z : Instr) (j : ℕ) → 1 ≤ z.count →
        newer z j (arc x.source (next h e) ∷ L) ≡ ltb (N₁.known j z.core) z.count
    knows z j o =
        more x.source.core z.core (core_of e) j x.source.count z.count (N.known (core_of e) z.core) (N.known j z.core)
        (stamp N x.source.core (place_of (access_of e)) x.kind z.core) (newer z j L) (t.knows z j o)
        (ap (λ s. N.known s z.core)) (no_stamp N L t x.source.core (place_of (access_of e)) x.kind z.core)
        ∙ ap (λ n. ltb n z.count) (sym (k.known_same j z.core))

newer_judged : (h : Run) {e : Event} {l : List Candidate} {N N' : Numbers} {L L' : List Arc} → Judged KnownOnly e (next h e) l N L N' L' →
    Counted l → Tracks N L → (L' ≡ newer_arcs (next h e) l L) × Tracks N' L'
newer_judged h none_left o t = (refl, t)
newer_judged h {e} (answers_yes {x} {l} {N} {N'} {L} {L'} p rest) o t =
    let known : newer x.source (core_of e) L ≡ false = t.knows x.source (core_of e) (o x (inl refl)) ∙ le-ltb _ _ p in
    let r : (L' ≡ newer_arcs (next h e) l L) × Tracks N' L' = newer_judged h rest (λ z i. o z (inr i)) t in
    (r.0 ∙ sym (ap (newer_arcs (next h e) l) (cond-false (newer x.source (core_of e) L) _ _ known)), r.1)
newer_judged h {e} (answers_no {x} {l} {N} {N₁} {N'} {L} {L'} p met rest) o t =
    let above : newer x.source (core_of e) L ≡ true = t.knows x.source (core_of e) (o x (inl refl)) ∙ lt-ltb _ _ p in
    let r : (L' ≡ newer_arcs (next h e) l (arc x.source (next h e) ∷ L)) × Tracks N' L' =
    newer_judged h rest (λ z i. o z (inr i)) (taken_tracks h e x N N₁ L t met) in
    (r.0 ∙ sym (ap (newer_arcs (next h e) l) (cond-true (newer x.source (core_of e) L) _ _ above)), r.1)

-- a note changes no known number
noted_tracks : (e : Event) (N N' : Numbers) (L : List Arc) → Noted KnownOnly e N N' → Tracks N L → Tracks N' L
noted_tracks (ev j local) N N' L q t = subst (λ n. Tracks n L) (sym q) t
noted_tracks (ev j (read c)) N N' L q t = record {
  knows = λ x s o. t.knows x s o ∙ ap (λ n. ltb n x.count) (sym (q.known_same s x.core));
  no_written = q.no_written;
  no_read = q.no_read;
}
noted_tracks (ev j (write c)) N N' L q t = record {
  knows = λ x s o. t.knows x s o ∙ ap (λ n. ltb n x.count) (sym (q.known_same s x.core));
  no_written = q.no_written;
  no_read = q.no_read;
}

newer_logged : {r : Run} {N : Numbers} {L : List Arc} → Recording KnownOnly r N L → (L ≡ every_newer r) × Tracks N L
newer_logged begin = (refl, record { knows = λ x j o. sym (lt-ltb 0 x.count (omega arith)); no_written = λ c k. refl; no_read = λ i c k. refl })
newer_logged (turn {e} {h} {N} {N₁} {N₂} {L} {L₁} before judged note) =
    let p : (L ≡ every_newer h) × Tracks N L = newer_logged before in
    let q : (L₁ ≡ newer_arcs (next h e) (candidates h e) L) × Tracks N₁ L₁ = newer_judged h judged (counted h e) p.1 in
    (q.0 ∙ ap (newer_arcs (next h e) (candidates h e)) p.0, noted_tracks e N₁ N₂ L₁ note q.1)

pub pairwise_logs_what_is_newer : PairwiseLogsWhatIsNewer
pairwise_logs_what_is_newer r N L rec = (newer_logged rec).0
