-- One turn with the exact reducer: it logs the immediate predecessors of other cores, each once, and then the core's row says what precedes it.
use Rattle.std.proofs.Common.{◌≡◌, ℕ, ◌≤◌, ◌≢◌, ◌⊎◌, ◌↔◌, sym, ap, ◌∙◌, subst, inl, inr}
use mathlib.Core.Option.{some}
use Rattle.reducers.specs.Numbers.{Numbers}
use Rattle.runs.specs.Candidates.{Candidate, candidates, last_write, latest_read}
use Rattle.runs.specs.Positions.{Once}
use Rattle.runs.specs.Recording.{In}
use Rattle.runs.specs.Runs.{Event, Instr, Run, access_of, core_of, ev, local}
use Rattle.runs.proofs.Bounds.{stamp_of}
use Rattle.runs.proofs.ExactWalk.{Good, Holds, Stamps, Down, Ready, Cover, Fresh, walked, sources, walk_known, walk_log, walk_once, Some, cover_to, cover_from, Top, fresh_to, fresh_from}
use Rattle.runs.proofs.CandidatesCover.{Is, stamped, Met, cand_met, ByCand, covered}
use Rattle.runs.proofs.WorkingOrder.{Pre, Bef, Upto, pre_upto, pre_down, pre_idle, dep_idle, upto_bef}
use Rattle.runs.proofs.Remembered.{Split, pre_split, placed_core, placed_pre}
use Rattle.runs.proofs.CandidateLists.{listed, listed_met, in_list, sorted}

-- what the numbers say after a run
pub record Inv (h : Run) (s : Numbers) : Type 0 where
  pub knows : (j : ℕ) → Holds s j (Pre h (ev j local))
  pub writes : (c : ℕ) (w : Instr) → last_write h c ≡ some w → Stamps h (s.written c) w
  pub reads : (c k a : ℕ) → latest_read h c k ≡ some a → Stamps h (s.read k c) (record { core = k; count = a })

cand_good : (h : Run) (e : Event) (s : Numbers) (y : Candidate) → Inv h s → y.source.core ≢ core_of e → Is h (access_of e) y →
    Good h (core_of e) (stamp_of s e y) y.source
cand_good h e s y v n i =
    let m : Met h e y.source = cand_met h e y n i in
    record { other = n; some = m.some; inside = m.inside; stamps = stamped (Stamps h) h s (access_of e) y v.writes v.reads i }

-- x is of another core, and an immediate predecessor of e
pub record Fits (h : Run) (e : Event) (x : Instr) : Type 0 where
  pub cores : x.core ≢ core_of e
  pub pre : Pre h e x
  pub direct : (z : Instr) → Bef h x z → Pre h e z → ⊥

idle_down : (h : Run) (e : Event) → Down h (Pre h e)
idle_down h e x y u p = pre_upto h e x y u p

ready : (h : Run) (e : Event) (s : Numbers) → Inv h s → Ready h e s (candidates h e)
ready h e s v y m = cand_good h e s y v (listed h e y m).other (listed h e y m).is

-- what precedes the core's next turn, and is of another core, is before something that does
idle_between : (h : Run) (e : Event) (x : Instr) → x.core ≢ core_of e → Pre h (ev (core_of e) local) x →
    (z : Instr) × Bef h x z × Pre h e z
idle_between h e x n p = go (pre_split h (ev (core_of e) local) x p)
  where
    at : (s : Split h (ev (core_of e) local) x) → core_of s.event ≡ core_of e → Upto h x s.inst → (z : Instr) × Bef h x z × Pre h e z
    at s q (inl r) = absurd (n (ap (λ w. w.core) r ∙ placed_core h s.position s.inst s.event s.placed ∙ q))
    at s q (inr b) = (s.inst, b, placed_pre h s.position s.inst s.event e s.placed (inl q))

    go : Split h (ev (core_of e) local) x → (z : Instr) × Bef h x z × Pre h e z
    go s = at s (dep_idle s.event e s.dep) s.upto

top_fits : (h : Run) (e : Event) (x : Instr) → Top h (Pre h (ev (core_of e) local)) (candidates h e) x → Fits h e x
top_fits h e x t = record {
  cores = λ q. (listed h e t.cand t.mem).other (sym (ap (λ w. w.core) t.is) ∙ q);
  pre = subst (λ w. Pre h e w) (sym t.is) (listed_met h e t.cand t.mem).pre;
  direct = direct;
}
  where
    direct : (z : Instr) → Bef h x z → Pre h e z → ⊥
    direct z b p = go (covered h e z p)
      where
        go : Pre h (ev (core_of e) local) z ⊎ ByCand h e z → ⊥
        go (inl q) = t.out (pre_down h (ev (core_of e) local) x z b q)
        go (inr c) = t.top c.cand (in_list h e z c) (upto_bef h x z c.cand.source b c.upto)

fits_top : (h : Run) (e : Event) (x : Instr) → Fits h e x → Top h (Pre h (ev (core_of e) local)) (candidates h e) x
fits_top h e x f = go (covered h e x f.pre)
  where
    out : Pre h (ev (core_of e) local) x → ⊥
    out p = let (z, b, q) = idle_between h e x f.cores p in f.direct z b q

    top : (z : Candidate) → In z (candidates h e) → Bef h x z.source → ⊥
    top z m b = f.direct z.source b (listed_met h e z m).pre

    at : (b : ByCand h e x) → Upto h x b.cand.source → Top h (Pre h (ev (core_of e) local)) (candidates h e) x
    at b (inl q) = record { cand = b.cand; mem = in_list h e x b; is = q; out = out; top = top }
    at b (inr c) = absurd (top b.cand (in_list h e x b) c)

    go : Pre h (ev (core_of e) local) x ⊎ ByCand h e x → Top h (Pre h (ev (core_of e) local)) (candidates h e) x
    go (inl p) = absurd (out p)
    go (inr b) = at b b.upto

-- a turn logs its immediate predecessors of other cores
pub turn_log : (h : Run) (e : Event) (s : Numbers) → Inv h s → (x : Instr) → In x (sources s e (candidates h e)) ↔ Fits h e x
turn_log h e s v x = (to, from)
  where
    walk : In x (sources s e (candidates h e)) ↔ Fresh h (Pre h (ev (core_of e) local)) (candidates h e) x
    walk = walk_log h e s (Pre h (ev (core_of e) local)) (candidates h e) (idle_down h (ev (core_of e) local))
        (v.knows (core_of e)) (ready h e s v) x

    to : In x (sources s e (candidates h e)) → Fits h e x
    to m = top_fits h e x (fresh_to h (Pre h (ev (core_of e) local)) (candidates h e) x (sorted h e) (walk.0 m))

    from : Fits h e x → In x (sources s e (candidates h e))
    from f = walk.1 (fresh_from h (Pre h (ev (core_of e) local)) (candidates h e) x (sorted h e) (fits_top h e x f))

cover_pre : (h : Run) (e : Event) (x : Instr) → Cover h (Pre h (ev (core_of e) local)) (candidates h e) x ↔ Pre h e x
cover_pre h e x = (λ c. to (cover_to h _ (candidates h e) x c), λ p. cover_from h _ (candidates h e) x (from (covered h e x p)))
  where
    to : Pre h (ev (core_of e) local) x ⊎ Some (candidates h e) (λ y. Upto h x y.source) → Pre h e x
    to (inl p) = pre_idle h e x p
    to (inr s) = pre_upto h e x s.cand.source s.holds (listed_met h e s.cand s.mem).pre

    from : Pre h (ev (core_of e) local) x ⊎ ByCand h e x → Pre h (ev (core_of e) local) x ⊎ Some (candidates h e) (λ y. Upto h x y.source)
    from (inl p) = inl p
    from (inr b) = inr (record { cand = b.cand; mem = in_list h e x b; holds = b.upto })

-- once its candidates are done, the row of e's core says what precedes e
pub taken_row : (h : Run) (e : Event) (s : Numbers) → Inv h s → Holds (walked s e (candidates h e)) (core_of e) (Pre h e)
taken_row h e s v x n o =
    let k : (x.count ≤ (walked s e (candidates h e)).known (core_of e) x.core) ↔ Cover h (Pre h (ev (core_of e) local)) (candidates h e) x =
    walk_known h e s (Pre h (ev (core_of e) local)) (candidates h e) (idle_down h (ev (core_of e) local))
    (v.knows (core_of e)) (ready h e s v) x n o in
    (λ l. (cover_pre h e x).0 (k.0 l), λ p. k.1 ((cover_pre h e x).1 p))

pub turn_once : (h : Run) (e : Event) (s : Numbers) → Inv h s → Once (sources s e (candidates h e))
turn_once h e s v = walk_once h e s (Pre h (ev (core_of e) local)) (candidates h e) (idle_down h (ev (core_of e) local))
    (v.knows (core_of e)) (ready h e s v)
