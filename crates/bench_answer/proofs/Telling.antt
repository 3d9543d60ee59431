-- A whole session whose run is listed tells of its turns.
use Rattle.std.proofs.Common.{◌≡◌, ℕ, ◌-◌, true, List, [], ◌∷◌, ◌++◌, map, reverse, length, get_or, Some, None, sym, ap, ◌∙◌, subst, arith}
use Rattle.std.proofs.lemmas.List.{take_all, drop_all, append-nil, length-map}
use Rattle.logs.proofs.Arcs.{arcs_alone}
use Rattle.logs.proofs.StoreArcs.{arcs_held}
use Rattle.logs.specs.Arcs.{RunArc, arcs_by_core}
use Rattle.bench_listing.specs.Lines.{text_of}
use Rattle.bench_listing.specs.Runs.{run_lines}
use Rattle.cores.specs.Memory.{Rules, Memory, start, plain}
use Rattle.recordings.specs.ByTheRules.{ByTheRules}
use Rattle.recordings.specs.Tracks.{logs_of, body_of}
use Rattle.records.specs.Settings.{fits}
use Rattle.records.specs.declared.settings.Sizes.{Sizes}
use Rattle.reducers.specs.Numbers.{Numbers, Meets}
use Rattle.replays.specs.Replies.{carried_out}
use Rattle.sessions.specs.Whole.{Buffers, Answers, TurnsRecorded, Whole, first_memory}
use Rattle.recordings.proofs.Decided.{rules_decide}
use Rattle.recordings.specs.Decided.{arcs_by}
use Rattle.reducers.specs.Decided.{Decides}
use Rattle.runs.specs.Reducers.{Reducer, by_choice}
use Rattle.bench_input.proofs.Finding.{described_so, so_described}
use Rattle.bench_input.specs.Described.{described}
use Rattle.bench_input.specs.Session.{Session}
use Rattle.bench_input.specs.declared.input.Reduction.{Reduction}
use Rattle.bench_answer.specs.Answer.{reducer_for, lines_of, decided_lines, session_lines, bad_text, BadExactly}
use Rattle.bench_answer.specs.Told.{Kept, Told}

module _ (meets : Meets) (K : Rules) (z : Sizes) (turns : List ℕ) (before later : Buffers) (a : Answers) (w : Whole meets K z turns [] before later a)
    (many_cores : length before.states ≡ z.cores) (many_cells : length before.cells ≡ z.cells)
    (fit : fits (length later.store) z ≡ true) where
  abbrev m : Memory
  m = start before.cells before.states

  first_is : first_memory z before ≡ m
  first_is = λ i. start (take_all z.cells before.cells (omega (arith, many_cells)) i) (take_all z.cores before.states (omega (arith, many_cores)) i)

  abbrev r : TurnsRecorded meets K z (first_memory z before) turns a.turns a.numbers before later
  r = w.recorded

  -- the run carries out every accepted turn
  steps_are : (steps : ℕ) → ((n : ℕ) → a.ended ≡ 0 ∷ n ∷ [] → steps ≡ n) → steps ≡ length r.accepted
  steps_are steps f =
      let none : carried_out a.steps ≡ 0 = ap carried_out w.replayed.replied in
      let h = f (length r.accepted - carried_out a.steps) w.replayed.finishes in
      omega (arith, h, none)

  pub keeps : (steps : ℕ) → ((n : ℕ) → a.ended ≡ 0 ∷ n ∷ [] → steps ≡ n) → Kept meets K z m turns later.store later.cells steps
  keeps steps ended =
      let p = plain K (first_memory z before) r.accepted in
      record {
        says = reverse a.turns;
        accepted = r.accepted;
        numbers = a.numbers;
        arcs = r.arcs;
        recorded = subst (λ x. ByTheRules meets K z x (reverse turns) (reverse a.turns) r.accepted a.numbers r.arcs) first_is r.rules;
        logged = arcs_held later.store z fit (λ k. body_of k r.arcs) (λ k. get_or p.counts k 0) (λ k h. (r.logs k h).0)
            ∙ (λ i. arcs_by_core (λ k. arcs_alone (logs_of k r.arcs) i) z.cores);
        left = r.cells ∙ ap (λ l. p.cells ++ l) (drop_all z.cells before.cells (omega (arith, many_cells))) ∙ append-nil p.cells
            ∙ ap (λ (x : Memory). (plain K x r.accepted).cells) first_is;
        replayed = steps_are steps ended;
      }

-- the same by other words for the start, the store and the cells
pub kept_as : (meets : Meets) (K : Rules) (z : Sizes) (turns : List ℕ) (steps : ℕ) (m m' : Memory) (store store' cells cells' : List ℕ) → m ≡ m' → store ≡ store' → cells ≡ cells' →
    Kept meets K z m turns store cells steps → Kept meets K z m' turns store' cells' steps
kept_as meets K z turns steps m m' store store' cells cells' p q r k =
    subst (λ x. Kept meets K z m' turns store' x steps) r
    (subst (λ x. Kept meets K z m' turns x cells steps) q (subst (λ x. Kept meets K z x turns store cells steps) p k))

-- a reducer with one choice tells one text
told_decided : (meets : Meets) (F : Numbers → Numbers) → Decides meets F → (K : Rules) (z : Sizes) (m : Memory) (turns text : List ℕ) → Told meets K z m turns text →
    text ≡ text_of (decided_lines (by_choice F) K z m turns)
told_decided meets F d K z m turns text t =
    let R = by_choice F in
    let k = t.kept in
    let e = rules_decide meets F d K z m (reverse turns) k.says k.accepted k.numbers k.arcs k.recorded in
    t.lines ∙ (λ i. text_of (run_lines (k.logged i) (k.left i) (k.replayed i))) ∙ ap (λ L. text_of (lines_of K z.cores m k.accepted L)) e.1 ∙ ap (λ u. text_of (lines_of K z.cores m u (arcs_by R K m u))) e.0

-- so does the reducer that an input names
pub told_reduced : (meets : Meets) (asked is : Reduction) → asked ≡ is → (F : Numbers → Numbers) → Decides meets F → by_choice F ≡ reducer_for is → (K : Rules) (z : Sizes) (m : Memory) (turns text : List ℕ) → Told meets K z m turns text →
    text ≡ text_of (decided_lines (reducer_for asked) K z m turns)
told_reduced meets asked is q F d same K z m turns text t =
    told_decided meets F d K z m turns text t ∙ ap (λ (R : Reducer). text_of (decided_lines R K z m turns)) same ∙ ap (λ r. text_of (decided_lines (reducer_for r) K z m turns)) (sym q)

-- as many cores as starting items
pub as_many : {X : Type 0} (f : X → List ℕ) (g : ℕ → List ℕ) (row items : List X) (starts : List ℕ) → row ≡ items → map f items ≡ map g starts → length row ≡ length starts
as_many f g row items starts r e = ap length r ∙ sym (length-map items f) ∙ ap length e ∙ length-map starts g

-- the lines of a run are not bad
not_bad : (arcs : List RunArc) (cells : List ℕ) (steps : ℕ) → text_of (run_lines arcs cells steps) ≡ bad_text → ⊥
not_bad [] cells steps e = let q : ◌≡◌ {A = ℕ} 99 98 = ap (λ l. get_or l 0 0) e in omega arith
not_bad (a ∷ arcs) cells steps e = let q : ◌≡◌ {A = ℕ} 97 98 = ap (λ l. get_or l 0 0) e in omega arith

-- an answer to an input that describes a session, and one to an input that describes none
pub answers_session : (input text : List ℕ) (s : Session) → described input ≡ Some s → text ≡ text_of (session_lines s) → BadExactly input text
answers_session input text s d h = record {
  bad = ((λ e x y. not_bad _ _ _ (sym h ∙ e)), (λ none. absurd (none s (described_so input s d))));
  lines = λ x y. let e = so_described input x y in let q : s ≡ x = cc in h ∙ ap (λ z. text_of (session_lines z)) q;
}

pub answers_bad : (input text : List ℕ) → described input ≡ None → text ≡ bad_text → BadExactly input text
answers_bad input text d h = record {
  bad = ((λ e x y. let p = so_described input x y in cc), (λ none. h));
  lines = λ x y. let p = so_described input x y in absurd cc;
}
