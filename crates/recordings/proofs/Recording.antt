-- An accepted turn of a recorder that tracks the plain memory logs by the rules, and goes on tracking it.
use Rattle.std.proofs.Common.{◌≡◌, ℕ, ◌+◌, ◌<◌, ◌≤◌, true, false, ◌&&◌, ltb, List, [], ◌∷◌, get_or, set, Some, None, MatchBool, Option, sym, refl, ◌∙◌, subst, inl, inr, arith}
use Rattle.std.proofs.lemmas.List.{length-set}
use Rattle.std.proofs.lemmas.Bool.{and_from, lt-ltb, ltb-true, cases_lt, false≢true}
use Rattle.std.specs.List.{AllByRecursion}
use Rattle.accesses.specs.Histories.{candidates_at, remembering}
use Rattle.accesses.specs.declared.access.Access.{Access}
use Rattle.accesses.specs.declared.access.Candidate.{Candidate}
use Rattle.accesses.specs.declared.history.CellHistory.{CellHistory}
use Rattle.access_laws.proofs.Giving.{candidates_are_the_runs}
use Rattle.access_laws.proofs.Recalling.{local_kept, read_kept, write_kept}
use Rattle.access_laws.specs.Recalls as recalls
use Rattle.access_laws.specs.Recalls.{Recalls, given, access_to}
use Rattle.cores.specs.Acting.{within}
use Rattle.cores.specs.Memory.{Rules, brought, stored, outcome, plain, start}
use Rattle.cores.specs.declared.interface.Request.{Request}
use Rattle.cores.specs.declared.interface.Request.TheVariants.{Halt, Local, Read, Write, Exchange}
use Rattle.records.specs.Format.{LogArc}
use Rattle.records.specs.declared.settings.Sizes.{Sizes}
use Rattle.recorder.specs.Judged as judged
use Rattle.recorder.specs.Judged.{arcs_to, last_of}
use Rattle.recorder.specs.Refusals.{halts, touched, log_in}
use Rattle.recorder.specs.Turns as recorder
use Rattle.recorder.specs.Turns.{World, asks, Within, entered, new_arcs, remembered_as}
use Rattle.reducers.specs.declared.interface.AccessKind.{AccessKind}
use Rattle.reducers.specs.declared.interface.AccessKind.TheVariants.{Read as reads, Write as writes}
use Rattle.reducers.specs.Numbers.{Numbers, Meets, noted, core?, cell?}
use Rattle.runs.proofs.CandidatesCover.{cases}
use Rattle.runs.proofs.NewestFirst.{newest_first, given_met}
use Rattle.runs.specs.Candidates as run_candidates
use Rattle.runs.specs.Candidates.{candidates}
use Rattle.runs.specs.PlainRun.{access}
use Rattle.runs.specs.Recording.{In, Arc, Judged, none_left, Noted, turn}
use Rattle.runs.specs.Runs.{Event, Run, ev, local, read, write, done, next}
use Rattle.recordings.specs.ByTheRules.{Logs, next_event}
use Rattle.recordings.specs.Tracks.{run_of, logged, Tracks}
use Rattle.recordings.proofs.Judging.{InRange, judged_is, when_true}
use Rattle.recordings.proofs.Tracking as now
use Rattle.recorder.proofs.Passing.{Passed}

-- a local instruction has no candidates
no_candidates : (r : Run) (j : ℕ) → [] ≡ candidates r (ev j local)
no_candidates r j = (newest_first r (ev j local) []).1 (record { members = λ y. ((λ m. absurd m), (λ q. (cases r (ev j local) y.source.core y q).is)); falls = tt })

-- the candidates of a run of P cores are those of cores below P
candidate_core : (r : Run) (e : Event) (P : ℕ) → ((k : ℕ) → P ≤ k → done r k ≡ 0) → (y : run_candidates.Candidate) → In y (candidates r e) → y.source.core < P
candidate_core r e P few y m =
    let q = (((newest_first r e (candidates r e)).0 refl).members y).0 m in
    let g = given_met r e y.source.core y q in
    elim (cases_lt y.source.core P) [ inl h ↦ h | inr h ↦ absurd (omega (arith, g.some, g.inside, few y.source.core h)) ]

in_range_all : (xs : List (Option Candidate)) → ((y : run_candidates.Candidate) → In y (given xs) → y.source.core < 4) → AllByRecursion InRange xs
in_range_all [] f = tt
in_range_all (None ∷ xs) f = (tt, in_range_all xs f)
in_range_all (Some x ∷ xs) f = (f _ (inl refl), in_range_all xs (λ y m. f y (inr m)))

-- one access more, judged and noted
module _ (meets : Meets) (r : Run) (P j c : ℕ) (k : AccessKind) (history : List CellHistory) (R : Recalls r history) (four : P ≤ 4) (mine : j < P) (inside : c < 256) (few : (k : ℕ) → P ≤ k → done r k ≡ 0) where
  abbrev e : Event
  e = ev j (access_to c k)

  same : given (candidates_at P history c j k) ≡ candidates r e
  same = candidates_are_the_runs r history P j c k R four mine inside few

  access_goes_on : (by : Access) → by.core ≡ j → (N N₂ : Numbers) (trail : List Numbers) (L : List Arc) → judged.Judged meets c j N (candidates_at P history c j k) trail →
      MatchBool (core? j && cell? c) (meets N₂ (noted (last_of N trail) j c k)) (N₂ ≡ last_of N trail) →
      Logs meets r e N L N₂ (logged (next r e) (arcs_to by N (candidates_at P history c j k) trail) L)
  access_goes_on by q N N₂ trail L J D =
      let in_range = in_range_all (candidates_at P history c j k) (λ y m. let h = candidate_core r e P few y (subst (In y) same m) in omega (arith, h, four)) in
      let judge = judged_is meets c j 0 k (omega (arith, mine, four)) inside (next r e) by q L in_range J in
      let met = when_true (core? j && cell? c) _ _ (and_from (core? j) (cell? c) (lt-ltb j 4 (omega (arith, mine, four))) (lt-ltb c 256 inside)) D in
      record {
        between = last_of N trail;
        judged = subst (λ l. Judged meets e (next r e) l N L (last_of N trail) (logged (next r e) (arcs_to by N (candidates_at P history c j k) trail) L)) same judge;
        noted = is_noted k met;
      }
    where
      is_noted : (k : AccessKind) → meets N₂ (noted (last_of N trail) j c k) → Noted meets (ev j (access_to c k)) (last_of N trail) N₂
      is_noted reads h = h
      is_noted writes h = h

module _ (meets : Meets) (K : Rules) (z : Sizes) (cs : List ℕ) (ss : List (List ℕ)) (u : List ℕ) (L : List Arc) (w : World) (t : Tracks meets K z (start cs ss) u L w) (j : ℕ) (p : Passed K j w) where
  abbrev r : Run
  r = run_of K (start cs ss) u

  abbrev by : Access
  by = recorder.next_access w.tape.book j

  abbrev N : Numbers
  N = w.tape.numbers

  abbrev history : List CellHistory
  history = w.tape.history

  mine : j < z.cores
  mine = now.mine meets K z cs ss u L w t j p

  four : z.cores ≤ 4
  four = now.four meets K z cs ss u L w t j p

  below : (c : ℕ) → ltb c z.cells ≡ true → c < 256
  below c h = omega (arith, ltb-true c z.cells h, now.few_cells meets K z cs ss u L w t j p)

  is_next : by ≡ recalls.next_access r j
  is_next = now.access_is meets K z cs ss u L w t j p

  abbrev GoesOn : Request → List Numbers → Numbers → Type 0
  GoesOn q trail last =
      Logs meets r (ev j (access (λ c. c) q)) N L last (logged (next r (ev j (access (λ c. c) q))) (arcs_to by N (recorder.candidates_for z.cores history j (touched q)) trail) L)
      × Recalls (ev j (access (λ c. c) q) ∷ r) (remembered_as history by (touched q))

  goes_on : (q : Request) (trail : List Numbers) (last : Numbers) → halts q ≡ false → within q z.cells ≡ true → Within meets z.cores history j (touched q) N trail last → GoesOn q trail last
  goes_on Halt trail last h k s = absurd (false≢true (sym h))
  goes_on Local trail last h k s =
      (record { between = N; judged = subst (λ l. Judged meets (ev j local) (next r (ev j local)) l N L N L) (no_candidates r j) none_left; noted = s.1 }, local_kept r history t.recalls j)
  goes_on (Read c) trail last h k s = (
    access_goes_on meets r z.cores j c reads history t.recalls four mine (below c k) (now.few meets K z cs ss u L w t j p) by refl N last trail L s.0 s.1,
    subst (λ a. Recalls (ev j (read c) ∷ r) (remembering history c a reads)) (sym is_next) (read_kept r history t.recalls j c (omega (arith, mine, four)) (below c k)),
  )
  goes_on (Write c v) trail last h k s = (
    access_goes_on meets r z.cores j c writes history t.recalls four mine (below c k) (now.few meets K z cs ss u L w t j p) by refl N last trail L s.0 s.1,
    subst (λ a. Recalls (ev j (write c) ∷ r) (remembering history c a writes)) (sym is_next) (write_kept r history t.recalls j c (omega (arith, mine, four)) (below c k)),
  )
  goes_on (Exchange c v) trail last h k s = (
    access_goes_on meets r z.cores j c writes history t.recalls four mine (below c k) (now.few meets K z cs ss u L w t j p) by refl N last trail L s.0 s.1,
    subst (λ a. Recalls (ev j (write c) ∷ r) (remembering history c a writes)) (sym is_next) (write_kept r history t.recalls j c (omega (arith, mine, four)) (below c k)),
  )

  abbrev asked : Request
  asked = asks K j w

  abbrev after_turn : List Numbers → Numbers → World
  after_turn trail last =
      recorder.world (entered w.tape j asked trail last) (stored asked w.cells) (set w.states j (K.after (get_or w.states j []) (brought asked w.cells)))

  abbrev after : Event
  after = next_event K (start cs ss) u j

  -- what is logged, and that the run is still recalled
  pub goes_logging : (trail : List Numbers) (last : Numbers) → Within meets w.tape.book.sizes.cores history j (touched asked) N trail last →
      Logs meets r after N L last (logged (next r after) (new_arcs w.tape j asked trail) L) × Recalls (after ∷ r) (remembered_as history by (touched asked))
  goes_logging trail last s =
      let g = goes_on asked trail last p.runs (now.inside meets K z cs ss u L w t j p) (subst (λ y. Within meets y.cores history j (touched asked) N trail last) t.sizes s) in
      let arcs : Sizes → List LogArc = λ y. arcs_to by N (recorder.candidates_for y.cores history j (touched asked)) trail in
      let there : Sizes → Request → Type 0 = λ y q.
      Logs meets r (ev j (access (λ c. c) q)) N L last (logged (next r (ev j (access (λ c. c) q))) (arcs y) L) × Recalls (ev j (access (λ c. c) q) ∷ r) (remembered_as history by (touched asked)) in
      subst (λ y. there y (outcome K (plain K (start cs ss) u) j).request) (sym t.sizes) (subst (there z) (sym (now.request_is meets K z cs ss u L w t j p)) g)

  pub goes_tracking : (trail : List Numbers) (last : Numbers) → Within meets w.tape.book.sizes.cores history j (touched asked) N trail last →
      Tracks meets K z (start cs ss) (j ∷ u) (logged (next r after) (new_arcs w.tape j asked trail) L) (after_turn trail last)
  goes_tracking trail last s =
      let g = goes_logging trail last s in
      record {
        sizes = t.sizes;
        four = length-set w.tape.book.logs j _ ∙ t.four;
        accepted = (now.is_accepted meets K z cs ss u L w t j p, t.accepted);
        cells = now.cells_after meets K z cs ss u L w t j p;
        states = now.states_after meets K z cs ss u L w t j p;
        counts = λ k h. now.counts_after meets K z cs ss u L w t j p _ _ k h;
        position = omega (arith, t.position);
        recording = turn t.recording g.0.judged g.0.noted;
        recalls = g.1;
      }

  pub count_said : (log_in w.tape.book j).instructions + 1 ≡ (outcome K (plain K (start cs ss) u) j).count
  unfolding outcome
  count_said = omega (arith, t.counts j mine)
