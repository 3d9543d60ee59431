-- After any calls what is remembered was done, and the logs obey the rules.
use Rattle.std.proofs.Common.{◌≡◌, ℕ, zero, suc, ◌+◌, ◌<◌, ◌≤◌, true, cond, not, ◌&&◌, eqb, ltb, List, [], ◌∷◌, ◌++◌, map, length, get_or, drop, set, replicate, Some, None, Option, sym, refl, ap, ◌∙◌, subst, inl, inr, arith}
use Rattle.std.proofs.lemmas.List.{length-map, get_or-set_same, get_or-set_other}
use Rattle.std.proofs.lemmas.Bool.{cases_Bool, cases_eq, cond_both, cond-true, cond-false, eq-eqb, ne_eqb}
use Rattle.std.specs.List.{AllByRecursion}
use Rattle.accesses.proofs.Order.{Pairwise}
use Rattle.accesses.specs.Histories.{no_reads, no_cell, untouched, remembered}
use Rattle.accesses.specs.declared.access.Access.{Access}
use Rattle.accesses.specs.declared.history.CellHistory.{CellHistory}
use Rattle.cores.specs.Memory.{Rules, brought, stored}
use Rattle.logs.proofs.Arcs.{all_append, arcs_between, arcs_more}
use Rattle.logs.specs.Lawful.{Between, arcs_in, Holds, Lawful}
use Rattle.recorder.proofs.Passing.{Passed, passed}
use Rattle.recorder.specs.Refusals.{Book, log_in, touched, counted_in, started}
use Rattle.recorder.specs.Sound.{no_log}
use Rattle.recorder.specs.Turns.{World, world, asks, Answered, Begun, begun, candidates_for, remembered_as, next_access, new_arcs, entered, refusal, Turned}
use Rattle.recorder.specs.declared.ledger.Log.{Log}
use Rattle.recorder.specs.declared.rules.Touch.{Touch}
use Rattle.records.specs.Format.{LogArc, arc, end_size}
use Rattle.records.specs.Settings.{log_of, heading_of, can_begin}
use Rattle.records.specs.declared.settings.Sizes.{Sizes}
use Rattle.reducers.specs.Numbers.{Numbers, Meets}
use Rattle.reducers.proofs.RowLists.{each_replicate}
use Rattle.reducers.specs.declared.interface.AccessKind.{AccessKind}
use Rattle.reducers.specs.declared.interface.AccessKind.TheVariants.{Read, Write}
use Rattle.traces.proofs.Recordings.{fresh, begun_done, begun_refused, traces_are_faithful}
use Rattle.traces.proofs.Steps.{refused_turn, accepted_turn}
use Rattle.traces.specs.Recording.{Recording, opened, extended, recording_after}
use Rattle.traces.specs.Trace.{none, begins, turns, refused}
use Rattle.lawful_logs.specs.Orderly.{done_by, Done, WriteDone, ReadDone, CellDone, OrderlyLog, Orderly, TracesAreOrderly, NewIsOrderly, OrderlyIsAccepted}
use Rattle.logs.proofs.Rules.{all_map}
use Rattle.lawful_logs.proofs.Arcs.{arcs_target, arcs_done, arcs_lawful, lawful_append}
use Rattle.lawful_logs.proofs.Candidates.{Fit, CoresDiffer, candidates_fit}

-- what holds of a new element and of the one that was there holds wherever one looks
set_cell : (P : CellHistory → Type 0) (cells : List CellHistory) (c d : ℕ) (new : CellHistory) → P new → P (get_or cells d no_cell) → P (get_or (set cells c new) d no_cell)
set_cell P [] c d new p q = q
set_cell P (x ∷ xs) zero zero new p q = p
set_cell P (x ∷ xs) zero (suc d) new p q = q
set_cell P (x ∷ xs) (suc c) zero new p q = q
set_cell P (x ∷ xs) (suc c) (suc d) new p q = set_cell P xs c d new p q

set_read : (Q : ℕ → Option Access → Type 0) (reads : List (Option Access)) (k i : ℕ) (new : Option Access) → Q k new → Q i (get_or reads i None) → Q i (get_or (set reads k new) i None)
set_read Q [] k i new p q = q
set_read Q (x ∷ xs) zero zero new p q = p
set_read Q (x ∷ xs) zero (suc i) new p q = q
set_read Q (x ∷ xs) (suc k) zero new p q = q
set_read Q (x ∷ xs) (suc k) (suc i) new p q = set_read (λ n. Q (suc n)) xs k i new p q

no_read : (b : Book) (i : ℕ) → ReadDone b i (get_or no_reads i None)
no_read b zero = tt
no_read b (suc zero) = tt
no_read b (suc (suc zero)) = tt
no_read b (suc (suc (suc zero))) = tt
no_read b (suc (suc (suc (suc i)))) = tt

none_remembered : (b : Book) (c : ℕ) → CellDone b (get_or (replicate 256 untouched) c no_cell)
none_remembered b = each_replicate (CellDone b) untouched no_cell (no_read b, tt) ((λ i. tt), tt) 256

none_done : (z : Sizes) (k : ℕ) → done_by (started z) k ≡ 0
none_done z = each_replicate (λ l. l.instructions ≡ 0) (record { instructions = 0; arcs = 0; end = 6 }) no_log refl refl 4

-- more may be done
module _ (b b' : Book) (grows : (k : ℕ) → done_by b k ≤ done_by b' k) where
  read_more : (i : ℕ) (o : Option Access) → ReadDone b i o → ReadDone b' i o
  read_more i None d = tt
  read_more i (Some a) d = (d.0, (d.1.0, omega (arith, d.1.1, grows a.core)))

  write_more : (o : Option Access) → WriteDone b o → WriteDone b' o
  write_more None d = tt
  write_more (Some a) d = (d.0, omega (arith, d.1, grows a.core))

  cell_more : (h : CellHistory) → CellDone b h → CellDone b' h
  cell_more h d = ((λ i. read_more i (get_or h.reads i None) (d.0 i)), write_more h.last_write d.1)

  reached_more : (k : ℕ) (arcs : List LogArc) → AllByRecursion (λ a. a.target ≤ done_by b k) arcs → AllByRecursion (λ a. a.target ≤ done_by b' k) arcs
  reached_more k arcs = all_map (λ a. a.target ≤ done_by b k) (λ a. a.target ≤ done_by b' k) arcs (λ a h. omega (arith, h, grows k))

  sources_more : (arcs : List LogArc) → AllByRecursion (λ a. a.count ≤ done_by b a.source) arcs → AllByRecursion (λ a. a.count ≤ done_by b' a.source) arcs
  sources_more arcs = all_map (λ a. a.count ≤ done_by b a.source) (λ a. a.count ≤ done_by b' a.source) arcs (λ a h. omega (arith, h, grows a.source))

-- an access that was done is remembered
module _ (b : Book) (by : Access) (d : Done b by.core by.count) where
  remembered_done : (h : CellHistory) (w : AccessKind) → CellDone b h → CellDone b (remembered h by w)
  remembered_done h Write c = (no_read b, d)
  remembered_done h Read c = ((λ i. set_read (ReadDone b) h.reads by.core i (Some by) (refl, d) (c.0 i)), c.1)

  remembering_done : (cells : List CellHistory) (touch : Option Touch) → ((c : ℕ) → CellDone b (get_or cells c no_cell)) →
      (c : ℕ) → CellDone b (get_or (remembered_as cells by touch) c no_cell)
  remembering_done cells None all = all
  remembering_done cells (Some t) all =
      cond_both (ltb by.core 4 && ltb t.cell 256) (set cells t.cell (remembered (get_or cells t.cell no_cell) by t.kind)) cells
      (λ cs. (c : ℕ) → CellDone b (get_or cs c no_cell))
      (λ _ c. set_cell (CellDone b) cells t.cell c (remembered (get_or cells t.cell no_cell) by t.kind) (remembered_done (get_or cells t.cell no_cell) t.kind (all t.cell)) (all c))
      (λ _. all)

-- one more instruction of j
module _ (b : Book) (j arcs end : ℕ) (at : j < length b.logs) where
  abbrev later : Book
  later = counted_in b j arcs end

  abbrev new : Log
  new = record { instructions = (log_in b j).instructions + 1; arcs = arcs; end = end }

  own : done_by later j ≡ done_by b j + 1
  own = ap (λ (l : Log). l.instructions) (get_or-set_same b.logs j new no_log at)

  others : (k : ℕ) → (k ≡ j → ⊥) → done_by later k ≡ done_by b k
  others k n = ap (λ (l : Log). l.instructions) (get_or-set_other b.logs j k new no_log n)

  grows : (k : ℕ) → done_by b k ≤ done_by later k
  grows k = elim (cases_eq k j) [
    | inl e ↦ let is : done_by later k ≡ done_by b k + 1 = ap (done_by later) e ∙ own ∙ ap (λ i. done_by b i + 1) (sym e) in omega (arith, is)
    | inr n ↦ omega (arith, others k n)
  ]

fit_for : (b : Book) (j : ℕ) (history : List CellHistory) (touch : Option Touch) → ((c : ℕ) → CellDone b (get_or history c no_cell)) →
    AllByRecursion (Fit b b.sizes.cores j) (candidates_for b.sizes.cores history j touch) × Pairwise CoresDiffer (candidates_for b.sizes.cores history j touch)
fit_for b j history None all = (tt, tt)
fit_for b j history (Some t) all = candidates_fit b b.sizes.cores j history t.cell t.kind (all t.cell)

turn_orderly : (K : Rules) (j : ℕ) (v : World) (r : Recording) (trail : List Numbers) (m : Numbers) → length v.tape.book.logs ≡ 4 → Passed K j v → Orderly v r →
    let request = asks K j v in
    Orderly (world (entered v.tape j request trail m) (stored request v.cells) (set v.states j (K.after (get_or v.states j []) (brought request v.cells))))
    (extended K r j (new_arcs v.tape j request trail))
turn_orderly K j v r trail m four p o =
    let b = v.tape.book in
    let request = asks K j v in
    let by = next_access b j in
    let fresh-arcs = new_arcs v.tape j request trail in
    let b' = (entered v.tape j request trail m).book in
    let at : j < length b.logs = omega (arith, p.few, p.here, four) in
    let k = (log_in b j).arcs + length fresh-arcs in
    let more : (i : ℕ) → done_by b i ≤ done_by b' i = grows b j k _ at in
    let one : done_by b' j ≡ done_by b j + 1 = own b j k _ at in
    let some : 0 < by.count = omega arith in
    let xs = candidates_for b.sizes.cores v.tape.history j (touched request) in
    let fit = fit_for b j v.tape.history (touched request) o.remembered in
    let here = o.logs j p.here in
    let targets = arcs_target by v.tape.numbers xs trail in
    let body = r.bodies j in
    let sum = arcs_more body fresh-arcs in
    let own_log : OrderlyLog b' j (body ++ map arc fresh-arcs) = record {
      lawful = record {
        between = all_append Between body (map arc fresh-arcs) here.lawful.between (arcs_between fresh-arcs);
        lawful = subst (Lawful (heading_of b.sizes j)) (sym sum) (lawful_append (heading_of b.sizes j) (arcs_in body) fresh-arcs (done_by b j) here.lawful.lawful here.reached
            (arcs_lawful b by some v.tape.numbers xs trail fit.0 fit.1)
            (all_map (λ a. a.target ≡ by.count) (λ a. done_by b j < a.target) fresh-arcs (λ a e. omega (arith, e)) targets));
      };
      reached = subst (AllByRecursion (λ a. a.target ≤ done_by b' j)) (sym sum) (all_append (λ a. a.target ≤ done_by b' j) (arcs_in body) fresh-arcs (reached_more b b' more j (arcs_in body) here.reached)
          (all_map (λ a. a.target ≡ by.count) (λ a. a.target ≤ done_by b' j) fresh-arcs (λ a e. omega (arith, e, one)) targets));
      sources = subst (AllByRecursion (λ a. a.count ≤ done_by b' a.source)) (sym sum) (all_append (λ a. a.count ≤ done_by b' a.source) (arcs_in body) fresh-arcs (sources_more b b' more (arcs_in body) here.sources)
          (sources_more b b' more fresh-arcs (arcs_done b by some v.tape.numbers xs trail fit.0)));
    }
    in
    record {
      remembered = remembering_done b' by (some, omega (arith, one)) v.tape.history (touched request) (λ c. cell_more b b' more (get_or v.tape.history c no_cell) (o.remembered c));
      logs = λ i h. elim (cases_eq i j) [
        | inl same ↦
            subst (λ n. OrderlyLog b' n (cond (eqb n j) (r.bodies n ++ map arc fresh-arcs) (r.bodies n))) (sym same)
            (subst (OrderlyLog b' j) (sym (cond-true (eqb j j) (r.bodies j ++ map arc fresh-arcs) (r.bodies j) (eq-eqb j j refl))) own_log)
        | inr apart ↦
            let l = o.logs i h in
            subst (OrderlyLog b' i) (sym (cond-false (eqb i j) (r.bodies i ++ map arc fresh-arcs) (r.bodies i) (ne_eqb i j apart)))
            (record { lawful = l.lawful; reached = reached_more b b' more i (arcs_in (r.bodies i)) l.reached; sources = sources_more b b' more (arcs_in (r.bodies i)) l.sources })
      ];
      idle = λ i h. others b j k _ at i (λ e. omega (arith, e, h, p.here)) ∙ o.idle i h;
    }

begin_orderly : (z : Sizes) (v : World) → Orderly (world (fresh z v.tape) v.cells v.states) (opened z v)
begin_orderly z v = record {
  remembered = none_remembered (started z);
  logs = λ k h. record { lawful = record { between = tt; lawful = tt }; reached = tt; sources = tt };
  idle = λ k h. none_done z k;
}

module _ (meets : Meets) (K : Rules) where
  begin_step : (z : Sizes) (v : World) (b : Begun) (r : Recording) → b ≡ begun z (length v.states) (length v.cells) v.tape → Orderly v r →
      Orderly (world b.leaves v.cells v.states) (cond (refused b.says) r (opened z v))
  begin_step z v b r e o =
      let there : Begun → Type 0 = λ x. Orderly (world x.leaves v.cells v.states) (cond (refused x.says) r (opened z v)) in
      elim (cases_Bool (can_begin z (length v.states) (length v.cells) (length v.tape.store))) [
        | inl good ↦ subst there (sym (e ∙ begun_done z (length v.states) (length v.cells) v.tape good)) (begin_orderly z v)
        | inr bad ↦ subst there (sym (e ∙ begun_refused z (length v.states) (length v.cells) v.tape bad)) o
      ]

  turn_step : (j : ℕ) (v : World) (a : Answered) (t : Turned meets K j v a) (r : Recording) → length v.tape.book.logs ≡ 4 → Orderly v r →
      Orderly a.leaves (cond (refused a.says) r (extended K r j (new_arcs v.tape j (asks K j v) t.trail)))
  turn_step j v a t r four o =
      let longer = extended K r j (new_arcs v.tape j (asks K j v) t.trail) in
      let there : Answered → Type 0 = λ x. Orderly x.leaves (cond (refused x.says) r longer) in
      elim (cases_eq (refusal K j v) 0) [
        | inl e ↦ subst there (sym (accepted_turn meets K j v a t e)) (turn_orderly K j v r t.trail t.last four (passed K j v e) o)
        | inr never ↦
            let says : refused (refusal K j v ∷ []) ≡ true = ap not (ne_eqb (refusal K j v) 0 never) in
            subst there (sym (refused_turn meets K j v a t never)) (subst (Orderly v) (sym (cond-true (refused (refusal K j v ∷ [])) r longer says)) o)
      ]

pub traces_are_orderly : (meets : Meets) → TracesAreOrderly meets
traces_are_orderly meets K w v es r none f o = o
traces_are_orderly meets K w v es r (begins {es = fs} {v = u} t z b e) f o = begin_step meets K z u b (recording_after t r) e (traces_are_orderly meets K w u fs r t f o)
traces_are_orderly meets K w v es r (turns {es = fs} {v = u} t j a g) f o =
    turn_step meets K j u a g (recording_after t r) (traces_are_faithful meets K w u fs r t f).four (traces_are_orderly meets K w u fs r t f o)

pub new_is_orderly : NewIsOrderly
new_is_orderly w e h = record {
  remembered = subst (λ (cells : List CellHistory). (c : ℕ) → CellDone w.tape.book (get_or cells c no_cell)) (sym h) (none_remembered w.tape.book);
  logs = λ k q. let nothing : w.tape.book.sizes.cores ≡ 0 = ap (λ (b : Book). b.sizes.cores) e in absurd (omega (arith, q, nothing));
  idle = λ k q. ap (λ (b : Book). done_by b k) e ∙ none_done w.tape.book.sizes k;
}

pub counts_at : (logs : List Log) (i : ℕ) → get_or (map (λ (l : Log). l.instructions) logs) i 0 ≡ (get_or logs i no_log).instructions
counts_at [] i = refl
counts_at (l ∷ logs) zero = refl
counts_at (l ∷ logs) (suc i) = counts_at logs i

pub orderly_is_accepted : OrderlyIsAccepted
orderly_is_accepted w r f o =
    let b = w.tape.book in
    let counts = map (λ (l : Log). l.instructions) b.logs in (
      record {
        bodies = r.bodies;
        holds = λ j h.
            let l = o.logs j h in
            let held = f.logs j h in
            let is : Holds (heading_of b.sizes j) (log_of w.tape.store b.sizes j) (r.bodies j) (done_by b j) =
            record { lawful = l.lawful; reached = l.reached; rest = drop ((log_in b j).end + end_size) (log_of r.old b.sizes j); bytes = held.says }
            in
            subst (Holds (heading_of b.sizes j) (log_of w.tape.store b.sizes j) (r.bodies j)) (sym (counts_at b.logs j)) is;
        sources = λ j h. all_map (λ a. a.count ≤ done_by b a.source) (λ a. a.count ≤ get_or counts a.source 0) (arcs_in (r.bodies j))
            (λ a q. omega (arith, q, counts_at b.logs a.source)) (o.logs j h).sources;
        four = length-map b.logs (λ (l : Log). l.instructions) ∙ f.four;
        others = λ j h. counts_at b.logs j ∙ o.idle j h;
      },
      refl,
    )
