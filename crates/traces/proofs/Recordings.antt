-- After any calls the world is as the recording says.
use Rattle.std.proofs.Common.{◌≡◌, ℕ, zero, suc, true, false, cond, not, List, [], ◌∷◌, map, length, get_or, take, set, replicate, sym, refl, ap, ◌∙◌, subst, inl, inr, arith}
use Rattle.std.proofs.lemmas.List.{length-set, length-take-le, take-replicate}
use Rattle.std.proofs.lemmas.Bool.{cases_Bool, cases_eq, cond-true, cond-false, ne_eqb}
use Rattle.accesses.specs.Histories.{untouched}
use Rattle.cores.specs.Memory.{Rules, Memory, brought, stored, turned as stepped}
use Rattle.recorded_logs.proofs.Held.{begin_holds, turn_holds, surplus_stays}
use Rattle.recorder.specs.Refusals.{Book, number_of}
use Rattle.recorder.specs.Turns.{Tape, World, world, asks, Answered, Begun, begun, fresh_tape, headed_from, refusal, new_arcs, entered, Turned}
use Rattle.recorder.specs.declared.ledger.Log.{Log}
use Rattle.recorder.specs.declared.rules.Refusal.{Refusal}
use Rattle.records.specs.declared.settings.Sizes.{Sizes}
use Rattle.reducers.specs.Numbers.{Numbers, Meets, zeros}
use Rattle.traces.specs.Recording.{Recording, opened, extended, recording_after, Faithful, TracesAreFaithful, NewIsFaithful}
use Rattle.traces.specs.Trace.{none, begins, turns, refused}
use Rattle.recorder.proofs.Passing.{settled_parts, Passed, passed}
use Rattle.traces.proofs.Steps.{refused_turn, accepted_turn, turn_is_plain}
use Rattle.records.proofs.Settling.{begins_settled}
use Rattle.records.specs.Settings.{can_begin}

map_replicate : (f : Log → ℕ) (n : ℕ) (l : Log) → map f (replicate n l) ≡ replicate n (f l)
map_replicate f zero l = refl
map_replicate f (suc n) l = ap (λ xs. f l ∷ xs) (map_replicate f n l)

-- the recorder's side once begin has set it up
abbrev pub fresh : Sizes → Tape → Tape
fresh z t = fresh_tape z (headed_from z z.cores 0 t.store)

module _ (z : Sizes) (cores cells : ℕ) (t : Tape) where
  pub begun_done : can_begin z cores cells (length t.store) ≡ true → begun z cores cells t ≡ record { says = 0 ∷ []; leaves = fresh z t }
  unfolding begun
  begun_done e = cond-true _ _ _ e

  pub begun_refused : can_begin z cores cells (length t.store) ≡ false → begun z cores cells t ≡ record { says = 8 ∷ []; leaves = t }
  unfolding begun
  begun_refused e = cond-false _ _ _ e

-- a refusal of begin is 8, where the sizes do not fit, and changes nothing
pub begun_err : (z : Sizes) (cores cells : ℕ) (t u : Tape) (r : Refusal) → (number_of r ≡ 0 → ⊥) → ◌≡◌ {A = Begun} (record { says = number_of r ∷ []; leaves = u }) (begun z cores cells t) →
    (can_begin z cores cells (length t.store) ≡ false) × (number_of r ≡ 8) × (u ≡ t)
begun_err z cores cells t u r some e =
    elim (cases_Bool (can_begin z cores cells (length t.store))) [
      | inl good ↦ absurd (some (ap (λ (x : Begun). get_or x.says 0 0) (e ∙ begun_done z cores cells t good)))
      | inr bad ↦
          (bad, ap (λ (x : Begun). get_or x.says 0 0) (e ∙ begun_refused z cores cells t bad), ap (λ (x : Begun). x.leaves) (e ∙ begun_refused z cores cells t bad))
    ]

begin_faithful : (z : Sizes) (w : World) → can_begin z (length w.states) (length w.cells) (length w.tape.store) ≡ true →
    Faithful (world (fresh z w.tape) w.cells w.states) (opened z w)
begin_faithful z w e =
    let s = settled_parts z (length w.states) (length w.cells) (length w.tape.store) (begins_settled z (length w.states) (length w.cells) (length w.tape.store) e) in
    let h = begin_holds z w.tape.store (replicate 256 untouched) zeros s.0 in
    let first : Log = record { instructions = 0; arcs = 0; end = 6 } in
    let count : Log → ℕ = λ (l : Log). l.instructions in
    let counts : map count (take z.cores (replicate 4 first)) ≡ replicate (length (take z.cores w.states)) 0 =
    ap (map count) (take-replicate z.cores 4 first s.3)
    ∙ map_replicate count z.cores first
    ∙ ap (λ n. replicate n 0) (sym (length-take-le z.cores w.states s.1))
    in
    record {
      four = refl;
      plain = λ i. record { cells = take z.cells w.cells; states = take z.cores w.states; counts = counts i };
      logs = h.0;
      behind = h.1;
    }

module _ (meets : Meets) (K : Rules) where
  begin_step : (z : Sizes) (v : World) (b : Begun) (r : Recording) → b ≡ begun z (length v.states) (length v.cells) v.tape → Faithful v r →
      Faithful (world b.leaves v.cells v.states) (cond (refused b.says) r (opened z v))
  begin_step z v b r e f =
      let there : Begun → Type 0 = λ x. Faithful (world x.leaves v.cells v.states) (cond (refused x.says) r (opened z v)) in
      elim (cases_Bool (can_begin z (length v.states) (length v.cells) (length v.tape.store))) [
        | inl good ↦ subst there (sym (e ∙ begun_done z (length v.states) (length v.cells) v.tape good)) (begin_faithful z v good)
        | inr bad ↦ subst there (sym (e ∙ begun_refused z (length v.states) (length v.cells) v.tape bad)) f
      ]

  turn_faithful : (j : ℕ) (v : World) (r : Recording) (trail : List Numbers) (m : Numbers) → Passed K j v → Faithful v r →
      let request = asks K j v in
      Faithful (world (entered v.tape j request trail m) (stored request v.cells) (set v.states j (K.after (get_or v.states j []) (brought request v.cells))))
      (extended K r j (new_arcs v.tape j request trail))
  turn_faithful j v r trail m p f =
      let request = asks K j v in
      record {
        four = length-set v.tape.book.logs j _ ∙ f.four;
        plain = turn_is_plain K j v trail m f.four p ∙ ap (λ (x : Memory). stepped K x j) f.plain;
        logs = turn_holds v.tape r.old r.bodies j request trail m p.fitting p.here f.four p.free f.logs;
        behind = surplus_stays v.tape r.old (r.bodies j) j request trail m p.fitting p.here p.free (f.logs j p.here) ∙ f.behind;
      }

  turn_step : (j : ℕ) (v : World) (o : Answered) (t : Turned meets K j v o) (r : Recording) → Faithful v r →
      Faithful o.leaves (cond (refused o.says) r (extended K r j (new_arcs v.tape j (asks K j v) t.trail)))
  turn_step j v o t r f =
      let more = extended K r j (new_arcs v.tape j (asks K j v) t.trail) in
      let there : Answered → Type 0 = λ x. Faithful x.leaves (cond (refused x.says) r more) in
      elim (cases_eq (refusal K j v) 0) [
        | inl e ↦ subst there (sym (accepted_turn meets K j v o t e)) (turn_faithful j v r t.trail t.last (passed K j v e) f)
        | inr never ↦
            let says : refused (refusal K j v ∷ []) ≡ true = ap not (ne_eqb (refusal K j v) 0 never) in
            subst there (sym (refused_turn meets K j v o t never)) (subst (Faithful v) (sym (cond-true (refused (refusal K j v ∷ [])) r more says)) f)
      ]

pub traces_are_faithful : (meets : Meets) → TracesAreFaithful meets
traces_are_faithful meets K w v es r none f = f
traces_are_faithful meets K w v es r (begins {es = fs} {v = u} t z b e) f = begin_step meets K z u b (recording_after t r) e (traces_are_faithful meets K w u fs r t f)
traces_are_faithful meets K w v es r (turns {es = fs} {v = u} t j o g) f = turn_step meets K j u o g (recording_after t r) (traces_are_faithful meets K w u fs r t f)

pub new_is_faithful : NewIsFaithful
new_is_faithful w e =
    record {
      four = ap (λ (b : Book). length b.logs) e;
      plain = ap (λ (b : Book). record {
        cells = take b.sizes.cells w.cells;
        states = take b.sizes.cores w.states;
        counts = map (λ (l : Log). l.instructions) (take b.sizes.cores b.logs);
      }) e;
      logs = λ k h. let none_there : w.tape.book.sizes.cores ≡ 0 = ap (λ (b : Book). b.sizes.cores) e in absurd (omega (arith, h, none_there));
      behind = refl;
    }
