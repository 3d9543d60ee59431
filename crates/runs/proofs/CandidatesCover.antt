-- The candidates of a turn: each is in conflict with it, and together they cover its predecessors.
use Rattle.std.proofs.Common.{◌≡◌, ℕ, ◌≤◌, ◌≢◌, ◌⊎◌, sym, refl, ap, ◌∙◌, subst, inl, inr}
use mathlib.Core.Option.{Option, none, some, some-injective, none-ne-some}
use native.Mathlib.Decide.{ℕ_discrete}
use Rattle.reducers.specs.Numbers.{Numbers, stamp}
use Rattle.reducers.specs.declared.interface.AccessKind.TheVariants.{Read, Write}
use Rattle.runs.specs.Candidates.{Candidate, candidate, last_write, latest_read, made_by, or_else, remembered}
use Rattle.runs.specs.Recording.{place_of}
use Rattle.runs.specs.Runs.{Access, Clash, Conflicting, Event, Instr, Placed, Run, access_of, choose, core_of, ev, local, read, write}
use Rattle.runs.proofs.WorkingOrder.{choose_yes, choose_no, Dep, Pre, Inside, Upto, pre_own, pre_upto, upto_trans, clash_local}
use Rattle.runs.proofs.Remembered.{placed_in, placed_some, placed_core, placed_pre, Split, pre_split, Found, lw_found, lr_found, write_then_read, Touch, ByWrite, ByRead, reached}

-- which remembered access a candidate is

pub record WriteOf (h : Run) (c : ℕ) (y : Candidate) : Type 0 where
  pub kind : y.kind ≡ Write
  pub last : last_write h c ≡ some y.source

pub record ReadOf (h : Run) (c : ℕ) (y : Candidate) : Type 0 where
  pub kind : y.kind ≡ Read
  pub latest : latest_read h c y.source.core ≡ some y.source.count

abbrev pub Is : Run → Access → Candidate → Type 0
Is h local y = ⊥
Is h (read c) y = WriteOf h c y
Is h (write c) y = ReadOf h c y ⊎ WriteOf h c y

made_cases : (h : Run) (c k : ℕ) (y : Candidate) (o : Option Instr) → last_write h c ≡ o → made_by k o ≡ some y →
    (y.source.core ≡ k) × WriteOf h c y
made_cases h c k y none l p = absurd (none-ne-some y p)
made_cases h c k y (some w) l p = go (ℕ_discrete w.core k) p
  where
    go : (d : Dec (w.core ≡ k)) → choose d (some (record { source = w; kind = Write })) none ≡ some y →
        (y.source.core ≡ k) × WriteOf h c y
    go (yes q) r =
        let s : record { source = w; kind = Write } ≡ y = some-injective _ _ r in (
          sym (ap (λ z. z.source.core) s) ∙ q,
          record { kind = sym (ap (λ z. z.kind) s); last = l ∙ ap some (ap (λ z. z.source) s) },
        )
    go (no q) r = absurd (none-ne-some y r)

else_cases : (h : Run) (c k : ℕ) (y : Candidate) (o : Option ℕ) → latest_read h c k ≡ o → or_else k o (last_write h c) ≡ some y →
    (y.source.core ≡ k) × (ReadOf h c y ⊎ WriteOf h c y)
else_cases h c k y none l p =
    let (q, w) = made_cases h c k y (last_write h c) refl p in
    (q, inr w)
else_cases h c k y (some a) l p =
    let s : record { source = record { core = k; count = a }; kind = Read } ≡ y = some-injective _ _ p in (
      sym (ap (λ z. z.source.core) s),
      inl (record {
        kind = sym (ap (λ z. z.kind) s);
        latest = ap (λ i. latest_read h c i) (sym (ap (λ z. z.source.core) s)) ∙ l ∙ ap some (ap (λ z. z.source.count) s);
      }),
    )

remembered_cases : (h : Run) (a : Access) (k : ℕ) (y : Candidate) → remembered h a k ≡ some y → (y.source.core ≡ k) × Is h a y
remembered_cases h local k y p = absurd (none-ne-some y p)
remembered_cases h (read c) k y p = made_cases h c k y (last_write h c) refl p
remembered_cases h (write c) k y p = else_cases h c k y (latest_read h c k) refl p

pub record Sound (h : Run) (e : Event) (k : ℕ) (y : Candidate) : Type 0 where
  pub other : k ≢ core_of e
  pub core : y.source.core ≡ k
  pub is : Is h (access_of e) y

pub cases : (h : Run) (e : Event) (k : ℕ) (y : Candidate) → candidate h e k ≡ some y → Sound h e k y
cases h e k y = go (ℕ_discrete k (core_of e))
  where
    go : (d : Dec (k ≡ core_of e)) → choose d none (remembered h (access_of e) k) ≡ some y → Sound h e k y
    go (yes q) p = absurd (none-ne-some y p)
    go (no q) p = let (r, i) = remembered_cases h (access_of e) k y p in record { other = q; core = r; is = i }

-- a candidate is an instruction of the run, and it precedes e

pub record Met (h : Run) (e : Event) (x : Instr) : Type 0 where
  pub some : 1 ≤ x.count
  pub inside : Inside h x
  pub pre : Pre h e x

-- a candidate stands in the run, in conflict with e
pub record FoundAs (h : Run) (e : Event) (x : Instr) : Type 0 where
  pub position : ℕ
  pub event : Event
  pub placed : Placed h position x event
  pub conflicting : Conflicting event e

found_as : (h : Run) (e : Event) (x : Instr) (a : Access) → x.core ≢ core_of e → Clash a (access_of e) → Found h x a → FoundAs h e x
found_as h e x a n c f = record {
  position = f.position;
  event = f.event;
  placed = f.placed;
  conflicting = (
    (λ q. n (placed_core h f.position x f.event f.placed ∙ q)),
    subst (λ b. Clash b (access_of e)) (sym f.does) c,
  );
}

pub cand_found : (h : Run) (e : Event) (y : Candidate) → y.source.core ≢ core_of e → Is h (access_of e) y → FoundAs h e y.source
cand_found h (ev j local) y n i = absurd i
cand_found h (ev j (read c)) y n i = found_as h (ev j (read c)) y.source (write c) n refl (lw_found h c y.source i.last)
cand_found h (ev j (write c)) y n (inl i) =
    found_as h (ev j (write c)) y.source (read c) n refl (lr_found h c y.source.core y.source.count i.latest)
cand_found h (ev j (write c)) y n (inr i) = found_as h (ev j (write c)) y.source (write c) n refl (lw_found h c y.source i.last)

pub cand_met : (h : Run) (e : Event) (y : Candidate) → y.source.core ≢ core_of e → Is h (access_of e) y → Met h e y.source
cand_met h e y n i =
    let f : FoundAs h e y.source = cand_found h e y n i in
    record {
      some = placed_some h f.position y.source f.event f.placed;
      inside = placed_in h f.position y.source f.event f.placed;
      pre = placed_pre h f.position y.source f.event e f.placed (inr f.conflicting);
    }

-- what holds of the stamps of all remembered accesses holds of a candidate's
pub stamped : (P : (ℕ → ℕ) → Instr → Type 0) (h : Run) (s : Numbers) (a : Access) (y : Candidate) →
    ((c : ℕ) (w : Instr) → last_write h c ≡ some w → P (s.written c) w) →
    ((c k n : ℕ) → latest_read h c k ≡ some n → P (s.read k c) (record { core = k; count = n })) →
    Is h a y → P (stamp s y.source.core (place_of a) y.kind) y.source
stamped P h s local y writes reads i = absurd i
stamped P h s (read c) y writes reads i =
    subst (λ b. P (stamp s y.source.core c b) y.source) (sym i.kind) (writes c y.source i.last)
stamped P h s (write c) y writes reads (inl i) =
    subst (λ b. P (stamp s y.source.core c b) y.source) (sym i.kind) (reads c y.source.core y.source.count i.latest)
stamped P h s (write c) y writes reads (inr i) =
    subst (λ b. P (stamp s y.source.core c b) y.source) (sym i.kind) (writes c y.source i.last)

-- a predecessor of e precedes whatever its core does next, or it is at or before a candidate

pub record ByCand (h : Run) (e : Event) (x : Instr) : Type 0 where
  pub cand : Candidate
  pub given : candidate h e cand.source.core ≡ some cand
  pub upto : Upto h x cand.source

made_some : (k : ℕ) (w : Instr) → w.core ≡ k → made_by k (some w) ≡ some (record { source = w; kind = Write })
made_some k w q = choose_yes (ℕ_discrete w.core k) _ _ q

idle_own : (h : Run) (j : ℕ) (x : Instr) (a : Access) → x.core ≡ j → Found h x a → Pre h (ev j local) x
idle_own h j x a q f = pre_own h (ev j local) x (placed_some h f.position x f.event f.placed)
    (placed_in h f.position x f.event f.placed) q

clash_read : (a : Access) (c : ℕ) → Clash a (read c) → Touch a c
clash_read local c t = t
clash_read (read d) c t = absurd t
clash_read (write d) c t = t

clash_write : (a : Access) (c : ℕ) → Clash a (write c) → Touch a c
clash_write local c t = t
clash_write (read d) c t = t
clash_write (write d) c t = t

by_read_turn : (h : Run) (j c : ℕ) (x : Instr) → ByWrite h c x → Pre h (ev j local) x ⊎ ByCand h (ev j (read c)) x
by_read_turn h j c x b = go (ℕ_discrete b.inst.core j)
  where
    go : Dec (b.inst.core ≡ j) → Pre h (ev j local) x ⊎ ByCand h (ev j (read c)) x
    go (yes q) = inl (pre_upto h (ev j local) x b.inst b.upto (idle_own h j b.inst (write c) q (lw_found h c b.inst b.last)))
    go (no q) = inr (record {
      cand = record { source = b.inst; kind = Write };
      given = choose_no (ℕ_discrete b.inst.core j) _ _ q ∙ ap (made_by b.inst.core) b.last ∙ made_some b.inst.core b.inst refl;
      upto = b.upto;
    })

by_write_turn : (h : Run) (j c : ℕ) (x : Instr) → ByWrite h c x → Pre h (ev j local) x ⊎ ByCand h (ev j (write c)) x
by_write_turn h j c x b = go (ℕ_discrete b.inst.core j) (latest_read h c b.inst.core) refl
  where
    go : Dec (b.inst.core ≡ j) → (o : Option ℕ) → latest_read h c b.inst.core ≡ o →
        Pre h (ev j local) x ⊎ ByCand h (ev j (write c)) x
    go (yes q) o p = inl (pre_upto h (ev j local) x b.inst b.upto (idle_own h j b.inst (write c) q (lw_found h c b.inst b.last)))
    go (no q) none p = inr (record {
      cand = record { source = b.inst; kind = Write };
      given = choose_no (ℕ_discrete b.inst.core j) _ _ q ∙ ap (λ o. or_else b.inst.core o (last_write h c)) p ∙
          ap (made_by b.inst.core) b.last ∙ made_some b.inst.core b.inst refl;
      upto = b.upto;
    })
    go (no q) (some a) p = inr (record {
      cand = record { source = record { core = b.inst.core; count = a }; kind = Read };
      given = choose_no (ℕ_discrete b.inst.core j) _ _ q ∙ ap (λ o. or_else b.inst.core o (last_write h c)) p;
      upto = upto_trans h x b.inst _ b.upto (inr (write_then_read h c a b.inst b.last p));
    })

by_read_source : (h : Run) (j c : ℕ) (x : Instr) (f : Event) → x.core ≢ j → ByRead h c x f → ByCand h (ev j (write c)) x
by_read_source h j c x f n b = record {
  cand = record { source = record { core = x.core; count = b.count }; kind = Read };
  given = choose_no (ℕ_discrete x.core j) _ _ n ∙ ap (λ o. or_else x.core o (last_write h c)) b.latest;
  upto = b.upto;
}

conflict_covered : (h : Run) (e : Event) (p : ℕ) (x : Instr) (f : Event) → Placed h p x f → x.core ≢ core_of e →
    Clash (access_of f) (access_of e) → Pre h (ev (core_of e) local) x ⊎ ByCand h e x
conflict_covered h (ev j local) p x f i n c = absurd (clash_local (access_of f) c)
conflict_covered h (ev j (read d)) p x f i n c = go (reached h d p x f i (clash_read (access_of f) d c))
  where
    go : ByWrite h d x ⊎ ByRead h d x f → Pre h (ev j local) x ⊎ ByCand h (ev j (read d)) x
    go (inl b) = by_read_turn h j d x b
    go (inr b) = absurd (subst (λ a. Clash a (read d)) b.is_read c)
conflict_covered h (ev j (write d)) p x f i n c = go (reached h d p x f i (clash_write (access_of f) d c))
  where
    go : ByWrite h d x ⊎ ByRead h d x f → Pre h (ev j local) x ⊎ ByCand h (ev j (write d)) x
    go (inl b) = by_write_turn h j d x b
    go (inr b) = inr (by_read_source h j d x f n b)

pub covered : (h : Run) (e : Event) (x : Instr) → Pre h e x → Pre h (ev (core_of e) local) x ⊎ ByCand h e x
covered h e x p = go (pre_split h e x p)
  where
    lower : (z : Instr) → Upto h x z → Pre h (ev (core_of e) local) z ⊎ ByCand h e z → Pre h (ev (core_of e) local) x ⊎ ByCand h e x
    lower z u (inl q) = inl (pre_upto h (ev (core_of e) local) x z u q)
    lower z u (inr b) = inr (record { cand = b.cand; given = b.given; upto = upto_trans h x z b.cand.source u b.upto })

    by_dep : (s : Split h e x) → Dep s.event e → Pre h (ev (core_of e) local) x ⊎ ByCand h e x
    by_dep s (inl q) = lower s.inst s.upto (inl (placed_pre h s.position s.inst s.event (ev (core_of e) local) s.placed (inl q)))
    by_dep s (inr (n, c)) = lower s.inst s.upto
        (conflict_covered h e s.position s.inst s.event s.placed
        (λ q. n (sym (placed_core h s.position s.inst s.event s.placed) ∙ q)) c)

    go : Split h e x → Pre h (ev (core_of e) local) x ⊎ ByCand h e x
    go s = by_dep s s.dep
