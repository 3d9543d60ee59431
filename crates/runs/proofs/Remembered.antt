-- The last write and the latest reads of a run, and what they say of the accesses before them.
use Rattle.std.proofs.Common.{◌≡◌, ℕ, suc, ◌≤◌, ◌≢◌, ◌⊎◌, [], ◌∷◌, sym, refl, ap, ◌∙◌, subst, inl, inr, arith}
use mathlib.Core.Option.{none, some, some-injective, none-ne-some}
use native.Mathlib.Decide.{ℕ_discrete}
use Rattle.runs.specs.Candidates.{last_write, latest_read}
use Rattle.runs.specs.Runs.{Access, Clash, Event, Instr, Placed, Run, access_of, choose, core_of, done, ev, local, next, read, turns, write}
use Rattle.runs.proofs.WorkingOrder.{choose_yes, choose_no, Dep, Pre, Bef, Inside, Upto, in_up, in_next, pre_own, same}

-- an instruction of the run

pub placed_in : (h : Run) (p : ℕ) (x : Instr) (f : Event) → Placed h p x f → Inside h x
placed_in [] p x f i = absurd i
placed_in (e ∷ h) p x f (inl i) = in_up e h x (placed_in h p x f i)
placed_in (e ∷ h) p x f (inr (_, q, _)) = in_next e h x q

pub placed_some : (h : Run) (p : ℕ) (x : Instr) (f : Event) → Placed h p x f → 1 ≤ x.count
placed_some [] p x f i = absurd i
placed_some (e ∷ h) p x f (inl i) = placed_some h p x f i
placed_some (e ∷ h) p x f (inr (_, q, _)) = omega (arith, ap (λ z. z.count) q)

pub placed_core : (h : Run) (p : ℕ) (x : Instr) (f : Event) → Placed h p x f → x.core ≡ core_of f
placed_core [] p x f i = absurd i
placed_core (e ∷ h) p x f (inl i) = placed_core h p x f i
placed_core (e ∷ h) p x f (inr (_, q, r)) = ap (λ z. z.core) q ∙ sym (ap core_of r)

pub placed_pre : (h : Run) (p : ℕ) (x : Instr) (f e : Event) → Placed h p x f → Dep f e → Pre h e x
placed_pre [] p x f e i d = absurd i
placed_pre (g ∷ h) p x f e (inl i) d = inl (placed_pre h p x f e i d)
placed_pre (g ∷ h) p x f e (inr (_, q, r)) d = inr (subst (λ z. Dep z e) r d, inl q)

-- a predecessor is at or before some instruction on which e depends at once
pub record Split (h : Run) (e : Event) (x : Instr) : Type 0 where
  pub position : ℕ
  pub inst : Instr
  pub event : Event
  pub placed : Placed h position inst event
  pub dep : Dep event e
  pub upto : Upto h x inst

upto_up : (e : Event) (h : Run) (x y : Instr) → Upto h x y → Upto (e ∷ h) x y
upto_up e h x y (inl q) = inl q
upto_up e h x y (inr b) = inr (inl b)

split_up : (e g : Event) (h : Run) (x : Instr) → Split h e x → Split (g ∷ h) e x
split_up e g h x s = record {
  position = s.position;
  inst = s.inst;
  event = s.event;
  placed = inl s.placed;
  dep = s.dep;
  upto = upto_up g h x s.inst s.upto;
}

pub pre_split : (h : Run) (e : Event) (x : Instr) → Pre h e x → Split h e x
pre_split [] e x p = absurd p
pre_split (g ∷ h) e x (inl p) = split_up e g h x (pre_split h e x p)
pre_split (g ∷ h) e x (inr (d, inl q)) = record {
  position = suc (turns h);
  inst = next h g;
  event = g;
  placed = inr (refl, refl, refl);
  dep = d;
  upto = inl q;
}
pre_split (g ∷ h) e x (inr (d, inr p)) = record {
  position = suc (turns h);
  inst = next h g;
  event = g;
  placed = inr (refl, refl, refl);
  dep = d;
  upto = inr (inr (refl, p));
}

-- what the history functions say of a longer run

pub lw_write : (i d c : ℕ) (h : Run) (w : Instr) → last_write (ev i (write d) ∷ h) c ≡ some w →
    ((d ≡ c) × (w ≡ next h (ev i (write d)))) ⊎ ((d ≢ c) × (last_write h c ≡ some w))
lw_write i d c h w = go (ℕ_discrete d c)
  where
    go : (t : Dec (d ≡ c)) → choose t (some (next h (ev i (write d)))) (last_write h c) ≡ some w →
        ((d ≡ c) × (w ≡ next h (ev i (write d)))) ⊎ ((d ≢ c) × (last_write h c ≡ some w))
    go (yes q) p = inl (q, sym (some-injective _ _ p))
    go (no q) p = inr (q, p)

pub lr_write : (i d c k a : ℕ) (h : Run) → latest_read (ev i (write d) ∷ h) c k ≡ some a → (d ≢ c) × (latest_read h c k ≡ some a)
lr_write i d c k a h = go (ℕ_discrete d c)
  where
    go : (t : Dec (d ≡ c)) → choose t none (latest_read h c k) ≡ some a → (d ≢ c) × (latest_read h c k ≡ some a)
    go (yes q) p = absurd (none-ne-some a p)
    go (no q) p = (q, p)

pub lr_read : (i d c k a : ℕ) (h : Run) → latest_read (ev i (read d) ∷ h) c k ≡ some a →
    ((d ≡ c) × (i ≡ k) × (a ≡ suc (done h i))) ⊎ (((d ≡ c) → (i ≡ k) → ⊥) × (latest_read h c k ≡ some a))
lr_read i d c k a h = go (ℕ_discrete d c) (ℕ_discrete i k)
  where
    go : (t : Dec (d ≡ c)) (u : Dec (i ≡ k)) →
        choose t (choose u (some (suc (done h i))) (latest_read h c k)) (latest_read h c k) ≡ some a →
        ((d ≡ c) × (i ≡ k) × (a ≡ suc (done h i))) ⊎ (((d ≡ c) → (i ≡ k) → ⊥) × (latest_read h c k ≡ some a))
    go (yes q) (yes r) p = inl (q, r, sym (some-injective _ _ p))
    go (yes q) (no r) p = inr ((λ _ y. r y), p)
    go (no q) u p = inr ((λ y _. q y), p)

-- the last write and the latest read are such accesses

pub record Found (h : Run) (x : Instr) (a : Access) : Type 0 where
  pub position : ℕ
  pub event : Event
  pub placed : Placed h position x event
  pub does : access_of event ≡ a

found_up : (e : Event) (h : Run) (x : Instr) (a : Access) → Found h x a → Found (e ∷ h) x a
found_up e h x a f = record { position = f.position; event = f.event; placed = inl f.placed; does = f.does }

found_new : (e : Event) (h : Run) (x : Instr) (a : Access) → x ≡ next h e → access_of e ≡ a → Found (e ∷ h) x a
found_new e h x a p q = record { position = suc (turns h); event = e; placed = inr (refl, p, refl); does = q }

pub lw_found : (h : Run) (c : ℕ) (w : Instr) → last_write h c ≡ some w → Found h w (write c)
lw_found [] c w p = absurd (none-ne-some w p)
lw_found (ev i local ∷ h) c w p = found_up (ev i local) h w (write c) (lw_found h c w p)
lw_found (ev i (read d) ∷ h) c w p = found_up (ev i (read d)) h w (write c) (lw_found h c w p)
lw_found (ev i (write d) ∷ h) c w p = go (λ q. lw_found h c w q) (lw_write i d c h w p)
  where
    go : (last_write h c ≡ some w → Found h w (write c)) →
        ((d ≡ c) × (w ≡ next h (ev i (write d)))) ⊎ ((d ≢ c) × (last_write h c ≡ some w)) → Found (ev i (write d) ∷ h) w (write c)
    go r (inl (q, y)) = found_new (ev i (write d)) h w (write c) y (ap write q)
    go r (inr (q, y)) = found_up (ev i (write d)) h w (write c) (r y)

pub lr_found : (h : Run) (c k a : ℕ) → latest_read h c k ≡ some a → Found h (record { core = k; count = a }) (read c)
lr_found [] c k a p = absurd (none-ne-some a p)
lr_found (ev i local ∷ h) c k a p = found_up (ev i local) h _ (read c) (lr_found h c k a p)
lr_found (ev i (read d) ∷ h) c k a p = go (λ q. lr_found h c k a q) (lr_read i d c k a h p)
  where
    go : (latest_read h c k ≡ some a → Found h (record { core = k; count = a }) (read c)) →
        ((d ≡ c) × (i ≡ k) × (a ≡ suc (done h i))) ⊎ (((d ≡ c) → (i ≡ k) → ⊥) × (latest_read h c k ≡ some a)) →
        Found (ev i (read d) ∷ h) (record { core = k; count = a }) (read c)
    go r (inl (q, y, z)) = found_new (ev i (read d)) h _ (read c) (same _ _ (sym y) z) (ap read q)
    go r (inr (q, y)) = found_up (ev i (read d)) h _ (read c) (r y)
lr_found (ev i (write d) ∷ h) c k a p = found_up (ev i (write d)) h _ (read c) (lr_found h c k a (lr_write i d c k a h p).1)

-- a core's latest read of c comes after its last write of c
pub write_then_read : (h : Run) (c a : ℕ) (w : Instr) → last_write h c ≡ some w → latest_read h c w.core ≡ some a →
    Bef h w (record { core = w.core; count = a })
write_then_read [] c a w p q = absurd (none-ne-some w p)
write_then_read (ev i local ∷ h) c a w p q = inl (write_then_read h c a w p q)
write_then_read (ev i (read d) ∷ h) c a w p q = go (λ y. write_then_read h c a w p y) (lr_read i d c w.core a h q)
  where
    go : (latest_read h c w.core ≡ some a → Bef h w (record { core = w.core; count = a })) →
        ((d ≡ c) × (i ≡ w.core) × (a ≡ suc (done h i))) ⊎ (((d ≡ c) → (i ≡ w.core) → ⊥) × (latest_read h c w.core ≡ some a)) →
        Bef (ev i (read d) ∷ h) w (record { core = w.core; count = a })
    go r (inl (y, z, t)) =
        let f : Found h w (write c) = lw_found h c w p in
        inr (
          same _ _ (sym z) t,
          pre_own h (ev i (read d)) w (placed_some h f.position w f.event f.placed)
              (placed_in h f.position w f.event f.placed) (sym z),
        )
    go r (inr (_, y)) = inl (r y)
write_then_read (ev i (write d) ∷ h) c a w p q = go (λ y z. write_then_read h c a w y z) (lw_write i d c h w p) (lr_write i d c w.core a h q)
  where
    go : (last_write h c ≡ some w → latest_read h c w.core ≡ some a → Bef h w (record { core = w.core; count = a })) →
        ((d ≡ c) × (w ≡ next h (ev i (write d)))) ⊎ ((d ≢ c) × (last_write h c ≡ some w)) →
        (d ≢ c) × (latest_read h c w.core ≡ some a) → Bef (ev i (write d) ∷ h) w (record { core = w.core; count = a })
    go r (inl (y, _)) z = absurd (z.0 y)
    go r (inr (_, y)) z = inl (r y z.1)

-- an access of c is at or before the last write of c, or it is a read at or before its core's latest read since

abbrev pub Touch : Access → ℕ → Type 0
Touch local c = ⊥
Touch (read d) c = d ≡ c
Touch (write d) c = d ≡ c

clash_touch : (a : Access) (c : ℕ) → Touch a c → Clash a (write c)
clash_touch local c t = t
clash_touch (read d) c t = t
clash_touch (write d) c t = t

dep_touch : (f : Event) (i c : ℕ) → Touch (access_of f) c → Dep f (ev i (write c))
dep_touch f i c t = go (ℕ_discrete (core_of f) i)
  where
    go : Dec (core_of f ≡ i) → Dep f (ev i (write c))
    go (yes q) = inl q
    go (no q) = inr (q, clash_touch (access_of f) c t)

pub record ByWrite (h : Run) (c : ℕ) (x : Instr) : Type 0 where
  pub inst : Instr
  pub last : last_write h c ≡ some inst
  pub upto : Upto h x inst

pub record ByRead (h : Run) (c : ℕ) (x : Instr) (f : Event) : Type 0 where
  pub count : ℕ
  pub latest : latest_read h c x.core ≡ some count
  pub upto : Upto h x (record { core = x.core; count = count })
  pub is_read : access_of f ≡ read c

pub reached : (h : Run) (c p : ℕ) (x : Instr) (f : Event) → Placed h p x f → Touch (access_of f) c → ByWrite h c x ⊎ ByRead h c x f
reached [] c p x f i t = absurd i
reached (ev j local ∷ h) c p x f (inl i) t = go (reached h c p x f i t)
  where
    go : ByWrite h c x ⊎ ByRead h c x f → ByWrite (ev j local ∷ h) c x ⊎ ByRead (ev j local ∷ h) c x f
    go (inl b) = inl (record { inst = b.inst; last = b.last; upto = upto_up _ h x _ b.upto })
    go (inr b) = inr (record { count = b.count; latest = b.latest; upto = upto_up _ h x _ b.upto; is_read = b.is_read })
reached (ev j local ∷ h) c p x f (inr (_, _, r)) t = absurd (subst (λ g. Touch (access_of g) c) r t)
reached (ev j (read d) ∷ h) c p x f (inl i) t = go (reached h c p x f i t)
  where
    latest_of : (u : Dec (d ≡ c)) (v : Dec (j ≡ x.core)) (b : ByRead h c x f) →
        (n : ℕ) × (choose u (choose v (some (suc (done h j))) (latest_read h c x.core)) (latest_read h c x.core) ≡ some n) ×
        Upto (ev j (read d) ∷ h) x (record { core = x.core; count = n })
    latest_of (yes q) (yes y) b = (
      suc (done h j),
      refl,
      inr (inr (same _ _ (sym y) refl, pre_own h (ev j (read d)) x (placed_some h p x f i) (placed_in h p x f i) (sym y))),
    )
    latest_of (yes q) (no y) b = (b.count, b.latest, upto_up _ h x _ b.upto)
    latest_of (no q) v b = (b.count, b.latest, upto_up _ h x _ b.upto)

    go : ByWrite h c x ⊎ ByRead h c x f → ByWrite (ev j (read d) ∷ h) c x ⊎ ByRead (ev j (read d) ∷ h) c x f
    go (inl b) = inl (record { inst = b.inst; last = b.last; upto = upto_up _ h x _ b.upto })
    go (inr b) =
        let (n, q, u) = latest_of (ℕ_discrete d c) (ℕ_discrete j x.core) b in
        inr (record { count = n; latest = q; upto = u; is_read = b.is_read })
reached (ev j (read d) ∷ h) c p x f (inr (_, q, r)) t =
    let s : d ≡ c = subst (λ g. Touch (access_of g) c) r t in
    inr (record {
      count = suc (done h j);
      latest = choose_yes (ℕ_discrete d c) _ _ s ∙ choose_yes (ℕ_discrete j x.core) _ _ (sym (ap (λ z. z.core) q));
      upto = inl (same _ _ refl (ap (λ z. z.count) q));
      is_read = ap access_of r ∙ ap read s;
    })
reached (ev j (write d) ∷ h) c p x f (inl i) t = go (ℕ_discrete d c) (reached h c p x f i t)
  where
    go : Dec (d ≡ c) → ByWrite h c x ⊎ ByRead h c x f → ByWrite (ev j (write d) ∷ h) c x ⊎ ByRead (ev j (write d) ∷ h) c x f
    go (yes q) b = inl (record {
      inst = next h (ev j (write d));
      last = choose_yes (ℕ_discrete d c) _ _ q;
      upto = inr (inr (refl, placed_pre h p x f (ev j (write d)) i (dep_touch f j d (subst (λ z. Touch (access_of f) z) (sym q) t))));
    })
    go (no q) (inl b) = inl (record {
      inst = b.inst;
      last = choose_no (ℕ_discrete d c) _ _ q ∙ b.last;
      upto = upto_up _ h x _ b.upto;
    })
    go (no q) (inr b) = inr (record {
      count = b.count;
      latest = choose_no (ℕ_discrete d c) _ _ q ∙ b.latest;
      upto = upto_up _ h x _ b.upto;
      is_read = b.is_read;
    })
reached (ev j (write d) ∷ h) c p x f (inr (_, q, r)) t =
    inl (record {
      inst = next h (ev j (write d));
      last = choose_yes (ℕ_discrete d c) _ _ (subst (λ g. Touch (access_of g) c) r t);
      upto = inl q;
    })
