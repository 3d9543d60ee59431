-- In a run of accepted turns a cell holds what was stored to it latest, so that is what a read or an exchange brings.
use Rattle.std.proofs.Common.{◌≡◌, ℕ, ◌<◌, Bool, true, false, cond, ltb, List, [], ◌∷◌, ◌++◌, length, get_or, set, sym, refl, ap, ◌∙◌, subst, inl, inr, arith}
use Rattle.std.proofs.lemmas.List.{get_or-set_same, get_or-set_other}
use Rattle.std.proofs.lemmas.Bool.{and_parts, ltb-true, cases_eq}
use Rattle.cores.specs.declared.interface.Request.{Request}
use Rattle.cores.specs.declared.interface.Request.TheVariants.{Halt, Local, Read, Write, Exchange}
use Rattle.cores.specs.Latest.{Reads, Stores, Latest, ReadsBringTheLatestStore}
use Rattle.cores.specs.Memory.{Rules, Memory, Outcome, brought, stored, able, outcome, effect, turned, accepts, plain, Accepted, outcomes, fed, unrefused, RefusedTurnsChangeNothing}
use Rattle.cores.proofs.Storing.{cells_size}

pub refused_turns_change_nothing : RefusedTurnsChangeNothing
refused_turns_change_nothing K m [] = refl
refused_turns_change_nothing K m ((j, refused) ∷ f) = go refused (refused_turns_change_nothing K m f)
  where
    go : (b : Bool) → fed K m f ≡ plain K m (unrefused f) →
        cond b (fed K m f) (turned K (fed K m f) j) ≡ plain K m (cond b (unrefused f) (j ∷ unrefused f))
    go true q = q
    go false q = ap (λ x. turned K x j) q

reads_number : (r : Request) (c : ℕ) (cells : List ℕ) → Reads r c → brought r cells ≡ get_or cells c 0
reads_number Halt c cells h = absurd h
reads_number Local c cells h = absurd h
reads_number (Read d) c cells h = ap (λ i. get_or cells i 0) h
reads_number (Write d v) c cells h = absurd h
reads_number (Exchange d v) c cells h = ap (λ i. get_or cells i 0) h

reads_within : (r : Request) (c n : ℕ) → Reads r c → able r n ≡ true → c < n
reads_within Halt c n h q = absurd h
reads_within Local c n h q = absurd h
reads_within (Read d) c n h q = omega (arith, ltb-true d n q)
reads_within (Write d v) c n h q = absurd h
reads_within (Exchange d v) c n h q = omega (arith, ltb-true d n q)

-- an instruction more that does not store to the cell
extend : (cells : List ℕ) (e : Outcome) (es : List Outcome) (c n : ℕ) → ((v : ℕ) → Stores e.request c v → ⊥) → Latest cells es c n → Latest cells (e ∷ es) c n
extend cells e es c n ns (inl (u, q)) = inl ((ns, u), q)
extend cells e es c n ns (inr (between, w, before, split, u, s)) = inr (e ∷ between, w, before, ap (λ x. e ∷ x) split, (ns, u), s)

-- a cell after one instruction more
module _ (start cells : List ℕ) (e : Outcome) (es : List Outcome) (c : ℕ) (inside : c < length cells) (l : Latest start es c (get_or cells c 0)) where
  store_one : (d v : ℕ) → ((n : ℕ) → (d ≡ c) × (v ≡ n) → Stores e.request c n) → ((n : ℕ) → Stores e.request c n → d ≡ c) → Latest start (e ∷ es) c (get_or (set cells d v) c 0)
  store_one d v does only = elim (cases_eq c d) [
    | inl q ↦ inr ([], e, es, refl, tt, does (get_or (set cells d v) c 0) (sym q, sym (ap (λ i. get_or (set cells d v) i 0) q ∙ get_or-set_same cells d v 0 (omega arith))))
    | inr q ↦ subst (Latest start (e ∷ es) c) (sym (get_or-set_other cells d c v 0 q)) (extend start e es c (get_or cells c 0) (λ n s. q (sym (only n s))) l)
  ]

  pub after_one : (r : Request) → e.request ≡ r → Latest start (e ∷ es) c (get_or (stored r cells) c 0)
  after_one Halt q = extend start e es c (get_or cells c 0) (λ v s. subst (λ r. Stores r c v) q s) l
  after_one Local q = extend start e es c (get_or cells c 0) (λ v s. subst (λ r. Stores r c v) q s) l
  after_one (Read d) q = extend start e es c (get_or cells c 0) (λ v s. subst (λ r. Stores r c v) q s) l
  after_one (Write d v) q = store_one d v (λ n s. subst (λ r. Stores r c n) (sym q) s) (λ n s. (subst (λ r. Stores r c n) q s).0)
  after_one (Exchange d v) q = store_one d v (λ n s. subst (λ r. Stores r c n) (sym q) s) (λ n s. (subst (λ r. Stores r c n) q s).0)

module _ (K : Rules) (m : Memory) where
  -- what a cell holds after some turns
  holds_latest : (turns : List ℕ) (c : ℕ) → c < length m.cells → Latest m.cells (outcomes K m turns) c (get_or (plain K m turns).cells c 0)
  unfolding outcome effect
  holds_latest [] c h = inl (tt, refl)
  holds_latest (j ∷ t) c h =
      let e = outcome K (plain K m t) j in
      after_one m.cells (plain K m t).cells e (outcomes K m t) c (omega (arith, cells_size K m t)) (holds_latest t c h) e.request refl

  brings_latest : (j : ℕ) (t : List ℕ) → accepts K (plain K m t) j ≡ true → (c : ℕ) → Reads (outcome K (plain K m t) j).request c → Latest m.cells (outcomes K m t) c (outcome K (plain K m t) j).number
  unfolding outcome
  brings_latest j t a c r =
      let p = plain K m t in
      let request = K.next (get_or p.states j []) in
      let inside = reads_within request c (length p.cells) r (and_parts (ltb j (length p.states)) (able request (length p.cells)) a).1 in
      subst (Latest m.cells (outcomes K m t) c) (sym (reads_number request c p.cells r)) (holds_latest t c (omega (arith, cells_size K m t)))

  at_any : (turns : List ℕ) → Accepted K m turns → (later : List Outcome) (e : Outcome) (earlier : List Outcome) → outcomes K m turns ≡ later ++ (e ∷ earlier) →
      (c : ℕ) → Reads e.request c → Latest m.cells earlier c e.number
  at_any [] a [] e earlier q c r = absurd cc
  at_any [] a (x ∷ later) e earlier q c r = absurd cc
  at_any (j ∷ t) a [] e earlier q c r =
      let same : outcome K (plain K m t) j ≡ e = cc in
      let rest : outcomes K m t ≡ earlier = cc in
      subst (λ es. Latest m.cells es c e.number) rest
      (subst (λ e. Reads e.request c → Latest m.cells (outcomes K m t) c e.number) same (brings_latest j t a.0 c) r)
  at_any (j ∷ t) a (x ∷ later) e earlier q c r = let rest : outcomes K m t ≡ later ++ (e ∷ earlier) = cc in at_any t a.1 later e earlier rest c r

pub reads_bring_the_latest_store : ReadsBringTheLatestStore
reads_bring_the_latest_store K m turns a later e earlier q c r = at_any K m turns a later e earlier q c r
