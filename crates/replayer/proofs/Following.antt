-- An accepted opening follows its logs, a step reads exactly the arcs to its core's next instruction, and steps and runs follow on.
use Rattle.std.proofs.Common.{◌≡◌, ℕ, zero, suc, ◌+◌, ◌<◌, ◌≤◌, Bool, true, false, cond, eqb, ltb, List, [], ◌∷◌, length, get_or, set, None, Ok, Err, Result, sym, refl, ap, ◌∙◌, subst, inl, inr, arith}
use Rattle.std.specs.List.{AllByRecursion}
use Rattle.std.proofs.lemmas.List.{get_or-set_same, get_or-set_other, length-set}
use Rattle.std.proofs.lemmas.Bool.{lt-leb, lt-ltb, and_from, and_parts, cond-true, cond-false, cases_eq}
use Rattle.cores.specs.declared.interface.Request.{Request}
use Rattle.records.specs.declared.reading.SavedPlace.{SavedPlace}
use Rattle.records.specs.declared.settings.Heading.{Heading}
use Rattle.records.specs.declared.settings.Sizes.{Sizes}
use Rattle.records.specs.Faults.{Fault, bad_setting}
use Rattle.records.specs.Format.{LogArc, Entry}
use Rattle.records.specs.Settings.{fits, log_of, heading_of, settled}
use Rattle.logs.specs.Lawful.{arcs_in, Lawful, Accepted}
use Rattle.logs.specs.Session.{session}
use Rattle.logs.proofs.Rules.{all_alike}
use Rattle.logs.proofs.Sessions.{few_cores, few_arcs}
use Rattle.replayer.specs.declared.group.Group.{Group}
use Rattle.replayer.specs.declared.replay.Replayer.{Replayer}
use Rattle.replayer.specs.Following.{Stands, Follows, OpeningFollows, StepReads, StepWaits, StepsFollow, RunsFollow}
use Rattle.replayer.specs.Groups.{held_up, read_group}
use Rattle.replayer.specs.Runs.{left, Session, session as going, one, circled, around, ended, rounds, ran}
use Rattle.replayer.specs.Steps.{behind_head, started, Opened, found, advanced, passed, cleared, gone, stepped}
use Rattle.replayer.proofs.Standing.{log_reads}
use Rattle.replayer.proofs.Ways.{any_step}

pub step_reads : StepReads
unfolding read_group
step_reads store bodies R F j known =
    let z = R.sizes in
    let d = get_or R.done j 0 in
    let four = few_cores (length store) z F.fits in
    let few = few_arcs store z F.fits j (bodies j) (get_or R.counts j 0) (F.holds j known) in
    let w = log_reads R.counts (heading_of z j) (log_of store z j) (bodies j) (get_or R.counts j 0) d (get_or R.places j behind_head) four few (F.holds j known) (F.sources j known) (F.places j known) in (
      w.0,
      w.1,
      cond-true _ _ _ (and_from (fits (length store) z) (ltb j z.cores) F.fits (lt-ltb j z.cores known)) ∙ ap (held_up R.done None) w.2,
    )

pub step_waits : StepWaits
unfolding stepped cleared
step_waits next after text R cells states store bodies F j ready known more =
    let w = step_reads store bodies R F j known in (
      w.0,
      w.1,
      ap (gone next after text R cells states j) (cond-true _ _ _ ready ∙ cond-false _ _ _ (lt-leb R.sizes.cores j known)
          ∙ cond-false _ _ _ (lt-leb (get_or R.counts j 0) (get_or R.done j 0) more) ∙ ap passed w.2),
    )

-- core j has done one instruction more, and its place is behind the arcs to it
follows_on : (store : List ℕ) (bodies : ℕ → List Entry) (R : Replayer) → Follows store bodies R → (j : ℕ) → j < R.sizes.cores → get_or R.done j 0 < get_or R.counts j 0 →
    (b : SavedPlace) → Stands (get_or R.done j 0 + 1) (bodies j) b → Follows store bodies (advanced R j b)
follows_on store bodies R F j known more b T = record {
  fits = F.fits;
  holds = F.holds;
  sources = F.sources;
  places = λ i h. elim (cases_eq i j) [
    | inl e ↦ subst (λ i. Stands (get_or (set R.done j (d + 1)) i 0) (bodies i) (get_or (set R.places j b) i behind_head)) (sym e)
        (subst (λ p. Stands (get_or (set R.done j (d + 1)) j 0) (bodies j) p) (sym (get_or-set_same R.places j b behind_head (omega (arith, few, F.places_four))))
        (subst (λ x. Stands x (bodies j) b) (sym here) T))
    | inr n ↦ subst (λ p. Stands (get_or (set R.done j (d + 1)) i 0) (bodies i) p) (sym (get_or-set_other R.places j i b behind_head n))
        (subst (λ x. Stands x (bodies i) (get_or R.places i behind_head)) (sym (get_or-set_other R.done j i (d + 1) 0 n)) (F.places i h))
  ];
  done = λ i. elim (cases_eq i j) [
    | inl e ↦ subst (λ i. get_or (set R.done j (d + 1)) i 0 ≤ get_or R.counts i 0) (sym e) (omega (arith, here))
    | inr n ↦ omega (arith, F.done i, get_or-set_other R.done j i (d + 1) 0 n)
  ];
  four = length-set R.done j (d + 1) ∙ F.four;
  places_four = length-set R.places j b ∙ F.places_four;
}
  where
    d : ℕ
    d = get_or R.done j 0

    few : R.sizes.cores ≤ 4
    few = few_cores (length store) R.sizes F.fits

    here : get_or (set R.done j (d + 1)) j 0 ≡ d + 1
    here = get_or-set_same R.done j (d + 1) 0 (omega (arith, few, F.four))

pub steps_follow : StepsFollow
steps_follow next after text R cells states store bodies F j =
    any_step next after text R cells states store j (λ o. Follows store bodies o.replayer)
    (λ says q. F)
    (λ G w.
    let reads = step_reads store bodies R F j w.clear.known in
    let q : Ok G ≡ _ = w.clear.read ∙ reads.2 in
    let p : reads.0 ≡ G.place = place_of G _ q in
    subst (λ p. Follows store bodies (advanced R j p)) p (follows_on store bodies R F j w.clear.known w.clear.more reads.0 reads.1))
  where
    place_of : (G H : Group) → ◌≡◌ {A = Result Group (List ℕ)} (Ok G) (Ok H) → H.place ≡ G.place
    place_of G H q = let e : H ≡ G = cc in ap (λ x. x.place) e

-- a run is steps
module _ (next : List ℕ → List ℕ → Request) (after : List ℕ → List ℕ → ℕ → List ℕ) (text store : List ℕ) (bodies : ℕ → List Entry) where
  circle_follows : (k j : ℕ) (s : Session) → Follows store bodies s.replayer → Follows store bodies (circled next after text store k j s).replayer
  unfolding circled
  circle_follows zero j s F = F
  circle_follows (suc k) j s F =
      circle_follows k (j + 1) (one next after text store s j) (steps_follow next after text s.replayer s.cells s.states store bodies F j)

  rounds_follow : (f : ℕ) (s : Session) → Follows store bodies s.replayer → Follows store bodies (rounds next after text store f s).replayer
  unfolding rounds
  rounds_follow zero s F = F
  rounds_follow (suc f) s F = go (eqb (left s.replayer) 0) (eqb t.carried 0) (rounds_follow f (going (s.carried + t.carried) t.replayer t.cells t.states) around_follows)
    where
      t : Session
      t = around next after text store s

      around_follows : Follows store bodies t.replayer
      around_follows = circle_follows s.replayer.sizes.cores 0 (going 0 s.replayer s.cells s.states) F

      go : (a b : Bool) → Follows store bodies (rounds next after text store f (going (s.carried + t.carried) t.replayer t.cells t.states)).replayer →
          Follows store bodies (cond a (ended next after text store 0 s.carried s) (cond b (ended next after text store 1 s.carried t)
          (rounds next after text store f (going (s.carried + t.carried) t.replayer t.cells t.states)))).replayer
      go true b again = F
      go false true again = around_follows
      go false false again = again

pub runs_follow : RunsFollow
unfolding ran
runs_follow next after text R cells states store bodies F = go (settled R.sizes (length states) (length cells) (length store))
  where
    go : (b : Bool) → Follows store bodies (cond b (rounds next after text store (suc (left R)) (going 0 R cells states)) (record { says = bad_setting; replayer = R; cells = cells; states = states })).replayer
    go true = rounds_follow next after text store bodies (suc (left R)) (going 0 R cells states) F
    go false = F

-- at the opening
all_from_one : (g : Heading) (arcs : List LogArc) → Lawful g arcs → AllByRecursion (λ a. 0 < a.target) arcs
all_from_one g [] l = tt
all_from_one g (a ∷ more) l = (l.0.to, all_from_one g more l.2)

started_follows : (store : List ℕ) (z : Sizes) (counts : List ℕ) (w : Accepted store z counts) → fits (length store) z ≡ true → Follows store w.bodies (started z counts)
started_follows store z counts w t = record {
  fits = t;
  holds = w.holds;
  sources = w.sources;
  places = λ j h.
      subst (λ d. Stands d (w.bodies j) (get_or (started z counts).places j behind_head)) (sym (all_alike 4 j 0)) (record {
        front = [];
        rest = w.bodies j;
        split = refl;
        place = all_alike 4 j behind_head;
        passed = tt;
        later = all_from_one (heading_of z j) (arcs_in (w.bodies j)) (w.holds j h).lawful.lawful;
      });
  done = λ j. omega (arith, all_alike {X = ℕ} 4 j 0);
  four = refl;
  places_four = refl;
}

abbrev Good : List ℕ → Sizes → Opened → Type 0
Good store z o = o.says ≡ 0 ∷ [] → (w : Accepted store z o.replayer.counts) → Follows store w.bodies o.replayer

pub opening_follows : OpeningFollows
opening_follows R z cores cells store = go (settled z cores cells (length store)) refl (session store z)
  where
    go : (b : Bool) → settled z cores cells (length store) ≡ b → (x : Result (List ℕ) Fault) → Good store z (cond b (found R z x) (record { says = bad_setting; replayer = R }))
    go true t (Ok counts) e w = started_follows store z counts w (and_parts (fits (length store) z) _ t).0
    go true t (Err f) e w = absurd cc
    go false t x e w = absurd cc
