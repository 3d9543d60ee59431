-- A core waits over the bytes of its log exactly if it waits over the arcs of the recording.
use Rattle.std.proofs.Common.{◌≡◌, ℕ, suc, ◌+◌, ◌<◌, Bool, true, false, cond, not, ◌&&◌, ◌||◌, eqb, leb, List, [], ◌∷◌, ◌++◌, map, get_or, take, Some, None, Option, sym, refl, ◌∙◌, subst, inl, inr, arith}
use mathlib.Core.Option as of_run
use mathlib.Core.Option.{none, some}
use native.Mathlib.Decide.{ℕ_discrete}
use Rattle.std.proofs.lemmas.List.{get_or-take}
use Rattle.std.proofs.lemmas.Bool.{cases_eq, eq-eqb, false≢true}
use Rattle.std.specs.List.{AllByRecursion}
use Rattle.logs.specs.Lawful.{Lawful}
use Rattle.records.specs.Format.{LogArc}
use Rattle.records.specs.declared.settings.Heading.{Heading}
use Rattle.recordings.specs.Tracks.{to_log, logs_of}
use Rattle.replayer.specs.Following.{arcs_to}
use Rattle.replayer.specs.Groups.{waits_for}
use Rattle.records.specs.declared.format.Source.{Source}
use Rattle.runs.proofs.Waiting.{own_log_is_enough}
use Rattle.runs.proofs.WorkingOrder.{choose_yes, choose_no}
use Rattle.logs.proofs.Rules.{all_push}
use Rattle.runs.specs.Recording.{Arc, log}
use Rattle.runs.specs.Replay.{free, waiting}

abbrev pub waits_none : Option Source → Bool
waits_none None = true
waits_none (Some s) = false

-- the arcs of core j's log are to instructions of j
own : (j : ℕ) (L : List Arc) → AllByRecursion (λ a. a.target.core ≡ j) (log j L)
own j [] = tt
own j (a ∷ L) = elim (cases_eq a.target.core j) [
  | inl q ↦ subst (AllByRecursion (λ a. a.target.core ≡ j)) (sym (choose_yes (ℕ_discrete a.target.core j) (log j L ++ (a ∷ [])) (log j L) q)) (all_push (λ a. a.target.core ≡ j) (log j L) a (own j L) q)
  | inr n ↦ subst (AllByRecursion (λ a. a.target.core ≡ j)) (sym (choose_no (ℕ_discrete a.target.core j) (log j L ++ (a ∷ [])) (log j L) n)) (own j L)
]

module _ (g : Heading) (d : List ℕ) (j : ℕ) (mine : j < g.cores) where
  abbrev few : List ℕ
  few = take g.cores d

  one_arc : (a : Arc) (rest : List LogArc) (l : List Arc) (own next : Bool) → own ≡ true → waits_none (waits_for d rest) ≡ free l few j →
      waits_none (waits_for d (cond next (to_log a ∷ rest) rest)) ≡ ((not (own && next) || leb a.source.count (get_or d a.source.core 0)) && free l few j)
  one_arc a rest l false next o e = absurd (false≢true o)
  one_arc a rest l true false o e = e
  one_arc a rest l true true o e = go (leb a.source.count (get_or d a.source.core 0))
    where
      go : (b : Bool) → waits_none (cond b (waits_for d rest) (Some (record { core = a.source.core; count = a.source.count }))) ≡ (b && free l few j)
      go true = e
      go false = refl

  -- over a core's own arcs, whose sources are cores of the session
  waits_over : (l : List Arc) → AllByRecursion (λ a. a.target.core ≡ j) l → Lawful g (map to_log l) →
      waits_none (waits_for d (arcs_to (get_or d j 0 + 1) (map to_log l))) ≡ free l few j
  waits_over [] o h = refl
  waits_over (a ∷ l) o h =
      one_arc a (arcs_to (get_or d j 0 + 1) (map to_log l)) l (eqb a.target.core j) (eqb a.target.count (get_or d j 0 + 1)) (eq-eqb a.target.core j o.0) (waits_over l o.1 h.2)
      ∙ (λ i. (not (eqb a.target.core j && eqb a.target.count (counts i)) || leb a.source.count (sym (get_or-take g.cores d a.source.core 0 h.0.core) i)) && free l few j)
    where
      counts : ◌≡◌ {A = ℕ} (get_or d j 0 + 1) (suc (get_or few j 0))
      counts = omega (arith, get_or-take g.cores d j 0 mine)

-- over all arcs of the recording
pub waits_free : (g : Heading) (d : List ℕ) (j : ℕ) (L : List Arc) → j < g.cores → Lawful g (logs_of j L) →
    waits_none (waits_for d (arcs_to (get_or d j 0 + 1) (logs_of j L))) ≡ free L (take g.cores d) j
waits_free g d j L mine h = waits_over g d j mine (log j L) (own j L) h ∙ own_log_is_enough.1 L (take g.cores d) j

-- the source of an arc that is waited for
abbrev pub source_waited : of_run.Option Arc → Option Source
source_waited none = None
source_waited (some a) = Some (record { core = a.source.core; count = a.source.count })

module _ (g : Heading) (d : List ℕ) (j : ℕ) (mine : j < g.cores) where
  one_waits : (a : Arc) (rest : List LogArc) (w : of_run.Option Arc) (own next : Bool) → own ≡ true → waits_for d rest ≡ source_waited w →
      waits_for d (cond next (to_log a ∷ rest) rest) ≡ source_waited (cond (not (own && next) || leb a.source.count (get_or d a.source.core 0)) w (some a))
  one_waits a rest w false next o e = absurd (false≢true o)
  one_waits a rest w true false o e = e
  one_waits a rest w true true o e = go (leb a.source.count (get_or d a.source.core 0))
    where
      go : (b : Bool) → cond b (waits_for d rest) (Some (record { core = a.source.core; count = a.source.count })) ≡ source_waited (cond b w (some a))
      go true = e
      go false = refl

  first_over : (l : List Arc) → AllByRecursion (λ a. a.target.core ≡ j) l → Lawful g (map to_log l) →
      waits_for d (arcs_to (get_or d j 0 + 1) (map to_log l)) ≡ source_waited (waiting l (take g.cores d) j)
  first_over [] o h = refl
  first_over (a ∷ l) o h =
      one_waits a (arcs_to (get_or d j 0 + 1) (map to_log l)) (waiting l (take g.cores d) j) (eqb a.target.core j) (eqb a.target.count (get_or d j 0 + 1)) (eq-eqb a.target.core j o.0) (first_over l o.1 h.2)
      ∙ (λ i. source_waited (cond (not (eqb a.target.core j && eqb a.target.count (counts i)) || leb a.source.count (sym (get_or-take g.cores d a.source.core 0 h.0.core) i)) (waiting l (take g.cores d) j) (some a)))
    where
      counts : ◌≡◌ {A = ℕ} (get_or d j 0 + 1) (suc (get_or (take g.cores d) j 0))
      counts = omega (arith, get_or-take g.cores d j 0 mine)

-- the first arc that is waited for over the bytes is the first over the core's own arcs
pub waits_first : (g : Heading) (d : List ℕ) (j : ℕ) (L : List Arc) → j < g.cores → Lawful g (logs_of j L) →
    waits_for d (arcs_to (get_or d j 0 + 1) (logs_of j L)) ≡ source_waited (waiting (log j L) (take g.cores d) j)
waits_first g d j L mine h = first_over g d j mine (log j L) (own j L) h
