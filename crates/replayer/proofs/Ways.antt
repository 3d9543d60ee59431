-- What holds of every refusal and of a step that is carried out holds of any step.
use Rattle.std.proofs.Common.{◌≡◌, ℕ, ◌+◌, ◌<◌, Bool, true, false, cond, ◌&&◌, ltb, leb, List, [], ◌∷◌, length, get_or, Some, None, Ok, Err, Option, Result, refl, ap}
use Rattle.std.proofs.lemmas.Bool.{leb-false}
use Rattle.cores.specs.declared.interface.Request.{Request}
use Rattle.cores.specs.Acting.{within}
use Rattle.cores.specs.Memory.{able}
use Rattle.records.specs.declared.reading.SavedPlace.{SavedPlace}
use Rattle.records.specs.declared.settings.Sizes.{Sizes}
use Rattle.records.specs.Faults.{Fault, bad_setting, log_fault}
use Rattle.records.specs.Settings.{fits, log_of, heading_of, settled}
use Rattle.replayer.specs.declared.group.Group.{Group}
use Rattle.records.specs.declared.format.Source.{Source}
use Rattle.replayer.specs.declared.replay.Replayer.{Replayer}
use Rattle.replayer.specs.Groups.{Grouped, group_at, held_up, read_group}
use Rattle.replayer.specs.Runs.{counted}
use Rattle.replayer.specs.Steps.{Outcome, ahead, freed, passed, cleared, refused, acted, gone, stepped}

-- reading is refused with 8 or 9
held_refuses : (done : List ℕ) (x : Result Grouped Fault) (says : List ℕ) → Err says ≡ held_up done None x → counted says ≡ 0
held_refuses done (Ok x) says q = absurd cc
held_refuses done (Err f) says q = let p : says ≡ log_fault f = cc in ap counted p

read_refuses : (store : List ℕ) (z : Sizes) (j : ℕ) (p : SavedPlace) (counts done says : List ℕ) → Err says ≡ read_group store z j p counts done → counted says ≡ 0
unfolding read_group
read_refuses store z j p counts done says q = go (fits (length store) z && ltb j z.cores) q
  where
    go : (b : Bool) → Err says ≡ cond b (held_up done None (group_at counts (heading_of z j) (log_of store z j) (get_or done j 0 + 1) p)) (Err bad_setting) → counted says ≡ 0
    go true q = held_refuses done (group_at counts (heading_of z j) (log_of store z j) (get_or done j 0 + 1) p) says q
    go false q = let p : says ≡ bad_setting = cc in ap counted p

module _ (R : Replayer) (cores cells : ℕ) (store : List ℕ) (j : ℕ) where
  -- a core that may go on, behind the arcs that were read
  pub record Cleared (G : Group) : Type 0 where
    pub ready : settled R.sizes cores cells (length store) ≡ true
    pub known : j < R.sizes.cores
    pub more : get_or R.done j 0 < get_or R.counts j 0
    pub read : Ok G ≡ ahead R store j
    pub free : G.waits ≡ None

  module _
      (P : Result SavedPlace (List ℕ) → Type 0)
      (stays : (says : List ℕ) → counted says ≡ 0 → P (Err says))
      (goes : (G : Group) → Cleared G → P (Ok G.place))
    where
      on_group : settled R.sizes cores cells (length store) ≡ true → j < R.sizes.cores → get_or R.done j 0 < get_or R.counts j 0 →
          (x : Result Group (List ℕ)) → x ≡ ahead R store j → P (passed x)
      on_group ready known more (Err says) q = stays says (read_refuses store R.sizes j _ R.counts R.done says q)
      on_group ready known more (Ok G) q = on_waits G.waits refl
        where
          on_waits : (w : Option Source) → G.waits ≡ w → P (freed w G.place)
          on_waits (Some s) e = stays _ refl
          on_waits None e = goes G (record { ready = ready; known = known; more = more; read = q; free = e })

      any_clear : P (cleared R cores cells store j)
      unfolding cleared
      any_clear =
          go (settled R.sizes cores cells (length store)) refl (leb R.sizes.cores j) refl (leb (get_or R.counts j 0) (get_or R.done j 0)) refl
        where
          go : (a : Bool) → settled R.sizes cores cells (length store) ≡ a →
              (b : Bool) → leb R.sizes.cores j ≡ b → (c : Bool) → leb (get_or R.counts j 0) (get_or R.done j 0) ≡ c →
              P (cond a (cond b (Err (1 ∷ [])) (cond c (Err (7 ∷ [])) (passed (ahead R store j)))) (Err bad_setting))
          go false p b q c r = stays bad_setting refl
          go true p true q c r = stays (1 ∷ []) refl
          go true p false q true r = stays (7 ∷ []) refl
          go true p false q false r = on_group p (leb-false R.sizes.cores j q) (leb-false (get_or R.counts j 0) (get_or R.done j 0) r) (ahead R store j) refl

module _
    (next : List ℕ → List ℕ → Request) (after : List ℕ → List ℕ → ℕ → List ℕ)
    (text : List ℕ) (R : Replayer) (cells : List ℕ) (states : List (List ℕ)) (store : List ℕ) (j : ℕ)
  where
    abbrev request : Request
    request = next text (get_or states j [])

    -- a step that is carried out
    pub record Carried (G : Group) : Type 0 where
      pub clear : Cleared R (length states) (length cells) store j G
      pub able : able (next text (get_or states j [])) R.sizes.cells ≡ true

    module _
        (P : Outcome → Type 0)
        (stays : (says : List ℕ) → counted says ≡ 0 → P (refused next after text R cells states says))
        (goes : (G : Group) → Carried G → P (acted next after text R cells states j G.place (next text (get_or states j []))))
      where
        on_request : (G : Group) → Cleared R (length states) (length cells) store j G → (b c : Bool) → able request R.sizes.cells ≡ b →
            P (cond b (acted next after text R cells states j G.place request) (cond c (refused next after text R cells states (2 ∷ [])) (refused next after text R cells states (4 ∷ []))))
        on_request G w true c t = goes G (record { clear = w; able = t })
        on_request G w false true t = stays (2 ∷ []) refl
        on_request G w false false t = stays (4 ∷ []) refl

        pub any_step : P (stepped next after text R cells states store j)
        unfolding stepped
        any_step =
            any_clear R (length states) (length cells) store j (λ x. P (gone next after text R cells states j x)) stays
            (λ G w. on_request G w (able request R.sizes.cells) (within request R.sizes.cells) refl)
