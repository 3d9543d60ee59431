-- Conflicts at places, whatever the place of each cell, keep at least the order of conflicts at cells.
use Rattle.std.proofs.Common.{◌≡◌, ℕ, suc, ◌≤◌, List, [], ◌∷◌, sym, refl, ap, ◌∙◌, subst, inl, inr}
use Rattle.cores.specs.declared.interface.Request.{Request}
use Rattle.cores.specs.declared.interface.Request.TheVariants.{Halt, Local, Read, Write, Exchange}
use Rattle.cores.specs.Memory.{Rules, Memory, outcome, plain}
use Rattle.runs.specs.Runs.{Access, local, read, write, Event, ev, Run, Instr, done, turns, Has, Placed, Clash, Conflicting, program, link, chain, Before, if_same}
use Rattle.runs.specs.PlainRun.{access, run}
use Rattle.runs.specs.Theorems.{PlacesKeepTheOrder}

-- an access to a cell, at its place
abbrev moved : (ℕ → ℕ) → Access → Access
moved place local = local
moved place (read c) = read (place c)
moved place (write c) = write (place c)

abbrev moved_event : (ℕ → ℕ) → Event → Event
moved_event place (ev j a) = ev j (moved place a)

abbrev moved_run : (ℕ → ℕ) → Run → Run
moved_run place [] = []
moved_run place (ev j a ∷ h) = ev j (moved place a) ∷ moved_run place h

moved_done : (place : ℕ → ℕ) (h : Run) (k : ℕ) → done (moved_run place h) k ≡ done h k
moved_done place [] k = refl
moved_done place (ev j a ∷ h) k = ap (λ n. if_same j k (suc n) n) (moved_done place h k)

moved_turns : (place : ℕ → ℕ) (h : Run) → turns (moved_run place h) ≡ turns h
moved_turns place [] = refl
moved_turns place (ev j a ∷ h) = ap suc (moved_turns place h)

moved_placed : (place : ℕ → ℕ) (h : Run) (p : ℕ) (x : Instr) (e : Event) → Placed h p x e → Placed (moved_run place h) p x (moved_event place e)
moved_placed place [] p x e i = absurd i
moved_placed place (ev j a ∷ h) p x e (inl i) = inl (moved_placed place h p x e i)
moved_placed place (ev j a ∷ h) p x e (inr (q, s, t)) =
    inr (
      q ∙ ap suc (sym (moved_turns place h)),
      s ∙ ap (λ n. record { core = j; count = suc n }) (sym (moved_done place h j)),
      ap (moved_event place) t,
    )

moved_clash : (place : ℕ → ℕ) (a b : Access) → Clash a b → Clash (moved place a) (moved place b)
moved_clash place local b c = absurd c
moved_clash place (read i) local c = c
moved_clash place (read i) (read k) c = c
moved_clash place (read i) (write k) c = ap place c
moved_clash place (write i) local c = c
moved_clash place (write i) (read k) c = ap place c
moved_clash place (write i) (write k) c = ap place c

moved_conflicting : (place : ℕ → ℕ) (e f : Event) → Conflicting e f → Conflicting (moved_event place e) (moved_event place f)
moved_conflicting place (ev i a) (ev j b) (n, c) = (n, moved_clash place a b c)

moved_has : (place : ℕ → ℕ) (h : Run) (x : Instr) → Has h x → Has (moved_run place h) x
moved_has place h x (o, l) = (o, subst (λ n. x.count ≤ n) (sym (moved_done place h x.core)) l)

moved_before : (place : ℕ → ℕ) (h : Run) {x y : Instr} → Before h x y → Before (moved_run place h) x y
moved_before place h (program {x = x} {y = y} i k c l) = program (moved_has place h x i) (moved_has place h y k) c l
moved_before place h (link {x = x} {y = y} k) = link (
  record {
    first = k.0.first;
    second = k.0.second;
    does_first = moved_event place k.0.does_first;
    does_second = moved_event place k.0.does_second;
    placed_first = moved_placed place h k.0.first x k.0.does_first k.0.placed_first;
    placed_second = moved_placed place h k.0.second y k.0.does_second k.0.placed_second;
    earlier = k.0.earlier;
  },
  moved_conflicting place k.0.does_first k.0.does_second k.1,
)
moved_before place h (chain p q) = chain (moved_before place h p) (moved_before place h q)

moved_access : (place : ℕ → ℕ) (q : Request) → moved place (access (λ c. c) q) ≡ access place q
moved_access place Halt = refl
moved_access place Local = refl
moved_access place (Read c) = refl
moved_access place (Write c v) = refl
moved_access place (Exchange c v) = refl

run_moved : (place : ℕ → ℕ) (K : Rules) (m : Memory) (u : List ℕ) → moved_run place (run (λ c. c) K m u) ≡ run place K m u
run_moved place K m [] = refl
run_moved place K m (j ∷ t) = λ i. ev j (moved_access place (outcome K (plain K m t) j).request i) ∷ run_moved place K m t i

pub places_keep_the_order : PlacesKeepTheOrder
places_keep_the_order place K m u x y b =
    subst (λ r. Before r x y) (run_moved place K m u) (moved_before place (run (λ c. c) K m u) b)
