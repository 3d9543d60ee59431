-- The arcs of a store whose logs hold given bodies are those of the bodies.
use Rattle.std.proofs.Common.{◌≡◌, ℕ, zero, suc, ◌<◌, true, ltb, List, [], ◌∷◌, ◌++◌, map, length, refl, ap, ◌∙◌, arith, append-nil}
use Rattle.std.proofs.lemmas.Bool.{cond-true, lt-ltb}
use Rattle.records.specs.declared.settings.Heading.{Heading}
use Rattle.records.specs.declared.settings.Sizes.{Sizes}
use Rattle.records.specs.Format.{LogArc, Entry, end}
use Rattle.records.specs.Settings.{fits, log_of, heading_of}
use Rattle.logs.specs.Arcs.{arc_to, arcs_by_core, logged, all_arcs}
use Rattle.logs.specs.Lawful.{arcs_in, whole, Holds}
use Rattle.logs.specs.Session.{read_log}
use Rattle.logs.proofs.Arcs.{arcs_append}
use Rattle.logs.proofs.Paths.{holds_read}
use Rattle.logs.proofs.Sessions.{few_cores, few_arcs}

-- the arcs of n cores depend on no other core
by_core_same : (f g : ℕ → List LogArc) (n : ℕ) → ((j : ℕ) → j < n → f j ≡ g j) → arcs_by_core f n ≡ arcs_by_core g n
unfolding arcs_by_core
by_core_same f g zero same = refl
by_core_same f g (suc n) same = λ i. by_core_same f g n (λ j h. same j (omega arith)) i ++ map (arc_to n) (same n (omega arith) i)

-- the arcs among the records of a whole log
arcs_whole : (g : Heading) (body : List Entry) (n : ℕ) → arcs_in (whole g body n) ≡ arcs_in body
arcs_whole g body n = arcs_append body (end n (length (arcs_in body)) ∷ []) ∙ append-nil (arcs_in body)

module _ (store : List ℕ) (z : Sizes) (fit : fits (length store) z ≡ true) where
  -- a log that holds a body is read as head, body and end
  pub entries_are : (j : ℕ) (body : List Entry) (n : ℕ) → Holds (heading_of z j) (log_of store z j) body n → (read_log store z j).entries ≡ whole (heading_of z j) body n
  entries_are j body n o =
      ap (λ r. r.entries) (holds_read (heading_of z j) (log_of store z j) body n (few_cores (length store) z fit) (few_arcs store z fit j body n o) o)

  pub logged_are : (j : ℕ) → j < z.cores → (body : List Entry) (n : ℕ) → Holds (heading_of z j) (log_of store z j) body n → logged store z j ≡ arcs_in body
  logged_are j h body n o =
      cond-true (ltb j z.cores) (arcs_in (read_log store z j).entries) [] (lt-ltb j z.cores h)
      ∙ ap arcs_in (entries_are j body n o) ∙ arcs_whole (heading_of z j) body n

  -- each log holds the body that is given for its core, and some number of instructions
  pub arcs_held : (bodies : ℕ → List Entry) (n : ℕ → ℕ) → ((j : ℕ) → j < z.cores → Holds (heading_of z j) (log_of store z j) (bodies j) (n j)) →
      all_arcs store z ≡ arcs_by_core (λ j. arcs_in (bodies j)) z.cores
  arcs_held bodies n holds =
      cond-true _ _ _ fit
      ∙ by_core_same (logged store z) (λ j. arcs_in (bodies j)) z.cores (λ j h. logged_are j h (bodies j) (n j) (holds j h))
