-- The rules of a log, and of all logs together, in words: relations on records and those before them.
use Rattle.std.specs.Prelude.{◌≡◌, ℕ, ◌<◌, ◌≤◌, true, false, ◌⊎◌, List, [], ◌∷◌, ◌++◌, length, ◌≢◌, slice_index}
use Rattle.std.specs.List.{AllByRecursion}
use Rattle.records.specs.declared.settings.Sizes.{Sizes}
use Rattle.records.specs.declared.settings.Heading.{Heading}
use Rattle.records.specs.Faults.{Fault, bad_setting, log_fault}
use Rattle.records.specs.Format.{LogArc, Entry, head, arc, end, bytes_of, written}
use Rattle.records.specs.Reading.{broken}
use Rattle.records.specs.Settings.{fits, log_of, heading_of}

abbrev pub Any : (LogArc → Type 0) → List LogArc → Type 0
Any P [] = ⊥
Any P (a ∷ more) = P a ⊎ Any P more

-- an arc that the log of this core may have: from another core of the session, counts from 1
pub record Stands (g : Heading) (a : LogArc) : Type 0 where
  pub core : a.source < g.cores
  pub other : a.source ≡ g.core → ⊥
  pub from : 0 < a.count
  pub to : 0 < a.target

-- b may stand behind a: its target is not below, and not the same from the same source core
pub record Behind (a b : LogArc) : Type 0 where
  pub order : a.target ≤ b.target
  pub once : a.target ≡ b.target → a.source ≢ b.source

-- arcs that obey the rules in order
abbrev pub Lawful : Heading → List LogArc → Type 0
Lawful g [] = Unit {0}
Lawful g (a ∷ more) = Stands g a × AllByRecursion (Behind a) more × Lawful g more

-- what may stand between head and end: arcs
abbrev pub Between : Entry → Type 0
Between (head core cores cells) = ⊥
Between (arc a) = Unit {0}
Between (end instructions arcs) = ⊥

-- the arcs of a body, in their order
abbrev pub arcs_in : List Entry → List LogArc
arcs_in [] = []
arcs_in (head core cores cells ∷ more) = arcs_in more
arcs_in (arc a ∷ more) = a ∷ arcs_in more
arcs_in (end instructions arcs ∷ more) = arcs_in more

-- a head with the right fields, then a body
abbrev pub front : Heading → List Entry → List Entry
front g body = head g.core g.cores g.cells ∷ body

-- and an end with the right numbers
abbrev pub whole : Heading → List Entry → ℕ → List Entry
whole g body n = front g body ++ (end n (length (arcs_in body)) ∷ [])

-- a body whose arcs obey the rules
pub record Body (g : Heading) (body : List Entry) : Type 0 where
  pub between : AllByRecursion Between body
  pub lawful : Lawful g (arcs_in body)

-- the bytes are a log of this body and n instructions, then anything
pub record Holds (g : Heading) (log : List ℕ) (body : List Entry) (n : ℕ) : Type 0 where
  pub lawful : Body g body
  pub reached : AllByRecursion (λ a. a.target ≤ n) (arcs_in body)
  pub rest : List ℕ
  pub bytes : log ≡ written (whole g body n) ++ rest

-- the three marks, each with the bytes of its record
pub data Marks : ℕ → ℕ → ℕ → Type 0 where
  head_mark : Marks 0x48 0x43 6
  arc_mark : Marks 0x41 0x52 7
  end_mark : Marks 0x45 0x44 6

-- an arc that may not stand behind the arcs before it
pub data BadArc (g : Heading) (before : List LogArc) (a : LogArc) : Type 0 where
  no_such_core : g.cores ≤ a.source → BadArc g before a
  own_core : a.source ≡ g.core → BadArc g before a
  no_source_count : a.count ≡ 0 → BadArc g before a
  no_target_count : a.target ≡ 0 → BadArc g before a
  target_falls : Any (λ b. a.target < b.target) before → BadArc g before a
  source_twice : Any (λ b. (b.target ≡ a.target) × (b.source ≡ a.source)) before → BadArc g before a

-- an end that may not stand behind the arcs before it
pub data BadEnd (before : List LogArc) (n k : ℕ) : Type 0 where
  wrong_arcs : (k ≢ length before) → BadEnd before n k
  too_few_instructions : Any (λ b. n < b.target) before → BadEnd before n k

-- what stands behind the records `before` breaks a rule: its layer and cause
pub data Breaks (g : Heading) (before : List Entry) (rest : List ℕ) : ℕ → ℕ → Type 0 where
  no_mark : length rest < 2 → Breaks g before rest 1 1
  cut : (x y size : ℕ) (more : List ℕ) → Marks x y size → rest ≡ x ∷ y ∷ more → length rest < size → Breaks g before rest 1 1
  unknown_mark : (x y : ℕ) (more : List ℕ) → rest ≡ x ∷ y ∷ more → ((size : ℕ) → Marks x y size → ⊥) → Breaks g before rest 1 2
  no_head : (e : Entry) (more : List ℕ) → before ≡ [] → rest ≡ bytes_of e ++ more → (e ≢ head g.core g.cores g.cells) → Breaks g before rest 2 3
  head_later : (body : List Entry) (c p n : ℕ) (more : List ℕ) → before ≡ front g body → rest ≡ bytes_of (head c p n) ++ more → Breaks g before rest 2 3
  bad_arc : (body : List Entry) (a : LogArc) (more : List ℕ) → before ≡ front g body → rest ≡ bytes_of (arc a) ++ more → BadArc g (arcs_in body) a → Breaks g before rest 2 4
  bad_end : (body : List Entry) (n k : ℕ) (more : List ℕ) → before ≡ front g body → rest ≡ bytes_of (end n k) ++ more → BadEnd (arcs_in body) n k → Breaks g before rest 2 5

-- every record before the fault is lawful
abbrev pub Front : Heading → List Entry → Type 0
Front g before = (before ≡ []) ⊎ ((body : List Entry) × (before ≡ front g body) × Body g body)

-- the first fault of a log, behind the records `before`
pub record Broken (g : Heading) (log : List ℕ) (before : List Entry) (f : Fault) : Type 0 where
  pub lawful : Front g before
  pub rest : List ℕ
  pub bytes : log ≡ written before ++ rest
  pub core : f.core ≡ g.core
  pub offset : f.offset ≡ length (written before)
  pub breaks : Breaks g before rest f.layer f.cause

-- no arc comes from beyond its source core's instructions
abbrev pub Within : List ℕ → List LogArc → Type 0
Within counts arcs = AllByRecursion (λ a. a.count ≤ slice_index counts a.source) arcs

-- core j's log holds this body, and as many instructions as counted
abbrev pub LogHolds : List ℕ → Sizes → List ℕ → (ℕ → List Entry) → ℕ → Type 0
LogHolds store z counts bodies j = Holds (heading_of z j) (log_of store z j) (bodies j) (slice_index counts j)

-- the logs of a session, each core's instructions as counted, and 0 for a core that the session has not
pub record Accepted (store : List ℕ) (z : Sizes) (counts : List ℕ) : Type 0 where
  pub bodies : ℕ → List Entry
  pub holds : (j : ℕ) → j < z.cores → LogHolds store z counts bodies j
  pub sources : (j : ℕ) → j < z.cores → Within counts (arcs_in (bodies j))
  pub four : length counts ≡ 4
  pub others : (j : ℕ) → z.cores ≤ j → slice_index counts j ≡ 0

-- the first fault of a session: of layers 1 and 2, every log before it holds; of layer 3, all logs hold, and every arc before it comes from within
pub data FirstFault (store : List ℕ) (z : Sizes) : Fault → Type 0 where
  in_log : (j : ℕ) (before : List Entry) (f : Fault) → j < z.cores →
      ((i : ℕ) → i < j → (body : List Entry) × (n : ℕ) × Holds (heading_of z i) (log_of store z i) body n) →
      Broken (heading_of z j) (log_of store z j) before f → FirstFault store z f
  at_source : (counts : List ℕ) (bodies : ℕ → List Entry) (j : ℕ) (before : List Entry) (a : LogArc) (behind : List Entry) → j < z.cores →
      ((i : ℕ) → i < z.cores → LogHolds store z counts bodies i) → ((i : ℕ) → i < j → Within counts (arcs_in (bodies i))) →
      bodies j ≡ before ++ (arc a ∷ behind) → Within counts (arcs_in before) → slice_index counts a.source < a.count →
      FirstFault store z (broken 3 j (length (written (front (heading_of z j) before))) 6)

-- what reading all logs may say, in words: accepted exactly if the logs hold, refused with 9 only for the first fault, and with 8 exactly if the sizes do not fit
pub record Exactly (store : List ℕ) (z : Sizes) (says : List ℕ) : Type 0 where
  pub accepts : (counts : List ℕ) → says ≡ 0 ∷ counts → Accepted store z counts
  pub accepted : (counts : List ℕ) → fits (length store) z ≡ true → Accepted store z counts → says ≡ 0 ∷ counts
  pub faulty : (f : Fault) → says ≡ log_fault f → FirstFault store z f
  pub unfit : says ≡ bad_setting → fits (length store) z ≡ false
  pub refused : fits (length store) z ≡ false → says ≡ bad_setting
