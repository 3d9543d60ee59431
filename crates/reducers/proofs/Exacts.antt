-- The exact reducer's rows after a take and a note have the numbers that are defined.
use Rattle.std.proofs.Common.{◌≡◌, ℕ, ◌<◌, ◌≤◌, max, Bool, true, cond, ◌&&◌, eqb, List, length, get_or, set, replicate, sym, refl, ap, ◌∙◌, ap₂, arith, length-set}
use mathlib.Core.Path.{fun_ext}
use Rattle.std.specs.Array.{AllOfLen}
use Rattle.reducers.proofs.RowLists.{get_d_set, cond_under, each_place, each_replicate, cond_and, cond_same}
use Rattle.std.proofs.lemmas.Bool.{eqb-true, and_parts}
use Rattle.std.proofs.lemmas.List.{get_or_past}
use Rattle.reducers.specs.Numbers.{Numbers, zeros, core?, stamp, taken, noted}
use Rattle.reducers.specs.Rows.{no_row, no_stamps, row, exact_numbers, stamp_in, noted_in}
use Rattle.reducers.specs.declared.rows.Row.{Row}
use Rattle.reducers.specs.declared.rows.Stamps.{Stamps}
use Rattle.reducers.specs.declared.exact.Exact.{Exact}
use Rattle.reducers.specs.declared.interface.AccessKind.{AccessKind}
use Rattle.reducers.specs.declared.interface.AccessKind.TheVariants.{Read, Write}

numbers_same : (n m : Numbers) → ((j : ℕ) → n.known j ≡ m.known j) → ((c : ℕ) → n.written c ≡ m.written c) → ((i c : ℕ) → n.read i c ≡ m.read i c) → n ≡ m
numbers_same n m p q r = λ i. record { known = λ j. p j i; written = λ c. q c i; read = λ s c. r s c i }

abbrev Zeros : Row → Type 0
Zeros r = AllOfLen (λ (n : ℕ). n ≡ 0) r.at 4

abbrev Blank : Row → Type 0
Blank r = (k : ℕ) → get_or r.at k 0 ≡ 0

zeros_blank : (r : Row) → Zeros r → Blank r
zeros_blank r h = each_place (λ n. n ≡ 0) (λ n. n ≡ 0) r.at 4 0 (λ x p. p) refl h

rows_blank : (rows : List Row) → AllOfLen Zeros rows 4 → (j : ℕ) → Blank (get_or rows j no_row)
rows_blank rows h = each_place Zeros Blank rows 4 no_row zeros_blank (λ k. refl) h

pub cells_blank : (s : Stamps) → Zeros s.written → AllOfLen Zeros s.read 4 → (known : List Row) → ((j k : ℕ) → row known j k ≡ 0) → exact_numbers (record { known = record { rows = known }; cells = replicate 256 s }) ≡ zeros
cells_blank s hw hr known hk =
    numbers_same _ _ (λ j. fun_ext (hk j))
    (λ c. fun_ext (each_replicate (λ (s : Stamps). Blank s.written) s no_stamps (zeros_blank s.written hw) (λ k. refl) 256 c))
    (λ i c. fun_ext (each_replicate (λ (s : Stamps). Blank (get_or s.read i no_row)) s no_stamps (rows_blank s.read hr i) (λ k. refl) 256 c))

stamp_row : (e : Exact) (i c : ℕ) (w : AccessKind) (k : ℕ) → get_or (stamp_in (get_or e.cells c no_stamps) i w).at k 0 ≡ stamp (exact_numbers e) i c w k
stamp_row e i c Write k = refl
stamp_row e i c Read k = refl

-- the number at k of the row at t after a write at j
row_set : (rows : List Row) (j : ℕ) (new : Row) (t k : ℕ) → j < length rows → row (set rows j new) t k ≡ cond (eqb t j) (get_or new.at k 0) (row rows t k)
row_set rows j new t k inside = ap (λ (r : Row). get_or r.at k 0) (get_d_set rows j new no_row t inside) ∙ cond_under (λ (r : Row). get_or r.at k 0) (eqb t j) new (get_or rows t no_row)

-- where there is no cell, each stamp is 0
pub no_stamp : (cells : List Stamps) (c i : ℕ) (w : AccessKind) (r : Row) → length cells ≤ c → Zeros r → (k : ℕ) → get_or r.at k 0 ≡ get_or (stamp_in (get_or cells c no_stamps) i w).at k 0
no_stamp cells c i w r past h k = zeros_blank r h k ∙ sym (ap (λ (s : Stamps). get_or (stamp_in s i w).at k 0) (get_or_past cells c no_stamps past) ∙ none w)
  where
    none : (w : AccessKind) → get_or (stamp_in no_stamps i w).at k 0 ≡ 0
    none Write = refl
    none Read = refl

-- what an arc from a core below 4 tells
pub told_is : (e : Exact) (i a c : ℕ) (w : AccessKind) (told : Row) (p : Bool) → (core? i && p) ≡ true
    → ((k : ℕ) → get_or told.at k 0 ≡ cond (core? i && eqb k i) a (get_or (stamp_in (get_or e.cells c no_stamps) i w).at k 0))
    → (k : ℕ) → get_or told.at k 0 ≡ cond (eqb k i) a (stamp (exact_numbers e) i c w k)
told_is e i a c w told p below is-told k =
    is-told k
    ∙ ap (λ (b : Bool). cond (b && eqb k i) a (get_or (stamp_in (get_or e.cells c no_stamps) i w).at k 0)) (and_parts (core? i) p below).0
    ∙ ap (cond (eqb k i) a) (stamp_row e i c w k)

pub exact_taken : (e f : Exact) (i a c j : ℕ) (w : AccessKind) (told old new : Row) → j < length e.known.rows
    → ((k : ℕ) → get_or told.at k 0 ≡ cond (eqb k i) a (stamp (exact_numbers e) i c w k))
    → ((k : ℕ) → get_or old.at k 0 ≡ row e.known.rows j k)
    → ((k : ℕ) → get_or new.at k 0 ≡ max (get_or old.at k 0) (get_or told.at k 0))
    → f.known.rows ≡ set e.known.rows j new → f.cells ≡ e.cells
    → exact_numbers f ≡ taken (exact_numbers e) i a c w j
exact_taken e f i a c j w told old new within is-told is-old is-new is-known is-cells =
    numbers_same _ _
    (λ t. fun_ext (λ k. ap (λ rows. row rows t k) is-known ∙ row_set e.known.rows j new t k within ∙ ap (λ z. cond (eqb t j) z (row e.known.rows t k)) (is-new k ∙ ap₂ max (is-old k) (is-told k))))
    (λ d. ap (λ cells. (exact_numbers (record { known = e.known; cells = cells })).written d) is-cells)
    (λ s d. ap (λ cells. (exact_numbers (record { known = e.known; cells = cells })).read s d) is-cells)

abbrev written_row : Stamps → ℕ → ℕ
written_row s k = get_or s.written.at k 0

abbrev read_row : ℕ → Stamps → ℕ → ℕ
read_row i s = row s.read i

pub stamps_noted : (e : Exact) (j c : ℕ) (w : AccessKind) (r : Row) → c < length e.cells → j < 4 → length (noted_in (get_or e.cells c no_stamps) j w r).read ≡ 4
    → ((k : ℕ) → get_or r.at k 0 ≡ row e.known.rows j k)
    → exact_numbers (record { known = e.known; cells = set e.cells c (noted_in (get_or e.cells c no_stamps) j w r) }) ≡ noted (exact_numbers e) j c w
stamps_noted e j c Write r inside below long is-row =
    let s = get_or e.cells c no_stamps in
    let new : Stamps = record { written = r; read = s.read } in
    numbers_same _ _
    (λ t. refl)
    (λ d. ap written_row (get_d_set e.cells c new no_stamps d inside)
    ∙ cond_under written_row (eqb d c) new (get_or e.cells d no_stamps)
    ∙ ap (λ f. cond (eqb d c) f (written_row (get_or e.cells d no_stamps))) (fun_ext is-row))
    (λ i d. ap (read_row i) (get_d_set e.cells c new no_stamps d inside)
    ∙ cond_under (read_row i) (eqb d c) new (get_or e.cells d no_stamps)
    ∙ cond_same (eqb d c) _ _ (λ p. ap (λ x. row (get_or e.cells x no_stamps).read i) (sym (eqb-true d c p))))
stamps_noted e j c Read r inside below long is-row =
    let s = get_or e.cells c no_stamps in
    let within : j < length s.read = omega (arith, length-set s.read j r) in
    let new : Stamps = record { written = s.written; read = set s.read j r } in
    numbers_same _ _
    (λ t. refl)
    (λ d. ap written_row (get_d_set e.cells c new no_stamps d inside)
    ∙ cond_under written_row (eqb d c) new (get_or e.cells d no_stamps)
    ∙ cond_same (eqb d c) _ _ (λ p. ap (λ x. written_row (get_or e.cells x no_stamps)) (sym (eqb-true d c p))))
    (λ i d. fun_ext (λ k. ap (λ (x : Stamps). row x.read i k) (get_d_set e.cells c new no_stamps d inside)
    ∙ cond_under (λ (x : Stamps). row x.read i k) (eqb d c) new (get_or e.cells d no_stamps)
    ∙ ap (λ z. cond (eqb d c) z (row (get_or e.cells d no_stamps).read i k)) (row_set s.read j r i k within ∙ ap (λ z. cond (eqb i j) z (row s.read i k)) (is-row k))
    ∙ cond_and (eqb d c) (eqb i j) _ _ _ (λ p. ap (λ x. row (get_or e.cells x no_stamps).read i k) (sym (eqb-true d c p)))
    ∙ sym (cond_under (λ (f : ℕ → ℕ). f k) (eqb i j && eqb d c) (row e.known.rows j) (row (get_or e.cells d no_stamps).read i))))
