-- A record's mark and fields say which record it is.
use Rattle.std.proofs.Common.{◌≡◌, ℕ, List, cond, eqb, get_or, refl, sym, ap, ◌∙◌}
use Rattle.records.specs.Format.{Entry, head, arc, end, record_numbers}

-- the record of a mark and fields
abbrev of_numbers : List ℕ → Entry
of_numbers n =
    let a = get_or n 2 0 in
    let b = get_or n 3 0 in
    let c = get_or n 4 0 in
    cond (eqb (get_or n 0 0) 0x48) (head a b c)
    (cond (eqb (get_or n 0 0) 0x41) (arc (record { source = a; count = b; target = c })) (end a b))

undone : (e : Entry) → of_numbers (record_numbers e) ≡ e
undone (head core cores cells) = refl
undone (arc a) = refl
undone (end instructions arcs) = refl

pub same_entry : (d e : Entry) → record_numbers d ≡ record_numbers e → d ≡ e
same_entry d e q = sym (undone d) ∙ (ap of_numbers q ∙ undone e)
