-- A request's numbers say which request it is.
use Rattle.std.proofs.Common.{◌≡◌, ℕ, List, cond, eqb, get_or, refl, sym, ap, ◌∙◌}
use Rattle.cores.specs.Acting.{request_numbers}
use Rattle.cores.specs.declared.interface.Request.{Request}
use Rattle.cores.specs.declared.interface.Request.TheVariants.{Halt, Local, Read, Write, Exchange}

-- the request of some numbers
abbrev of_numbers : List ℕ → Request
of_numbers n =
    let cell = get_or n 1 0 in
    let number = get_or n 2 0 in
    cond (eqb (get_or n 0 0) 0) Local
    (cond (eqb (get_or n 0 0) 1) (Read cell)
    (cond (eqb (get_or n 0 0) 2) (Write cell number)
    (cond (eqb (get_or n 0 0) 3) (Exchange cell number) Halt)))

undone : (r : Request) → of_numbers (request_numbers r) ≡ r
undone Local = refl
undone (Read cell) = refl
undone (Write cell number) = refl
undone (Exchange cell number) = refl
undone Halt = refl

pub same_request : (r s : Request) → request_numbers r ≡ request_numbers s → r ≡ s
same_request r s e = sym (undone r) ∙ (ap of_numbers e ∙ undone s)
