-- A request whose cell exists leaves the cells beyond, and what is the same from a place on is the same from any later one.
use Rattle.std.proofs.Common.{◌≡◌, ℕ, ◌+◌, ◌-◌, ◌≤◌, true, List, drop, sym, refl, ap, ◌∙◌, arith}
use Rattle.std.proofs.lemmas.List.{drop-set-lt, drop-drop}
use Rattle.std.proofs.lemmas.Bool.{ltb-true}
use Rattle.cores.specs.Acting.{within}
use Rattle.cores.specs.Memory.{stored}
use Rattle.cores.specs.declared.interface.Request.{Request}
use Rattle.cores.specs.declared.interface.Request.TheVariants.{Halt, Local, Read, Write, Exchange}

pub stored_surplus : (r : Request) (n : ℕ) (cells : List ℕ) → within r n ≡ true → drop n (stored r cells) ≡ drop n cells
stored_surplus Halt n cells h = refl
stored_surplus Local n cells h = refl
stored_surplus (Read c) n cells h = refl
stored_surplus (Write c v) n cells h = drop-set-lt n cells c v (ltb-true c n h)
stored_surplus (Exchange c v) n cells h = drop-set-lt n cells c v (ltb-true c n h)

pub drop_further : {K : Type 0} (m n : ℕ) (xs ys : List K) → m ≤ n → drop m xs ≡ drop m ys → drop n xs ≡ drop n ys
drop_further m n xs ys h q =
    let e : m + (n - m) ≡ n = omega arith in
    ap (λ k. drop k xs) (sym e) ∙ sym (drop-drop (n - m) m xs) ∙ ap (drop (n - m)) q ∙ drop-drop (n - m) m ys ∙ ap (λ k. drop k ys) e
