-- The arcs of bodies that stand one behind the other, and how many a body has.
use Rattle.std.proofs.Common.{◌≡◌, ◌≤◌, List, [], ◌∷◌, ◌++◌, map, length, refl, ap, ◌∙◌, arith}
use Rattle.std.specs.List.{AllByRecursion}
use Rattle.records.specs.Format.{LogArc, Entry, head, arc, end}
use Rattle.logs.specs.Lawful.{Between, arcs_in}

pub all_append : {X : Type 0} (P : X → Type 0) (xs ys : List X) → AllByRecursion P xs → AllByRecursion P ys → AllByRecursion P (xs ++ ys)
all_append P [] ys h k = k
all_append P (x ∷ xs) ys h k = (h.0, all_append P xs ys h.1 k)

pub arcs_append : (xs ys : List Entry) → arcs_in (xs ++ ys) ≡ arcs_in xs ++ arcs_in ys
arcs_append [] ys = refl
arcs_append (head _ _ _ ∷ xs) ys = arcs_append xs ys
arcs_append (arc a ∷ xs) ys = ap (λ r. a ∷ r) (arcs_append xs ys)
arcs_append (end _ _ ∷ xs) ys = arcs_append xs ys

-- arcs alone
pub arcs_alone : (arcs : List LogArc) → arcs_in (map arc arcs) ≡ arcs
arcs_alone [] = refl
arcs_alone (a ∷ more) = ap (λ r. a ∷ r) (arcs_alone more)

pub arcs_between : (arcs : List LogArc) → AllByRecursion Between (map arc arcs)
arcs_between [] = tt
arcs_between (a ∷ more) = (tt, arcs_between more)

pub arcs_more : (body : List Entry) (new : List LogArc) → arcs_in (body ++ map arc new) ≡ arcs_in body ++ new
arcs_more body new = arcs_append body (map arc new) ∙ ap (λ r. arcs_in body ++ r) (arcs_alone new)

pub arcs_few : (body : List Entry) → length (arcs_in body) ≤ length body
arcs_few [] = omega arith
arcs_few (head _ _ _ ∷ more) = omega (arith, arcs_few more)
arcs_few (arc a ∷ more) = omega (arith, arcs_few more)
arcs_few (end _ _ ∷ more) = omega (arith, arcs_few more)
