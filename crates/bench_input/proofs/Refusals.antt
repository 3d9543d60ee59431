-- Where a part of the input is bad, or memory is wanting, the whole is refused as it should be.
use Rattle.std.proofs.Common.{◌≡◌, ℕ, List, Some, None, Ok, Err, Option, Result, sym, refl, subst}
use Rattle.bench_input.specs.declared.errors.InputError.{InputError}
use Rattle.bench_input.specs.declared.errors.InputError.TheVariants.{Bad, NoMemory}
use Rattle.bench_input.specs.declared.input.Input.{Input}
use Rattle.bench_input.specs.Answers.{Answers, or_bad, AnswersInWords}
use Rattle.bench_input.specs.Described.{described}
use Rattle.bench_input.specs.Session.{session_of}
use Rattle.bench_input.proofs.Finding.{described_so, so_described}

-- where the part is bad, so is the whole
pub handed_on : {X Y V W : Type 0} (f : X → Y) (g : V → W) (o : Option Y) (q : Option W) (e : InputError) → (o ≡ None → q ≡ None) → Answers f o (Err e) → Answers g q (Err e)
handed_on f g o q Bad h a = h a
handed_on f g o q NoMemory h a = tt

-- what takes no memory answers as it should
pub answered : {Y : Type 0} (o : Option Y) (r : Result Y InputError) → r ≡ or_bad o → Answers (λ y. y) o r
answered o r e = subst (Answers (λ y. y) o) (sym e) (by_case o)
  where
    by_case : {Y : Type 0} (o : Option Y) → Answers (λ y. y) o (or_bad o)
    by_case (Some y) = refl
    by_case None = refl

pub in_words : (bs : List ℕ) (r : Result Input InputError) → Answers session_of (described bs) r → AnswersInWords bs r
in_words bs (Ok input) a = described_so bs (session_of input) a
in_words bs (Err Bad) a = λ s d. let e = so_described bs s d in cc
in_words bs (Err NoMemory) a = tt
