-- The session of the numbers is the one that the bytes describe.
use Rattle.std.proofs.Common.{◌≡◌, ℕ, vec_items, Option, sym, ap, ◌∙◌, subst}
use Rattle.std.specs.declared.alloc.Global.{Global}
use Rattle.std.proofs.lemmas.Result.{err_from_is_err_and}
use Rattle.bench_input.specs.Answers.{Answers}
use Rattle.bench_input.specs.Described.{session, session_in, described}
use Rattle.bench_input.specs.Session.{Session, session_of}
use Rattle.bench_input.proofs.Refusals.{handed_on, in_words}
use Rattle.bench_input.proofs.reading.read_input.Goals as goal

pub returns-in_err-numbers : goal.returns-in_err-numbers
unfolding described
returns-in_err-numbers c =
    let p = err_from_is_err_and c.from_residual.result c.from_residual.ensures.1 in
    let a : Answers session_of (described c.args.bytes.now) c.from_residual.result = rw (p.1, p.2) (handed_on (vec_items {X = ℕ} {Z = Global}) session_of _ _ _ (λ e. ap session_in e) c.in_err-numbers.ensures) in
    record { answer = a; words = in_words c.args.bytes.now c.from_residual.result a }

pub returns : goal.returns
unfolding described
returns c =
    let P : Option Session → Type 0 = λ o. Answers session_of o c.input_of.result in
    let same : session c.as_slice.result.now ≡ described c.args.bytes.now = ap session c.as_slice.ensures.value ∙ ap session_in (sym c.in_ok-numbers.ensures) in
    let a = subst P same c.input_of.ensures in
    record { answer = a; words = in_words c.args.bytes.now c.input_of.result a }
