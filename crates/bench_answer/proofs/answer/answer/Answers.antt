-- The answer to an input that describes a session, and to one that does not.
use Rattle.std.proofs.Common.{◌≡◌, None, Err, string_bytes, sym, ap, ◌∙◌, subst}
use Rattle.bench_input.specs.Answers.{Answers}
use Rattle.bench_input.specs.Described.{described}
use Rattle.bench_input.specs.Session.{session_of}
use Rattle.bench_listing.specs.Lines.{text_of}
use Rattle.bench_answer.specs.Answer.{answer_lines}
use Rattle.std.proofs.lemmas.Result.{IfOk-weaker}
use Rattle.bench_answer.proofs.Telling.{answers_session, answers_bad}
use Rattle.bench_answer.proofs.answer.answer.Goals as goal

pub returns-in-Ok : goal.returns-in-Ok
returns-in-Ok c =
    let input = c.args.input.now in
    let d = c.in-Ok.ensures.answer in
    record {
      text = IfOk-weaker c.run_input.result _ _ (λ s h. h ∙ ap (λ o. text_of (answer_lines o)) (sym d)) c.run_input.ensures;
      bad = IfOk-weaker c.run_input.result _ _ (λ s h. answers_session input (string_bytes s) (session_of c.in-Ok.described) d h) c.run_input.ensures;
    }

pub returns-in-Err-Bad : goal.returns-in-Err-Bad
returns-in-Err-Bad c =
    let input = c.args.input.now in
    let d : described input ≡ None = subst (λ e. Answers session_of (described input) (Err e)) c.in-Err-Bad.field-0-is c.in-Err-Bad.ensures.answer in
    record {
      text = IfOk-weaker c.from_str.result _ _ (λ s h. h ∙ ap (λ o. text_of (answer_lines o)) (sym d)) c.from_str.ensures.ok;
      bad = IfOk-weaker c.from_str.result _ _ (λ s h. answers_bad input (string_bytes s) d h) c.from_str.ensures.ok;
    }
