-- Part by part, the numbers of the text are found.
use Rattle.std.proofs.Common.{rules, tests, ℕ, vec_items, ap, ◌∙◌}
use Rattle.std.specs.declared.alloc.Global.{Global}
use Rattle.std.specs.Slice.Iter.{split_rest, split_done, split_callee}
use Rattle.std.proofs.lemmas.Iterator.Splits.{YieldsList-from_slice_split}
use Rattle.std.proofs.lemmas.Result.{err_from_is_err_and}
use Rattle.bench_input.specs.Numbers.{white}
use Rattle.bench_input.proofs.Refusals.{handed_on}
use Rattle.bench_input.proofs.Words.{none_read, word_read, word_bad, all_read}
use Rattle.bench_input.proofs.numbers.read_numbers.Given as given
use Rattle.bench_input.proofs.numbers.read_numbers.Goals as goal

pub loop-word-init : goal.loop-word-init
loop-word-init c =
    let same = c.into_iter-word-iterator.ensures.into_iter_gives in
    let cut = c.split-word-items.ensures in
    none_read (given.iterator-loop-word).next_gives (λ x. x.now) c.args.bytes.now _ _ c.new-found.ensures.items
    (YieldsList-from_slice_split _ white c.args.bytes.now (ap split_rest same ∙ cut.rest) (ap split_done same ∙ cut.done) (ap split_callee same ∙ cut.closure)
    (λ x r q k. search (rules, tests))).runs

pub loop-word-preserved : goal.loop-word-preserved
loop-word-preserved c = word_read (given.iterator-loop-word).next_gives (λ x. x.now) c.args.bytes.now c.loop-word.word-iterator c.next.new.self _ c.in-Some.word _ c.in-Some.ensures.steps c.in_ok-keep_word.ensures.kept c.loop-word.invariant

pub returns-in_err-keep_word : goal.returns-in_err-keep_word
returns-in_err-keep_word c =
    let p = err_from_is_err_and c.from_residual.result c.from_residual.ensures.1 in
    rw (p.1, p.2) (handed_on {X = Unit {0}} (λ _. vec_items c.keep_word.new.found) (vec_items {X = ℕ} {Z = Global}) _ _ _
    (word_bad (given.iterator-loop-word).next_gives (λ x. x.now) c.args.bytes.now c.loop-word.word-iterator c.next.new.self _ c.in-Some.word c.in-Some.ensures.steps c.loop-word.invariant) c.in_err-keep_word.ensures.kept)

pub returns : goal.returns
returns c = all_read (given.iterator-loop-word).next_gives (λ x. x.now) c.args.bytes.now c.loop-word.word-iterator c.next.new.self _ c.in-None.ensures.steps c.loop-word.invariant
