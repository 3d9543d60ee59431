-- Numbers that are cut part by part are in the parts of a session, or their sizes are not kept to.
use Rattle.std.proofs.Common.{◌≡◌, ℕ, ◌+◌, ◌-◌, ◌*◌, ◌≤◌, true, false, List, length, get_or, take, drop, ap, ◌∙◌, add-zero, arith, length-drop}
use Rattle.std.specs.Int.{IsInRange}
use Rattle.std.specs.List.{IsSplitAt}
use Rattle.std.proofs.lemmas.List.{take_rest, drop-drop, get_or-drop}
use Rattle.bench_input.specs.Answers.{Counted}
use Rattle.bench_input.specs.Described.{cores_of, text_size, text_of, starts_of, turns_of, turns_at, sized}
use Rattle.bench_input.proofs.Fitting.{sized_so, unsized}

-- the text and what is behind it, then the starts and what is behind them
module _ (ns text behind starts rest : List ℕ) (k p : ℕ) (k-is : k ≡ get_or ns 4 0) (p-is : p ≡ cores_of ns) (five : 5 ≤ length ns)
    (cut : IsSplitAt (take (length ns - 5) (drop 5 ns)) (4 * k) text behind) (cut₂ : IsSplitAt behind p starts rest) where
  behind_is : behind ≡ drop (5 + text_size ns) ns
  behind_is = cut.2 ∙ (λ i. drop (4 * k-is i) (take_rest ns 5 i)) ∙ drop-drop (text_size ns) 5 ns

  rest_is : rest ≡ drop (turns_at ns) ns
  rest_is = cut₂.2 ∙ (λ i. drop (p-is i) (behind_is i)) ∙ drop-drop (cores_of ns) (5 + text_size ns) ns

  count_is : get_or rest 0 0 ≡ get_or ns (turns_at ns) 0
  count_is = ap (λ l. get_or l 0 0) rest_is ∙ get_or-drop (turns_at ns) ns 0 0 ∙ ap (λ i. get_or ns i 0) (add-zero (turns_at ns))

  all_there : length rest + turns_at ns ≡ length ns
  all_there = omega (arith, cut.4, cut₂.4, ap length (take_rest ns 5), length-drop 5 ns, k-is, p-is)

  pub text_laid : text ≡ text_of ns
  text_laid = cut.1 ∙ (λ i. take (4 * k-is i) (take_rest ns 5 i))

  pub starts_laid : starts ≡ starts_of ns
  starts_laid = cut₂.1 ∙ (λ i. take (p-is i) (behind_is i))

  pub turns_laid : drop 1 rest ≡ turns_of ns
  turns_laid = ap (drop 1) rest_is ∙ drop-drop 1 (turns_at ns) ns

  pub laid : IsInRange 1 4 (cores_of ns) → IsInRange 1 256 (get_or ns 3 0) → get_or ns 4 0 ≤ 256 → Counted rest → sized ns ≡ true
  laid cores cells items h =
      sized_so ns (record {
        cores = cores;
        cells = cells;
        items = items;
        turns = omega (arith, count_is, h.0);
        whole = omega (arith, count_is, all_there, h.1);
      })

  pub not_laid : ¬ Counted rest → sized ns ≡ false
  not_laid h = unsized ns (λ z. h (omega (arith, count_is, z.turns), omega (arith, count_is, all_there, z.whole)))
