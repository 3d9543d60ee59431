-- Which places of a text have an item, and that both kinds of core halt where there is none.
use Rattle.std.proofs.Common.{◌≡◌, ℕ, ◌+◌, ◌*◌, ◌<◌, ◌≤◌, Bool, true, false, cond, ltb, List, [], ◌∷◌, length, get_or, Some, None, refl, sym, ap, ◌∙◌, arith}
use Rattle.std.proofs.lemmas.Bool.{cond-true, cond-false, lt-ltb, le-ltb}
use Rattle.std.proofs.lemmas.Option.{none-some}
use Rattle.cores.specs.Text.{item_count}
use Rattle.cores.specs.Script.{script_moved}
use Rattle.cores.specs.Items.{Items}

counted : (text : List ℕ) (place : ℕ) → place < 65535 → 4 * place + 4 ≤ length text → place < item_count text
counted text place few inside = omega arith

cut_off : (text : List ℕ) (place : ℕ) → length text < 4 * place + 4 → item_count text ≤ place
cut_off text place short = omega arith

uncounted : (text : List ℕ) (place : ℕ) → 65535 ≤ place → item_count text ≤ place
uncounted text place many = omega arith

absent : (b : Bool) (x : List ℕ) → cond b (Some x) None ≡ None → b ≡ false
absent true x q = absurd (none-some x (sym q))
absent false x q = refl

pub the_items : Items
the_items = record {
  is_item = λ text place few inside.
      (let at : 4 * place + 0 ≡ 4 * place = omega arith in
      cond-true _ _ _ (lt-ltb place (item_count text) (counted text place few inside))
      ∙ ap (λ i. Some (get_or text i 0 ∷ get_or text (4 * place + 1) 0 ∷ get_or text (4 * place + 2) 0 ∷ get_or text (4 * place + 3) 0 ∷ [])) at);
  not_whole = λ text place short. cond-false _ _ _ (le-ltb place (item_count text) (cut_off text place short));
  past_all = λ text place many. cond-false _ _ _ (le-ltb place (item_count text) (uncounted text place many));
  script_halts = λ text place last number none.
      (let halts = cond-false _ _ _ (absent (ltb place (item_count text)) _ none) in
      (halts, ap (λ r. script_moved r (place ∷ last ∷ []) number) halts));
  register_halts = λ text place registers number none.
      (let past = absent (ltb place (item_count text)) _ none in
      (cond-false _ _ _ past, cond-false _ _ _ past));
}
