-- The arcs of a store, listed record by record and log by log.
use Rattle.std.proofs.Common.{◌≡◌, ℕ, suc, ◌+◌, List, [], ◌∷◌, ◌++◌, map, Ok, ltb, sym, refl, ap, ◌∙◌, append_assoc, append-nil, arith}
use Rattle.std.proofs.lemmas.Bool.{cond-true, lt-ltb}
use Rattle.records.specs.declared.reading.Reader.{Reader}
use Rattle.records.specs.declared.reading.State.TheVariants.{Before}
use Rattle.records.specs.declared.settings.Sizes.{Sizes}
use Rattle.records.specs.Format.{LogArc, Entry, head, arc, end}
use Rattle.records.specs.Reading.{view, reader_at, reader_as}
use Rattle.logs.specs.Walk.{reading_from}
use Rattle.logs.specs.Arcs.{RunArc, arc_to, arcs_by_core, logged}
use Rattle.logs.specs.Lawful.{arcs_in}
use Rattle.logs.specs.Session.{read_log}
use Rattle.logs.proofs.Cores.{new_reader, reader_inside}
use Rattle.bench_listing.specs.Lines.{joined, text_of}
use Rattle.bench_listing.specs.Runs.{arc_line, arcs_text, log_text}
use Rattle.bench_listing.proofs.Texts.{in_turn, text_append}

-- one record more
log_text_more : (j : ℕ) (e : Entry) (es : List Entry) → log_text j (e ∷ es) ≡ log_text j (e ∷ []) ++ log_text j es
log_text_more j (head _ _ _) es = refl
log_text_more j (arc a) es = sym (append_assoc (joined (arc_line (arc_to j a))) (10 ∷ []) (log_text j es))
log_text_more j (end _ _) es = refl

-- a record is written, and others are to come
pub record_written : (j : ℕ) (e : Entry) (es : List Entry) (before after : List ℕ) → after ≡ before ++ log_text j (e ∷ []) →
    before ++ log_text j (e ∷ es) ≡ after ++ log_text j es
record_written j e es before after wrote =
    sym (in_turn before after _ (log_text j (e ∷ [])) (log_text j es) wrote refl ∙ ap (λ l. before ++ l) (sym (log_text_more j e es)))

lines_append : (xs ys : List RunArc) → map arc_line (xs ++ ys) ≡ map arc_line xs ++ map arc_line ys
lines_append [] ys = refl
lines_append (x ∷ xs) ys = ap (λ l. arc_line x ∷ l) (lines_append xs ys)

arcs_append : (xs ys : List RunArc) → arcs_text (xs ++ ys) ≡ arcs_text xs ++ arcs_text ys
arcs_append xs ys = ap text_of (lines_append xs ys) ∙ text_append (map arc_line xs) (map arc_line ys)

-- one core more
by_core_next : (arcs : ℕ → List LogArc) (n : ℕ) → arcs_by_core arcs (suc n) ≡ arcs_by_core arcs n ++ map (arc_to n) (arcs n)
unfolding arcs_by_core
by_core_next arcs n = refl

-- no log is written yet
pub none_written : (arcs : ℕ → List LogArc) (s : List ℕ) → s ≡ s ++ arcs_text (arcs_by_core arcs 0)
unfolding arcs_by_core
none_written arcs s = sym (append-nil s)

-- the logs below core n are written, and then core n's, by a new reader
pub log_written : (store : List ℕ) (z : Sizes) (n : ℕ) (r : Reader) → reader_as (Ok r) ≡ reader_at store z n 0 Before → (s₀ s₁ s₂ : List ℕ) →
    s₁ ≡ s₀ ++ arcs_text (arcs_by_core (logged store z) n) → s₂ ≡ s₁ ++ log_text n (reading_from (view r)).entries → s₂ ≡ s₀ ++ arcs_text (arcs_by_core (logged store z) (n + 1))
log_written store z n r new s₀ s₁ s₂ before wrote =
    let arcs = logged store z in
    let here = map (arc_to n) (arcs n) in
    let next : suc n ≡ n + 1 = omega arith in
    let known : arcs n ≡ arcs_in (read_log store z n).entries = cond-true (ltb n z.cores) (arcs_in (read_log store z n).entries) [] (lt-ltb n z.cores (reader_inside store z n r new)) in
    in_turn s₀ s₁ s₂ (arcs_text (arcs_by_core arcs n)) (arcs_text here) before
    (wrote ∙ ap (λ v. s₁ ++ log_text n (reading_from v).entries) (new_reader store z n r new) ∙ ap (λ l. s₁ ++ arcs_text (map (arc_to n) l)) (sym known))
    ∙ ap (λ l. s₀ ++ l) (sym (arcs_append (arcs_by_core arcs n) here) ∙ ap arcs_text (sym (by_core_next arcs n)) ∙ ap (λ k. arcs_text (arcs_by_core arcs k)) next)
