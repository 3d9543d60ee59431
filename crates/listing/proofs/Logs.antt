-- The logs of a store, listed core by core.
use Rattle.std.proofs.Common.{◌≡◌, ℕ, suc, ◌+◌, ◌-◌, ◌<◌, ◌≤◌, Bool, cond, List, [], ◌++◌, is_ok, Ok, sym, refl, ap, ◌∙◌, append-nil, arith}
use Rattle.records.specs.declared.settings.Sizes.{Sizes}
use Rattle.records.specs.declared.reading.Reader.{Reader}
use Rattle.records.specs.declared.reading.State.TheVariants.{Before}
use Rattle.records.specs.Reading.{View, view, reader_at, reader_as}
use Rattle.records.specs.Settings.{log_of, heading_of}
use Rattle.logs.specs.Session.{read_log}
use Rattle.logs.specs.Walk.{reading_from, at_front}
use Rattle.logs.proofs.Cores.{new_reader}
use Rattle.listing.specs.Lines.{full_line, title}
use Rattle.listing.specs.Listing.{entry_lines, log_lines, logs_from}
use Rattle.listing.proofs.Texts.{in_turn}

-- a log's title and the lines of its records, read by a reader at its front
pub log_listed : (store : List ℕ) (z : Sizes) (j : ℕ) (v : View) → v ≡ at_front (heading_of z j) (log_of store z j) → (s₀ s₁ s₂ : List ℕ) (b : Bool) →
    s₁ ≡ s₀ ++ full_line (title j) → (s₂ ≡ s₁ ++ entry_lines j v.cursor (reading_from v).entries) × (b ≡ is_ok (reading_from v).verdict) →
    (s₂ ≡ s₀ ++ log_lines store z j) × (b ≡ is_ok (read_log store z j).verdict)
log_listed store z j v front s₀ s₁ s₂ b titled rest = (
  in_turn s₀ s₁ s₂ (full_line (title j)) (entry_lines j 0 (read_log store z j).entries) titled (rest.0 ∙ ap (λ u. s₁ ++ entry_lines j u.cursor (reading_from u).entries) front),
  rest.1 ∙ ap (λ u. is_ok (reading_from u).verdict) front,
)

-- what is written, with the logs from core j on
module _ (store : List ℕ) (z : Sizes) (j : ℕ) (before all : List ℕ) (inv : before ++ logs_from store z (z.cores - j) j ≡ all) where
  logs_next : (k : ℕ) → logs_from store z (suc k) j ≡ log_lines store z j ++ cond (is_ok (read_log store z j).verdict) (logs_from store z k (j + 1)) []
  unfolding logs_from
  logs_next k = refl

  logs_none : logs_from store z 0 j ≡ []
  unfolding logs_from
  logs_none = refl

  -- core j's log is written, by a new reader
  pub log_written : (r : Reader) → reader_as (Ok r) ≡ reader_at store z j 0 Before → (titled after : List ℕ) (whole b : Bool) → j < z.cores →
      titled ≡ before ++ full_line (title j) → (after ≡ titled ++ entry_lines j r.cursor (reading_from (view r)).entries) × (whole ≡ is_ok (reading_from (view r)).verdict) →
      whole ≡ b → after ++ cond b (logs_from store z (z.cores - (j + 1)) (j + 1)) [] ≡ all
  log_written r new titled after whole b h title rest e =
      let wrote = log_listed store z j (view r) (new_reader store z j r new) before titled after whole title rest in
      let more = logs_from store z (z.cores - (j + 1)) (j + 1) in
      let n : z.cores - j ≡ suc (z.cores - (j + 1)) = omega arith in
      ap (λ t. after ++ cond t more []) (sym e ∙ wrote.1)
      ∙ in_turn before after _ (log_lines store z j) (cond (is_ok (read_log store z j).verdict) more []) wrote.0 refl
      ∙ ap (λ l. before ++ l) (sym (ap (λ k. logs_from store z k j) n ∙ logs_next (z.cores - (j + 1))))
      ∙ inv

  pub logs_written : z.cores ≤ j → before ≡ all
  logs_written h =
      let n : z.cores - j ≡ 0 = omega arith in
      sym (append-nil before) ∙ ap (λ l. before ++ l) (sym (ap (λ k. logs_from store z k j) n ∙ logs_none)) ∙ inv
