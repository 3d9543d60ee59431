-- Numbers that are tested part by part are those of a session, or of none.
use Rattle.std.proofs.Common.{◌≡◌, ℕ, Bool, true, false, cond, ◌&&◌, leb, List, get_or, Some, None, Err, sym, refl, ap, ◌∙◌}
use Rattle.std.proofs.lemmas.Bool.{cond-true, cond-false, and_left, and_right, and_from}
use Rattle.std.proofs.lemmas.Option.{cond_some}
use Rattle.bench_input.specs.Session.{Session, session_of}
use Rattle.bench_input.specs.Answers.{Answers, Parts, LaidOrBad}
use Rattle.bench_input.specs.declared.errors.InputError.{InputError}
use Rattle.bench_input.specs.declared.errors.InputError.TheVariants.{Bad, NoMemory}
use Rattle.bench_input.specs.Described.{all_bytes, kind_of, reduction_of, sized, text_of, well_formed, the_session, session}
use Rattle.bench_input.specs.declared.reading.Layout.{Layout}

false_from_none : {A : Type 0} (b : Bool) (x : A) → cond b (Some x) None ≡ None → b ≡ false
false_from_none true x e = absurd cc
false_from_none false x e = refl

module _ (ns : List ℕ) where
  abbrev kind_test : Bool
  kind_test = leb (get_or ns 0 0) 1

  abbrev reduction_test : Bool
  reduction_test = leb (get_or ns 1 0) 2

  abbrev text_test : Bool
  text_test = all_bytes (text_of ns)

  none_so : well_formed ns ≡ false → session ns ≡ None
  unfolding session
  none_so e = cond-false _ _ _ e

  -- what has no parts is no session
  pub not_laid_out : (e : InputError) → LaidOrBad ns (Err e) → Answers session_of (session ns) (Err e)
  not_laid_out Bad h = none_so (and_left (sized ns) (kind_test && (reduction_test && text_test)) h)
  not_laid_out NoMemory h = absurd h

  some_session : sized ns ≡ true → kind_test ≡ true → reduction_test ≡ true → text_test ≡ true → session ns ≡ Some (the_session ns)
  unfolding session
  some_session a b c d =
      cond-true _ _ _ (and_from (sized ns) (kind_test && (reduction_test && text_test)) a (and_from kind_test (reduction_test && text_test) b (and_from reduction_test text_test c d)))

  module _ (l : Layout) (parts : Parts ns l) where
    pub none_kind : cond (leb l.kind 1) (Some (kind_of l.kind)) None ≡ None → session ns ≡ None
    none_kind e =
        none_so (and_right (sized ns) (kind_test && (reduction_test && text_test))
        (and_left kind_test (reduction_test && text_test) (ap (λ n. leb n 1) (sym parts.kind) ∙ false_from_none _ _ e)))

    pub none_reduction : cond (leb l.reduction 2) (Some (reduction_of l.reduction)) None ≡ None → session ns ≡ None
    none_reduction e =
        none_so (and_right (sized ns) (kind_test && (reduction_test && text_test))
        (and_right kind_test (reduction_test && text_test) (and_left reduction_test text_test (ap (λ n. leb n 2) (sym parts.reduction) ∙ false_from_none _ _ e))))

    pub none_text : cond (all_bytes l.text.now) (Some l.text.now) None ≡ None → session ns ≡ None
    none_text e =
        none_so (and_right (sized ns) (kind_test && (reduction_test && text_test))
        (and_right kind_test (reduction_test && text_test) (and_right reduction_test text_test (ap all_bytes (sym parts.text) ∙ false_from_none _ _ e))))

    -- the parts that were read are those of the session
    pub read_whole : (s : Session)
        → cond (leb l.kind 1) (Some (kind_of l.kind)) None ≡ Some s.kind
        → cond (leb l.reduction 2) (Some (reduction_of l.reduction)) None ≡ Some s.reduction
        → s.cores ≡ l.cores
        → s.cells ≡ l.cells
        → cond (all_bytes l.text.now) (Some l.text.now) None ≡ Some s.text
        → s.starts ≡ l.starts.now
        → s.turns ≡ l.turns.now
        → session ns ≡ Some s
    read_whole s k r p c t st tu =
        let k' = cond_some (leb l.kind 1) _ _ k in
        let r' = cond_some (leb l.reduction 2) _ _ r in
        let t' = cond_some (all_bytes l.text.now) _ _ t in
        let same : the_session ns ≡ s = (λ i. record {
          kind = (ap kind_of (sym parts.kind) ∙ k'.1) i;
          reduction = (ap reduction_of (sym parts.reduction) ∙ r'.1) i;
          cores = sym (p ∙ parts.cores) i;
          cells = sym (c ∙ parts.cells) i;
          text = (sym parts.text ∙ t'.1) i;
          starts = sym (st ∙ parts.starts) i;
          turns = sym (tu ∙ parts.turns) i;
        }) in
        some_session parts.sizes (ap (λ n. leb n 1) (sym parts.kind) ∙ k'.0) (ap (λ n. leb n 2) (sym parts.reduction) ∙ r'.0) (ap all_bytes (sym parts.text) ∙ t'.0) ∙ ap Some same
