-- A session is found in a text just if the text describes it.
use Rattle.std.proofs.Common.{◌≡◌, ℕ, zero, suc, ◌+◌, ◌*◌, ◌<◌, ◌≤◌, true, leb, List, [], ◌∷◌, ◌++◌, length, get_or, take, drop, Some, None, Option, sym, refl, ap, ◌∙◌, subst, add-zero, arith, length-append, length-drop}
use Rattle.std.specs.List.{AllByRecursion}
use Rattle.std.proofs.lemmas.List.{drop_more, drop-drop, drop_at, take_at, take-append-drop, length-take-le, get_or-drop}
use Rattle.std.proofs.lemmas.Bool.{cond-true, and_parts, and_from, leb-true, le-leb}
use Rattle.std.proofs.lemmas.Option.{cond_some}
use Rattle.bench_input.specs.declared.input.Kind.{Kind}
use Rattle.bench_input.specs.declared.input.Kind.TheVariants.{Script, Register}
use Rattle.bench_input.specs.declared.input.Reduction.{Reduction}
use Rattle.bench_input.specs.declared.input.Reduction.TheVariants.{KeepAll, Pairwise, Exact}
use Rattle.bench_input.specs.Numbers.{numbers}
use Rattle.bench_input.specs.Session.{Session, Describes, kind_number, reduction_number, session_numbers}
use Rattle.bench_input.specs.Described.{all_bytes, kind_of, reduction_of, cores_of, text_size, text_of, turns_at, well_formed, the_session, session, session_in, described, FindsTheDescribed}
use Rattle.bench_input.proofs.Fitting.{Fits, fits, tested, starts_length}

bytes_so : (ns : List ℕ) → all_bytes ns ≡ true → AllByRecursion (λ b. b < 256) ns
bytes_so [] e = tt
bytes_so (n ∷ ns) e =
    let p = and_parts (leb n 255) (all_bytes ns) e in
    let small = leb-true _ _ p.0 in
    (omega arith, bytes_so ns p.1)

so_bytes : (ns : List ℕ) → AllByRecursion (λ b. b < 256) ns → all_bytes ns ≡ true
so_bytes [] h = refl
so_bytes (n ∷ ns) h = let small : n ≤ 255 = omega (arith, h.0) in and_from _ _ (le-leb n 255 small) (so_bytes ns h.1)

-- kinds and reductions by their numbers
kind_back : (n : ℕ) → n ≤ 1 → kind_number (kind_of n) ≡ n
kind_back zero h = refl
kind_back (suc zero) h = refl
kind_back (suc (suc n)) h = absurd (omega arith)

reduction_back : (n : ℕ) → n ≤ 2 → reduction_number (reduction_of n) ≡ n
reduction_back zero h = refl
reduction_back (suc zero) h = refl
reduction_back (suc (suc zero)) h = refl
reduction_back (suc (suc (suc n))) h = absurd (omega arith)

kind_same : (k : Kind) → kind_of (kind_number k) ≡ k
kind_same Script = refl
kind_same Register = refl

reduction_same : (r : Reduction) → reduction_of (reduction_number r) ≡ r
reduction_same KeepAll = refl
reduction_same Pairwise = refl
reduction_same Exact = refl

kind_few : (k : Kind) → kind_number k ≤ 1
kind_few Script = omega arith
kind_few Register = omega arith

reduction_few : (r : Reduction) → reduction_number r ≤ 2
reduction_few KeepAll = omega arith
reduction_few Pairwise = omega arith
reduction_few Exact = omega arith

module _ (ns : List ℕ) where
  -- the parts of a list that fits, put together again
  module _ (f : Fits ns) where
    long : 6 + text_size ns + cores_of ns ≤ length ns
    long = omega (arith, f.sizes.whole)

    turns_length : length (drop (turns_at ns + 1) ns) ≡ get_or ns (turns_at ns) 0
    turns_length = omega (arith, f.sizes.whole, length-drop (turns_at ns + 1) ns)

    text_length : length (text_of ns) ≡ 4 * get_or ns 4 0
    text_length = length-take-le (text_size ns) (drop 5 ns) (omega (arith, long, length-drop 5 ns))

    head : ns ≡ get_or ns 0 0 ∷ get_or ns 1 0 ∷ get_or ns 2 0 ∷ get_or ns 3 0 ∷ get_or ns 4 0 ∷ drop 5 ns
    head =
        drop_more ns 0 0 (omega (arith, long))
        ∙ ap (λ l. get_or ns 0 0 ∷ l) (drop_more ns 1 0 (omega (arith, long))
        ∙ ap (λ l. get_or ns 1 0 ∷ l) (drop_more ns 2 0 (omega (arith, long))
        ∙ ap (λ l. get_or ns 2 0 ∷ l) (drop_more ns 3 0 (omega (arith, long))
        ∙ ap (λ l. get_or ns 3 0 ∷ l) (drop_more ns 4 0 (omega (arith, long))))))

    tail : drop 5 ns ≡ text_of ns ++ (take (cores_of ns) (drop (5 + text_size ns) ns) ++ (length (drop (turns_at ns + 1) ns) ∷ drop (turns_at ns + 1) ns))
    tail =
        sym (take-append-drop (text_size ns) (drop 5 ns))
        ∙ ap (λ l. text_of ns ++ l) (drop-drop (text_size ns) 5 ns
        ∙ sym (take-append-drop (cores_of ns) (drop (5 + text_size ns) ns))
        ∙ ap (λ l. take (cores_of ns) (drop (5 + text_size ns) ns) ++ l) (drop-drop (cores_of ns) (5 + text_size ns) ns
        ∙ drop_more ns (turns_at ns) 0 (omega (arith, long))
        ∙ ap (λ n. n ∷ drop (turns_at ns + 1) ns) (sym turns_length)))

    numbers_are : ns ≡ session_numbers (the_session ns) (get_or ns 4 0)
    numbers_are =
        head
        ∙ (λ i. sym (kind_back (get_or ns 0 0) f.kind) i ∷ sym (reduction_back (get_or ns 1 0) f.reduction) i ∷ get_or ns 2 0 ∷ get_or ns 3 0 ∷ get_or ns 4 0 ∷ tail i)

    describes : (bs : List ℕ) → numbers bs ≡ Some ns → Describes bs (the_session ns)
    describes bs e = record {
      items = get_or ns 4 0;
      order = e ∙ ap Some numbers_are;
      cores = f.sizes.cores;
      cells = f.sizes.cells;
      few_items = f.sizes.items;
      text = text_length;
      bytes = bytes_so (text_of ns) f.bytes;
      starts = starts_length ns f.sizes;
      few_turns = omega (arith, turns_length, f.sizes.turns);
    }

-- what a described session is like
pub described_so : (bs : List ℕ) (s : Session) → described bs ≡ Some s → Describes bs s
unfolding session described
described_so bs s = by_numbers (numbers bs) refl
  where
    by_session : (ns : List ℕ) → numbers bs ≡ Some ns → session ns ≡ Some s → Describes bs s
    by_session ns same e =
        let p = cond_some (well_formed ns) (the_session ns) s e in
        subst (Describes bs) p.1 (describes ns (fits ns p.0) bs same)

    by_numbers : (o : Option (List ℕ)) → numbers bs ≡ o → session_in o ≡ Some s → Describes bs s
    by_numbers None same e = absurd cc
    by_numbers (Some ns) same e = by_session ns same e

module _ (s : Session) (n : ℕ) where
  abbrev told : List ℕ
  told = session_numbers s n

  module _ (text_is : length s.text ≡ 4 * n) (starts_is : length s.starts ≡ s.cores) where
    past_text : drop (5 + 4 * n) told ≡ s.starts ++ (length s.turns ∷ s.turns)
    past_text = sym (drop-drop (4 * n) 5 told) ∙ drop_at s.text (s.starts ++ (length s.turns ∷ s.turns)) (4 * n) text_is

    past_starts : drop (turns_at told) told ≡ length s.turns ∷ s.turns
    past_starts = sym (drop-drop s.cores (5 + 4 * n) told) ∙ ap (drop s.cores) past_text ∙ drop_at s.starts (length s.turns ∷ s.turns) s.cores starts_is

    count_is : get_or told (turns_at told) 0 ≡ length s.turns
    count_is = ap (λ i. get_or told i 0) (sym (add-zero (turns_at told))) ∙ sym (get_or-drop (turns_at told) told 0 0) ∙ ap (λ l. get_or l 0 0) past_starts

    text_read : text_of told ≡ s.text
    text_read = take_at s.text (s.starts ++ (length s.turns ∷ s.turns)) (4 * n) text_is

    starts_read : take s.cores (drop (5 + 4 * n) told) ≡ s.starts
    starts_read = ap (take s.cores) past_text ∙ take_at s.starts (length s.turns ∷ s.turns) s.cores starts_is

    turns_read : drop (turns_at told + 1) told ≡ s.turns
    turns_read = sym (drop-drop 1 (turns_at told) told) ∙ ap (drop 1) past_starts

    whole_length : length told ≡ turns_at told + 1 + get_or told (turns_at told) 0
    whole_length =
        let rest : length (s.text ++ (s.starts ++ (length s.turns ∷ s.turns))) ≡ 4 * n + (s.cores + (1 + length s.turns)) = simp length-append (omega arith) in
        omega (arith, rest, count_is)

    read_back : the_session told ≡ s
    read_back = λ i. record {
      kind = kind_same s.kind i;
      reduction = reduction_same s.reduction i;
      cores = s.cores;
      cells = s.cells;
      text = text_read i;
      starts = starts_read i;
      turns = turns_read i;
    }

session_back : (bs : List ℕ) (s : Session) → (d : Describes bs s) → session (session_numbers s d.items) ≡ Some s
unfolding session
session_back bs s d =
    let n = d.items in
    let f : Fits (told s n) = record {
      sizes = record {
        cores = d.cores;
        cells = d.cells;
        items = d.few_items;
        turns = omega (arith, count_is s n d.text d.starts, d.few_turns);
        whole = whole_length s n d.text d.starts;
      };
      kind = kind_few s.kind;
      reduction = reduction_few s.reduction;
      bytes = ap all_bytes (text_read s n d.text d.starts) ∙ so_bytes s.text d.bytes;
    } in
    cond-true (well_formed (told s n)) (Some (the_session (told s n))) None (tested (told s n) f) ∙ ap Some (read_back s n d.text d.starts)

pub so_described : (bs : List ℕ) (s : Session) → Describes bs s → described bs ≡ Some s
unfolding described
so_described bs s d = ap session_in d.order ∙ session_back bs s d

pub finds_the_described : FindsTheDescribed
finds_the_described bs s = (described_so bs s, so_described bs s)
