-- The session that a text describes.
use Rattle.std.specs.Prelude.{◌≡◌, ℕ, ◌+◌, ◌*◌, Bool, true, cond, ◌&&◌, List, [], ◌∷◌, length, take, drop, Some, None, Option, ◌==◌, nat_le, slice_index}
use Rattle.std.specs.Int.{is_in_range}
use Rattle.bench_input.specs.declared.input.Kind.{Kind}
use Rattle.bench_input.specs.declared.input.Kind.TheVariants.{Script, Register}
use Rattle.bench_input.specs.declared.input.Reduction.{Reduction}
use Rattle.bench_input.specs.declared.input.Reduction.TheVariants.{KeepAll, Pairwise, Exact}
use Rattle.bench_input.specs.Numbers.{numbers}
use Rattle.bench_input.specs.Session.{Session, Describes}

abbrev pub all_bytes : List ℕ → Bool
all_bytes [] = true
all_bytes (n ∷ ns) = nat_le n 255 && all_bytes ns

-- 0 and 1
abbrev pub kind_of : ℕ → Kind
kind_of n = cond (n == 0) Script Register

-- 0, 1 and 2
abbrev pub reduction_of : ℕ → Reduction
reduction_of n = cond (n == 0) KeepAll (cond (n == 1) Pairwise Exact)

-- where the parts of a session stand among its numbers
abbrev pub cores_of : List ℕ → ℕ
cores_of ns = slice_index ns 2

abbrev pub text_size : List ℕ → ℕ
text_size ns = 4 * slice_index ns 4

abbrev pub text_of : List ℕ → List ℕ
text_of ns = take (text_size ns) (drop 5 ns)

-- the place of the number of turns
abbrev pub turns_at : List ℕ → ℕ
turns_at ns = 5 + text_size ns + cores_of ns

abbrev pub starts_of : List ℕ → List ℕ
starts_of ns = take (cores_of ns) (drop (5 + text_size ns) ns)

abbrev pub turns_of : List ℕ → List ℕ
turns_of ns = drop (turns_at ns + 1) ns

abbrev pub the_session : List ℕ → Session
the_session ns = record {
  kind = kind_of (slice_index ns 0);
  reduction = reduction_of (slice_index ns 1);
  cores = cores_of ns;
  cells = slice_index ns 3;
  text = text_of ns;
  starts = starts_of ns;
  turns = turns_of ns;
}

-- each number of things is in its range, and there are as many numbers as they say
abbrev pub sized : List ℕ → Bool
sized ns = is_in_range 1 4 (cores_of ns) && (is_in_range 1 256 (slice_index ns 3) && (nat_le (slice_index ns 4) 256 && (nat_le (slice_index ns (turns_at ns)) 1024 && length ns == turns_at ns + 1 + slice_index ns (turns_at ns))))

abbrev pub well_formed : List ℕ → Bool
well_formed ns = sized ns && (nat_le (slice_index ns 0) 1 && (nat_le (slice_index ns 1) 2 && all_bytes (text_of ns)))

-- the session of these numbers, if they are those of one
unfoldable pub session : List ℕ → Option Session
session ns = cond (well_formed ns) (Some (the_session ns)) None

abbrev pub session_in : Option (List ℕ) → Option Session
session_in None = None
session_in (Some ns) = session ns

-- the session that a text describes, if it describes one
unfoldable pub described : List ℕ → Option Session
described bs = session_in (numbers bs)

-- `described` finds just the sessions that are described
abbrev pub FindsTheDescribed : Type 0
FindsTheDescribed = (bs : List ℕ) (s : Session) → (described bs ≡ Some s → Describes bs s) × (Describes bs s → described bs ≡ Some s)
