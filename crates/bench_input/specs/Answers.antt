-- What a reader answers, against what its input holds.
use Rattle.std.specs.Prelude.{◌≡◌, ℕ, ◌+◌, ◌≤◌, true, false, List, Some, None, Ok, Err, Option, Result, length, slice_index}
use Rattle.bench_input.specs.declared.errors.InputError.{InputError}
use Rattle.bench_input.specs.declared.errors.InputError.TheVariants.{Bad, NoMemory}
use Rattle.bench_input.specs.declared.input.Input.{Input}
use Rattle.bench_input.specs.declared.reading.Layout.{Layout}
use Rattle.bench_input.specs.Described.{cores_of, text_of, starts_of, turns_of, sized}
use Rattle.bench_input.specs.Session.{Session, session_of, Describes}

-- the value, or `Bad` where there is none; where memory runs out nothing is said
abbrev pub Answers : {X Y : Type 0} → (X → Y) → Option Y → Result X InputError → Type 0
Answers view o (Ok x) = o ≡ Some (view x)
Answers view o (Err Bad) = o ≡ None
Answers view o (Err NoMemory) = Unit {0}

-- the value, or `Bad` where there is none; what takes no memory answers just this
abbrev pub or_bad : {Y : Type 0} → Option Y → Result Y InputError
or_bad (Some y) = Ok y
or_bad None = Err Bad

-- a count that comes first is at most 1,024, and so many numbers follow
abbrev pub Counted : List ℕ → Type 0
Counted ns = (slice_index ns 0 ≤ 1024) × (length ns ≡ slice_index ns 0 + 1)

-- the parts that stand among the numbers ns, whose sizes are in range and kept to
pub record Parts (ns : List ℕ) (l : Layout) : Type 0 where
  pub sizes : sized ns ≡ true
  pub kind : l.kind ≡ slice_index ns 0
  pub reduction : l.reduction ≡ slice_index ns 1
  pub cores : l.cores ≡ cores_of ns
  pub cells : l.cells ≡ slice_index ns 3
  pub text : l.text.now ≡ text_of ns
  pub starts : l.starts.now ≡ starts_of ns
  pub turns : l.turns.now ≡ turns_of ns

-- the parts among the numbers ns, or none where sizes are out of range or not kept to
abbrev pub LaidOut : List ℕ → Option Layout → Type 0
LaidOut ns None = sized ns ≡ false
LaidOut ns (Some l) = Parts ns l

-- the same, with `Bad` for none
abbrev pub LaidOrBad : List ℕ → Result Layout InputError → Type 0
LaidOrBad ns (Ok l) = Parts ns l
LaidOrBad ns (Err Bad) = sized ns ≡ false
LaidOrBad ns (Err NoMemory) = ⊥

-- a session that the bytes describe, or `Bad` where they describe none
abbrev pub AnswersInWords : List ℕ → Result Input InputError → Type 0
AnswersInWords bs (Ok input) = Describes bs (session_of input)
AnswersInWords bs (Err Bad) = (s : Session) → Describes bs s → ⊥
AnswersInWords bs (Err NoMemory) = Unit {0}
