-- A line on standard error behind an act that changed nothing else makes a failure that says why.
use Rattle.std.proofs.Common.{◌≡◌, ℕ, List, ◌++◌, Some, None, Option, ap, ◌∙◌}
use Rattle.worlds.specs.Worlds.{State, Known, Complains}
use Rattle.commands.specs.Endings.{Disturbed, Fails}

pub said_why : (line : List ℕ → List ℕ) (why text : List ℕ) → text ≡ line why → (old mid new : Option State) → Known old mid Disturbed → Complains mid new text → Known old new (Fails line)
said_why line why text e None mid new d c = tt {0}
said_why line why text e (Some s) None new d c = absurd d
said_why line why text e (Some s) (Some t) None d c = absurd c
said_why line why text e (Some s) (Some t) (Some u) d c = (
  why,
  ap (λ (x : State). x.arguments) c ∙ d.0,
  ap (λ (x : State). x.file) c ∙ d.1,
  ap (λ (x : State). x.complained) c ∙ (λ i. d.2 i ++ e i),
)
