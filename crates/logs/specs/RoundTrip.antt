-- A log that is written by the rules reads back as what was written.
use Rattle.std.specs.Prelude.{◌≡◌, ℕ, ◌≤◌, List, ◌++◌, length, Ok}
use Rattle.std.specs.List.{AllByRecursion}
use Rattle.records.specs.declared.settings.Heading.{Heading}
use Rattle.records.specs.Format.{Entry, written}
use Rattle.logs.specs.Lawful.{Body, arcs_in, whole}
use Rattle.logs.specs.Walk.{reading_from, at_front}

-- head, any body that obeys the rules, end, then any bytes
abbrev pub ReadsBack : Type 0
ReadsBack = (g : Heading) (body : List Entry) (n : ℕ) (behind : List ℕ) → g.cores ≤ 4 → length (arcs_in body) ≤ 65535 → Body g body → AllByRecursion (λ a. a.target ≤ n) (arcs_in body) →
    reading_from (at_front g (written (whole g body n) ++ behind)) ≡ record { entries = whole g body n; verdict = Ok n }
