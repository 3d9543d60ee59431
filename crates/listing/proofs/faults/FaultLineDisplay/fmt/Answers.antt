-- A fault's line shows its numbers and what its cause says.
use Rattle.std.proofs.Output.{has_written_of_eq}
use Rattle.records.specs.Faults.{fault, session_fault}
use Rattle.listing.specs.Faults.{told, fault_text}
use Rattle.listing.proofs.faults.FaultLineDisplay.fmt.Goals as goal

pub returns-clause-writes : goal.returns-clause-writes
unfolding fault_text
returns-clause-writes g c = λ plain ok.
    let p = c.parts_of-layer.result in
    has_written_of_eq g.W.Write.write_str_gives c.args.f.now (told (fault p.0 p.1 p.2) p.3.now) (fault_text (session_fault c.args.self.now.found))
    c.write.new.self (λ i. told (c.parts_of-layer.ensures.numbers i) (c.parts_of-layer.ensures.words i)) (c.write.ensures.writes plain ok)
