use Rattle.object_store.specs.Reading.{two}
use Rattle.object_store.proofs.Looking.{either_same, slots_are, still_settled}
use Rattle.object_store.proofs.find.newest.Goals as goal

pub returns-clause-found : goal.returns-clause-found
returns-clause-found g c w2 =
    let w1 = c.read-2.ensures.word w2 in
    let s2 = g.D.Sectors.state c.read-2.new.self in
    either_same (two c.read.new.to c.read-2.new.to) s2.reads
    (slots_are (g.D.Sectors.state c.settle.new.device) (g.D.Sectors.state c.read.new.self) s2 (c.read.ensures.stays w1)
    (c.read-2.ensures.stays w2) c.read.new.to c.read-2.new.to (c.in_ok-read.ensures.bytes w1)
    (c.in_ok-read-2.ensures.bytes w2)) c.chosen.result c.chosen.ensures

pub returns-clause-settled : goal.returns-clause-settled
returns-clause-settled g c w2 =
    let w1 = c.read-2.ensures.word w2 in
    still_settled (g.D.Sectors.state c.settle.new.device) (g.D.Sectors.state c.read.new.self)
    (g.D.Sectors.state c.read-2.new.self) (c.read.ensures.stays w1) (c.read-2.ensures.stays w2)
    (c.in_ok-settle.ensures.settled (c.read.ensures.word w1))
