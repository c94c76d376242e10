use Rattle.std.proofs.Common.{refl}
use Rattle.cuboid_cells.proofs.Continuing.{from_rules, rules_of}
use Rattle.cuboid_cells.proofs.reading.read_cells.Goals as goal

pub returns-in-Some-clause-rules : goal.returns-in-Some-clause-rules
returns-in-Some-clause-rules c =
    let found = rw c.in-Some.is at c.in_ok-read_on.ensures.some in
    (λ yes. rules_of c.args.view c.read_on.new.cells.items found.0, λ rules. refl)

pub returns-in-None-clause-rules : goal.returns-in-None-clause-rules
returns-in-None-clause-rules c =
    let none = rw c.in-None.is at c.in_ok-read_on.ensures.none in
    (λ yes. cc, λ rules. absurd (none (from_rules c.args.view c.read_on.new.cells.items rules)))
