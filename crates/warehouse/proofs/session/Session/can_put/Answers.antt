use Rattle.std.proofs.Common.{arith}
use Rattle.warehouse_objects.proofs.CallerLemmas.{few_objects}
use Rattle.warehouse.specs.Session.{content_of}
use Rattle.warehouse.proofs.Cuboids.{represented_agrees}
use Rattle.warehouse.proofs.session.Session.can_put.Goals as goal

pub returns-then-objects-puts-gt-MOST_OBJECTS-clause-represents :
    goal.returns-then-objects-puts-gt-MOST_OBJECTS-clause-represents
returns-then-objects-puts-gt-MOST_OBJECTS-clause-represents g c w at k =
    let few = few_objects (content_of g.D.Sectors c.args.self.now) w (at.represents k) in
    omega (arith, few, c.requires, c.objects.ensures, c.if-objects-puts-gt-MOST_OBJECTS.true)

pub returns-then-objects-puts-gt-MOST_OBJECTS-clause-agrees :
    goal.returns-then-objects-puts-gt-MOST_OBJECTS-clause-agrees
returns-then-objects-puts-gt-MOST_OBJECTS-clause-agrees g c w at k =
    let s = c.args.self.now in
    represented_agrees (content_of g.D.Sectors s) w s.modes (s.loaded at.fine k) (at.represents k)

pub returns-clause-agrees : goal.returns-clause-agrees
returns-clause-agrees g c w at k =
    let s = c.args.self.now in
    represented_agrees (content_of g.D.Sectors s) w s.modes (s.loaded at.fine k) (at.represents k)
