use Rattle.std.proofs.Common.{◌∙◌, arith, sym, true≢false}
use Rattle.column_segment.proofs.ProjectingLemmas.{front_fits, front_found}
use Rattle.column_segment.proofs.Shared.{columns_there, numbers_there}
use Rattle.column_segment.proofs.projecting.read_at_once.Goals as goal

pub returns-then-not-has_room-clause-refused : goal.returns-then-not-has_room-clause-refused
returns-then-not-has_room-clause-refused g c = λ err keeps text rows at many is.
    c.has_room.ensures.none (λ yes. true≢false (sym yes ∙ c.if-not-has_room.true)) keeps text at
    (numbers_there text c.args.number c.args.rows rows is many).room

pub returns-then-not-is_front-clause-refused : goal.returns-then-not-is_front-clause-refused
returns-then-not-is_front-clause-refused g c = λ err keeps text rows at many is.
    let numbers = numbers_there text c.args.number c.args.rows rows is many in
    let fits = front_fits c.read_over.new.bytes text c.args.rows
    (omega (arith, c.requires.holds.room, c.read_over.ensures.outside.long)) numbers.room
    (c.in_ok-read_over.ensures.inside keeps text at)
    c.args.number c.args.columns.now (columns_there text c.args.number c.args.rows rows is many).header numbers in
    true≢false (sym (c.is_front.ensures.1 fits) ∙ c.if-not-is_front.true)

pub returns-clause-found : goal.returns-clause-found
returns-clause-found g c keeps =
    (front_found c.read_over.new.bytes c.args.rows (g.S.Source.texts c.args.source.now c.args.id)
    (omega (arith, c.requires.holds.room, c.read_over.ensures.outside.long))
    (c.has_room.ensures.text c.if-not-has_room.false (c.in_ok-read_over.ensures.run.stays.word keeps))
    (c.in_ok-read_over.ensures.inside keeps)
    c.args.number c.args.columns.now (c.is_front.ensures.0 c.if-not-is_front.false)).0

pub returns-clause-checked : goal.returns-clause-checked
returns-clause-checked g c keeps =
    (front_found c.read_over.new.bytes c.args.rows (g.S.Source.texts c.args.source.now c.args.id)
    (omega (arith, c.requires.holds.room, c.read_over.ensures.outside.long))
    (c.has_room.ensures.text c.if-not-has_room.false (c.in_ok-read_over.ensures.run.stays.word keeps))
    (c.in_ok-read_over.ensures.inside keeps)
    c.args.number c.args.columns.now (c.is_front.ensures.0 c.if-not-is_front.false)).1
