use Rattle.std.proofs.Common.{◌∙◌, ℕ, List, [], None, Some, Option, refl, sym, ap, subst}
use Rattle.cuboid_cells.specs.Pieces.{AreLeft, ReadsOn}
use Rattle.cuboid_cells.specs.declared.cell.Cell.{Cell}
use Rattle.cuboid_cells.proofs.Continuing.{on_ok}
use Rattle.cuboid_upkeep.specs.CellNumbers.{AreUnwanted}
use Rattle.cube_query.specs.CellRuns.{ReadsWanted}
use Rattle.cube_query.proofs.CellRunsLemmas.{read_none, read_some, read_stays}
use Rattle.cube_query.proofs.cell_runs.read_wanted.Goals as goal

pub returns-in_default-clause-ok : goal.returns-in_default-clause-ok
returns-in_default-clause-ok g c = λ keeps left at.
    let asked = c.args.numbers.now in
    let run = c.args.run.now in
    let text = g.S.Source.texts c.args.source.now run.id in
    let none = subst (λ (n : ℕ). AreUnwanted asked n None) c.least.ensures c.in_default.ensures in
    subst (λ (cells : List Cell). ReadsWanted asked text left c.skip_all.new.self cells) (sym c.clear.ensures.items)
    (read_none asked text run c.skip_all.new.self left c.requires.view none at (c.skip_all.ensures.ok text left at))

pub returns-then-is_done-clause-ok : goal.returns-then-is_done-clause-ok
returns-then-is_done-clause-ok g c = λ keeps left at.
    let asked = c.args.numbers.now in
    let run = c.args.run.now in
    let text = g.S.Source.texts c.args.source.now run.id in
    let none = subst (λ (n : ℕ). AreUnwanted asked n (Some c.in-Some.least)) c.least.ensures c.in-Some.ensures in
    let over = c.in_ok-skip_to.ensures.ok keeps left at in
    subst (λ (cells : List Cell). ReadsWanted asked text left c.skip_to.new.self cells) (sym c.clear.ensures.items)
    (read_some asked text run c.skip_to.new.self c.skip_to.new.self left [] c.in-Some.least c.requires.view none at over
    (record { rest = over.rest; parts = refl; now = over.now }))

pub returns-clause-ok : goal.returns-clause-ok
returns-clause-ok g c =
    let asked = c.args.numbers.now in
    let run = c.args.run.now in
    let mid = c.skip_to.new.self in
    let text = g.S.Source.texts c.args.source.now run.id in
    let none = subst (λ (n : ℕ). AreUnwanted asked n (Some c.in-Some.least)) c.least.ensures c.in-Some.ensures in
    on_ok c.read_piece.result (λ reads keeps left at.
    let kept = (read_stays g.S.Source c.skip_to.new.source c.read_piece.new.source c.read_piece.result
    c.read_piece.ensures.run).word keeps in
    let over = c.in_ok-skip_to.ensures.ok kept left at in
    let same = ap (λ (n : ℕ). g.S.Source.texts c.skip_to.new.source n) c.in_ok-skip_to.ensures.id
    ∙ c.in_ok-skip_to.ensures.run.stays.texts kept run.id in
    read_some asked text run mid c.read_piece.new.self left c.read_piece.new.cells.items c.in-Some.least c.requires.view
    none at over
    (subst (λ (t : Option (List ℕ)). ReadsOn t over.rest c.read_piece.new.self c.read_piece.new.cells.items) same
    (reads keeps over.rest (subst (λ (t : Option (List ℕ)). AreLeft t mid over.rest) (sym same) over.now))))
    c.read_piece.ensures.ok

pub returns-clause-refused : goal.returns-clause-refused
returns-clause-refused g c = λ bad keeps left at.
    let run = c.args.run.now in
    let mid = c.skip_to.new.self in
    let kept = (read_stays g.S.Source c.skip_to.new.source c.read_piece.new.source c.read_piece.result
    c.read_piece.ensures.run).word keeps in
    let over = c.in_ok-skip_to.ensures.ok kept left at in
    let same = ap (λ (n : ℕ). g.S.Source.texts c.skip_to.new.source n) c.in_ok-skip_to.ensures.id
    ∙ c.in_ok-skip_to.ensures.run.stays.texts kept run.id in
    c.read_piece.ensures.refused bad keeps over.rest
    (subst (λ (t : Option (List ℕ)). AreLeft t mid over.rest) (sym same) over.now)
