use Rattle.std.proofs.Common.{arith}
use Rattle.cuboid_cells.proofs.PiecesLemmas.{halved, no_cell}
use Rattle.cuboid_cells.proofs.pieces.RunReader.narrowed.Goals as goal

pub returns-clause-ok : goal.returns-clause-ok
returns-clause-ok g c = λ keeps left at parted.
    let run = c.args.self.now in
    halved (g.S.Source.texts c.args.source.now run.id) run left c.args.least c.args.place c.in_ok-number.number
    c.args.range c.half_of.result at c.requires.from
    (omega (arith, c.if-place-range.false)) (omega (arith, c.if-place-range-2.false)) c.requires.to
    (c.in_ok-number.ensures.ok keeps left no_cell at) c.half_of.ensures parted
