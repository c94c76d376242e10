use Rattle.std.proofs.Common.{◌≡◌, IsTrue, arith}
use Rattle.lattice.specs.Views.{index_of}
use Rattle.cuboid_cells.proofs.Decoded.{no_other}
use Rattle.cuboid_cells.proofs.reading.Header.view.Goals as goal

pub returns-else-is_with-clause-none : goal.returns-else-is_with-clause-none
returns-else-is_with-clause-none c =
    let named : c.args.self.now.view ≡ index_of c.in_ok-view.view =
    omega (arith, c.in_ok-view.ensures.found, c.if-self-ge512.false) in
    no_other c.args.bytes c.args.self.now c.in_ok-view.view named
    (λ with_it. let yes : IsTrue c.is_with.result = c.is_with.ensures.1 with_it in cc c.if-is_with.false)
