use Rattle.cuboid_cells.proofs.Continuing.{on_ok}
use Rattle.wire.proofs.Stopped.{decoded_bad}
use Rattle.cuboid_cells.proofs.pieces.RunReader.read_piece.Goals as goal

pub returns-clause-ok : goal.returns-clause-ok
returns-clause-ok g c =
    on_ok c.take_piece.result (λ ok keeps left to. ok _ left (c.in_ok-read_ahead.ensures.ok keeps left to))
    c.take_piece.ensures.ok

pub returns-clause-refused : goal.returns-clause-refused
returns-clause-refused g c = λ err keeps left to.
    decoded_bad _ c.take_piece.result c.take_piece.ensures.refused err _ left
    (c.in_ok-read_ahead.ensures.ok keeps left to)
