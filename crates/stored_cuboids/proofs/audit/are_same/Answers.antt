use Rattle.std.proofs.lemmas.Slice.Eq.{slice_eq-Decides}
use Rattle.stored_cuboids.proofs.AuditLemmas.{cell_is, same_cell}
use Rattle.stored_cuboids.proofs.audit.are_same.Goals as goal

pub returns : goal.returns
returns c = slice_eq-Decides {E = same_cell} cell_is c.args.one.now c.args.other.now c.eq.result c.eq.ensures
