use Rattle.stored_rows.proofs.Cells.{cells_kept}
use Rattle.stored_rows.proofs.laws.cells_stay.Goals as goal

pub returns : goal.returns
returns c = cells_kept
