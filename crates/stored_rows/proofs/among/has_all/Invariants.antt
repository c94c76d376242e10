use Rattle.std.proofs.Common.{All, take}
use Rattle.stored_rows.proofs.among.has_all.Given as goal

abbrev pub invariant-loop-row : goal.invariant-loop-row
invariant-loop-row g l = All (g.R.KnownRow.is_among l.dims) (take l.row-index l.rows)
