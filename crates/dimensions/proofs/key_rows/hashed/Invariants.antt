use Rattle.std.proofs.Common.{nat_eq, take}
use Rattle.std.specs.HashMap.{get}
use Rattle.dimensions.specs.RowIndexes.{AreRowIndexes}
use Rattle.dimensions.proofs.key_rows.hashed.Given as goal

abbrev pub invariant-loop-row : goal.invariant-loop-row
invariant-loop-row l = AreRowIndexes (get nat_eq l.rows) (take l.row l.keys)
