use Rattle.column_segment.specs.declared.columns.TextColumn.TheVariants.{OrderPriority, ShipPriority, CommitDate}
use Rattle.column_segment.specs.declared.columns.TextColumn.TheVariants.{ShipMode}
use Rattle.column_segment.proofs.rows.row_at.Goals as goal

pub two_texts-requires-clause-one : goal.two_texts-requires-clause-one
two_texts-requires-clause-one c = c.requires.readable.codes OrderPriority

pub two_texts-requires-clause-other : goal.two_texts-requires-clause-other
two_texts-requires-clause-other c = c.requires.readable.codes ShipPriority

pub two_texts-requires-2-clause-one : goal.two_texts-requires-2-clause-one
two_texts-requires-2-clause-one c = c.requires.readable.codes CommitDate

pub two_texts-requires-2-clause-other : goal.two_texts-requires-2-clause-other
two_texts-requires-2-clause-other c = c.requires.readable.codes ShipMode
