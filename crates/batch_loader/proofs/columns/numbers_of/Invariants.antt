use Rattle.batch_loader.specs.LineFields.{field_texts}
use Rattle.batch_loader.proofs.ColumnByColumn.{IsRead}
use Rattle.batch_loader.proofs.columns.numbers_of.Given as goal

abbrev pub invariant-loop-place : goal.invariant-loop-place
invariant-loop-place g l = IsRead l.line l.place-end l.columns (field_texts l.fields) l.numbers l.place
