use Rattle.std.proofs.Common.{refl, arith}
use Rattle.std.proofs.lemmas.List.{length-replicate}
use Rattle.batch_loader.specs.LineFields.{field_texts}
use Rattle.batch_loader.proofs.ColumnByColumn.{IsRead-numbers, length-parts_at}
use Rattle.batch_loader.proofs.columns.numbers_of.Goals as goal

pub loop-place-init : goal.loop-place-init
loop-place-init g c = record {
  fault = refl;
  numbers_fit = λ k less. absurd (omega arith);
  count = length-replicate g.row.N 0;
  columns_count = c.told-columns;
  fields_count = omega (arith, length-parts_at c.args.fields.now.line.now c.args.fields.now.ends 0);
}

pub returns-clause-numbers : goal.returns-clause-numbers
returns-clause-numbers g c =
    IsRead-numbers c.args.line g.row.N c.args.columns.now (field_texts c.args.fields.now) c.loop-place.numbers
    c.loop-place.place (omega (arith, c.loop-place-test.false)) c.loop-place.invariant
