use Rattle.warehouse_objects.proofs.Contents.{rows_one}
use Rattle.warehouse_objects.proofs.laws.rows_are_one.Goals as goal

pub returns : goal.returns
returns c = rows_one
