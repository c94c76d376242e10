use Rattle.std.proofs.Common.{sym, subst, ◌+◌}
use Rattle.group_numbers.specs.Columns.{AreColumns}
use Rattle.group_numbers.proofs.EachDigit.{AreColumns-next}
use Rattle.group_numbers.proofs.column.Column.all.Goals as goal

pub loop-i-preserved : goal.loop-i-preserved
loop-i-preserved c =
    subst (AreColumns c.args.dims.now c.args.columns.now (c.loop-i.i + 1)) (sym c.in_ok-push.ensures.items)
    (AreColumns-next c.args.dims.now c.args.columns.now c.loop-i.i c.loop-i.all.items c.in_ok-column.column
    c.loop-i.invariant c.in_ok-column.ensures)
