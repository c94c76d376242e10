use Rattle.std.proofs.Common.{◌∙◌}
use Rattle.cuboid_cells.proofs.After.{one_more}
use Rattle.cuboid_cells.proofs.Continuing.{least_more, rules_more}
use Rattle.cuboid_cells.proofs.reading.read_on.Goals as goal

pub loop-preserved : goal.loop-preserved
loop-preserved c =
    let before = c.loop.invariant in
    let cell = c.next_cell-cell.result in
    let more = one_more c.args.view.ship_mode c.loop.counter c.args.cursor.now c.loop.cursor c.next_cell-cell.new.cursor
    c.loop.cells.items c.push.new.self.items cell
    c.in_ok-push.ensures.items
    (record { readable = before.readable; many = before.many; spelled = before.spelled; left = before.left })
    c.next_cell-cell.ensures in
    record {
      many = more.many;
      readable = more.readable;
      spelled = more.spelled;
      left = more.left;
      next = c.number_after-next.ensures
          ∙ least_more c.args.least c.loop.cells.items c.push.new.self.items cell c.in_ok-push.ensures.items;
      rules = rules_more c.args.view c.args.least c.loop.next c.loop.cells.items c.push.new.self.items cell c.loop.fine
          c.may_follow-fine.result c.in_ok-push.ensures.items before.next before.rules c.may_follow-fine.ensures;
    }
