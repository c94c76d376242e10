use Rattle.std.proofs.Common.{[]}
use Rattle.group_numbers.specs.Rows.{row_at}
use Rattle.cuboid_upkeep.proofs.OwnModes.{every_mode}
use Rattle.cuboid_upkeep.proofs.row_numbers.row_number.Goals as goal

pub place-requires-clause-lies : goal.place-requires-clause-lies
place-requires-clause-lies g c =
    (c.in_ok-key.ensures.some [] (every_mode [] c.args.view (row_at (g.F.FactRows.rows c.args.rows.now) c.args.place)
    c.requires.no_modes)).lies

pub returns-clause-some : goal.returns-clause-some
returns-clause-some g c = record {
  key = c.in_ok-key.key;
  own = c.in_ok-key.ensures.some [] (every_mode [] c.args.view
      (row_at (g.F.FactRows.rows c.args.rows.now) c.args.place) c.requires.no_modes);
  is = c.place.ensures.is;
  below = c.place.ensures.within;
}
