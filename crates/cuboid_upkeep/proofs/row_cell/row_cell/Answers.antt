use Rattle.std.proofs.Common.{[], ◌∷◌, inr, refl}
use Rattle.group_numbers.specs.Rows.{row_at}
use Rattle.cuboid_upkeep.specs.Grouping.{key_of, summaries_over}
use Rattle.cuboid_upkeep.proofs.row_cell.row_cell.Goals as goal

pub returns-in_default-clause-refused : goal.returns-in_default-clause-refused
returns-in_default-clause-refused g c = (
  refl,
  λ dimensions modes view. inr (
    record {
      key = key_of dimensions modes view (row_at (g.F.FactRows.rows c.args.rows.now) c.args.place);
      count = 1;
      measures = summaries_over (row_at (g.F.FactRows.rows c.args.rows.now) c.args.place ∷ []);
    },
    refl,
    λ fits. c.in_default.ensures.none fits.measures,
  ),
)
