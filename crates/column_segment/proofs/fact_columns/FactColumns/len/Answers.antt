use Rattle.std.proofs.Common.{◌≤◌, length, sym, ap, subst, ◌∙◌}
use Rattle.cube_model.specs.Limits.{most_batch_rows}
use Rattle.column_segment.proofs.Values.{rows_many}
use Rattle.column_segment.proofs.fact_columns.FactColumns.len.Goals as goal

pub returns-clause-count : goal.returns-clause-count
returns-clause-count c = sym (rows_many c.self.inside.bytes.now c.self.inside.layout.now) ∙ ap length c.self.view_is

pub returns-clause-few : goal.returns-clause-few
returns-clause-few c =
    subst (λ n. n ≤ most_batch_rows) (sym (rows_many c.self.inside.bytes.now c.self.inside.layout.now)
    ∙ ap length c.self.view_is) c.self.invariant.few
