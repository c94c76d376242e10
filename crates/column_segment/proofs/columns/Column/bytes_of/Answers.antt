use Rattle.std.proofs.Common.{◌≤◌, ℕ, take, ap, subst, ◌∙◌}
use Rattle.wire.specs.Spelling.{spelling}
use Rattle.column_segment.proofs.ColumnsLemmas.{few_bytes, front_spelling}
use Rattle.column_segment.proofs.columns.Column.bytes_of.Goals as goal

pub returns-clause-value : goal.returns-clause-value
unfolding spelling
returns-clause-value g c =
    let few : g.row.WIDTH ≤ 8 = subst (λ (n : ℕ). n ≤ 8) c.args.self.wide (few_bytes c.args.self.name) in
    c.copy_from_slice.ensures.after ∙ ap (take g.row.WIDTH) c.to_le_bytes.ensures
    ∙ front_spelling g.row.WIDTH c.number_of.result few
    ∙ ap (spelling g.row.WIDTH) c.number_of.ensures.value
