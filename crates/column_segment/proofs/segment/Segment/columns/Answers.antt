use Rattle.std.proofs.Common.{List, ℕ, sym, ap, subst, ◌∙◌, ◌≤◌, length}
use Rattle.column_segment.specs.Batch.{Batch}
use Rattle.column_segment.specs.Decoded.{HoldsColumns, decoded_rows}
use Rattle.column_segment.proofs.segment.Segment.columns.Goals as goal
use Rattle.cube_model.specs.Limits.{most_batch_rows}
use Rattle.column_segment.proofs.Values.{rows_many}

pub of-requires : goal.of-requires
of-requires c =
    let readable = c.self.invariant.readable in
    subst (λ (l : List ℕ). HoldsColumns l c.self.inside.layout.rows) (sym c.deref.ensures.value)
    (record { few = readable.few; room = readable.room })

pub returns-clause-rows : goal.returns-clause-rows
returns-clause-rows c = c.of.ensures ∙ ap (λ (l : List ℕ). decoded_rows l c.self.inside.layout) c.deref.ensures.value
    ∙ ap (λ (batch : Batch). batch.rows) c.self.view_is

pub returns-clause-few : goal.returns-clause-few
returns-clause-few c = subst (λ (n : ℕ). n ≤ most_batch_rows)
    (sym (rows_many c.self.inside.bytes.items c.self.inside.layout)
    ∙ ap (λ (batch : Batch). length batch.rows) c.self.view_is) c.self.invariant.readable.few
