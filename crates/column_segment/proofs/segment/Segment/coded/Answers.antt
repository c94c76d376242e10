use Rattle.std.proofs.Common.{map, sym, ap, ◌∙◌, ◌≤◌, length, subst}
use Rattle.dictionary.specs.Columns.{text_of_code}
use Rattle.column_segment.specs.Batch.{Batch}
use Rattle.column_segment.specs.Columns.{text_of}
use Rattle.column_segment.specs.Decoded.{codes_in}
use Rattle.column_segment.proofs.Values.{text_values}
use Rattle.column_segment.proofs.segment.Segment.coded.Goals as goal
use Rattle.cube_model.specs.Limits.{most_batch_rows}
use Rattle.column_segment.specs.declared.layout.Coded.{Coded}

pub returns-clause-texts : goal.returns-clause-texts
returns-clause-texts c =
    let layout = c.self.inside.layout in
    ap (map (text_of_code c.column-coded.result.now.texts.texts)) c.code_chunks.ensures
    ∙ (λ i. map (text_of_code (c.column-coded.ensures i).texts.texts)
    (codes_in (c.deref.ensures.value i) layout.rows (c.column-coded.ensures i).at))
    ∙ sym (text_values c.self.inside.bytes.items layout c.args.column)
    ∙ ap (λ (batch : Batch). map (text_of c.args.column) batch.rows) c.self.view_is

pub returns-clause-few : goal.returns-clause-few
returns-clause-few c =
    subst (λ (coded : Coded). length coded.texts.texts ≤ most_batch_rows) (sym c.column-coded.ensures)
    (c.self.invariant.readable.codes c.args.column).few
