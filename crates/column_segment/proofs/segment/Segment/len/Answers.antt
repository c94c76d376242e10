use Rattle.std.proofs.Common.{◌∙◌, length, sym, ap}
use Rattle.std.proofs.lemmas.List.FromFn.{length-map-range_with_len}
use Rattle.column_segment.specs.Batch.{Batch}
use Rattle.column_segment.specs.Decoded.{row_in}
use Rattle.column_segment.proofs.segment.Segment.len.Goals as goal

pub returns-clause-count : goal.returns-clause-count
returns-clause-count c =
    sym (length-map-range_with_len (row_in c.self.inside.bytes.items c.self.inside.layout) 0 c.self.inside.layout.rows)
    ∙ ap (λ (batch : Batch). length batch.rows) c.self.view_is
