use Rattle.std.proofs.Common.{◌∙◌}
use Rattle.std.proofs.lemmas.Int.{to_z-of_z}
use Rattle.std.specs.Int.{w128}
use Rattle.column_segment.proofs.Totals.{byte_sum}
use Rattle.column_segment.proofs.sums.sum_of_bytes.Goals as goal

pub whole-requires : goal.whole-requires
whole-requires c =
    (byte_sum c.args.bytes.now c.args.layout.now c.requires.columns c.args.mask.now (λ k. (c.type_inv.bytes k).fits)
    c.args.column.name c.args.column.wide c.byte_part.result.now c.sum_of_bytes.result c.byte_part.ensures.value
    c.sum_of_bytes.ensures).0

pub returns : goal.returns
returns c =
    to_z-of_z w128 c.whole.result (record { sfits = c.whole.type_inv }) ∙ c.whole.ensures
    ∙ (byte_sum c.args.bytes.now c.args.layout.now c.requires.columns c.args.mask.now (λ k. (c.type_inv.bytes k).fits)
    c.args.column.name c.args.column.wide c.byte_part.result.now c.sum_of_bytes.result c.byte_part.ensures.value
    c.sum_of_bytes.ensures).1
