use Rattle.std.proofs.Common.{◌∙◌, ap, length}
use Rattle.std.proofs.lemmas.List.{length-map}
use Rattle.dimensions.specs.Shown.{rows_on}
use Rattle.dimensions.proofs.AttributeLaws.{count_on}
use Rattle.dimensions.proofs.dims.Dims.row_count.Goals as goal

pub returns-clause-count : goal.returns-clause-count
returns-clause-count c = c.len.ensures ∙ ap length c.dimension.ensures.are.stores.keys
    ∙ length-map (rows_on c.args.self.now c.args.axis) (λ row. row.key) ∙ count_on c.args.self.now c.args.axis
