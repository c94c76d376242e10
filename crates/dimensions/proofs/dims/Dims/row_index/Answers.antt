use Rattle.std.proofs.Common.{◌∙◌, ◌==◌, ap}
use Rattle.std.specs.List.{position_or_len}
use Rattle.dimensions.proofs.AttributeLaws.{index_on}
use Rattle.dimensions.proofs.dims.Dims.row_index.Goals as goal

pub returns : goal.returns
returns c = c.row_index.ensures
    ∙ ap (position_or_len (λ other. other == c.args.key)) c.dimension.ensures.are.stores.keys
    ∙ index_on c.args.self.now c.args.axis c.args.key
