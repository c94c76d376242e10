use Rattle.std.proofs.Common.{◌∙◌, ap, arith}
use Rattle.std.proofs.lemmas.List.{get_or_read}
use Rattle.dimensions.specs.Dimensions.{no_column}
use Rattle.dimensions.specs.Shown.{rows_on}
use Rattle.dimensions.proofs.DimensionCodes.{column_codes}
use Rattle.dimensions.proofs.dims.Dims.codes.Goals as goal

pub returns-clause-codes : goal.returns-clause-codes
returns-clause-codes c =
    let read = get_or_read c.dimension.result.now.columns.items c.args.column c.index.result.now
    (omega (arith, c.requires, c.dimension.ensures.are.stores.count)) c.index.ensures no_column in
    c.codes.ensures ∙ ap (λ column. column.codes) read
    ∙ column_codes c.args.axis (rows_on c.args.self.now c.args.axis) c.dimension.result.now
    c.dimension.ensures.are.stores c.args.column c.requires
