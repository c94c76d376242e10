use Rattle.std.proofs.Common.{◌∙◌, ap, arith, sym, subst}
use Rattle.std.proofs.lemmas.List.{get_or_read}
use Rattle.cube_model.specs.declared.attr.Axis.{Axis}
use Rattle.cube_model.specs.declared.attr.Axis.TheVariants.{Customer, Supplier, Part, Date}
use Rattle.cube_model.specs.declared.rows.DimRows.{DimRows}
use Rattle.cube_model.specs.Validity.{HaveShortTexts}
use Rattle.dictionary.specs.Spelling.{AreShort}
use Rattle.dimensions.specs.ShortTexts.{AreShortRows, IsShortRow}
use Rattle.dimensions.specs.TextRows.{row_of_customer, row_of_supplier, row_of_part, row_of_date}
use Rattle.dimensions.specs.Dimensions.{no_column}
use Rattle.dimensions.specs.Shown.{rows_on}
use Rattle.dimensions.proofs.ShortLaws.{all_map}
use Rattle.dimensions.proofs.DimensionCodes.{column_texts, column_short}
use Rattle.dimensions.proofs.dims.Dims.texts.Goals as goal

short_on : (rows : DimRows) (axis : Axis) → HaveShortTexts rows → AreShortRows (rows_on rows axis)
short_on rows Customer short = all_map IsShortRow row_of_customer rows.customers short.customers
short_on rows Supplier short = all_map IsShortRow row_of_supplier rows.suppliers short.suppliers
short_on rows Part short = all_map IsShortRow row_of_part rows.parts short.parts
short_on rows Date short = all_map IsShortRow row_of_date rows.dates short.dates

pub returns-clause-texts : goal.returns-clause-texts
returns-clause-texts c =
    let read = get_or_read c.dimension.result.now.columns.items c.args.column c.index.result.now
    (omega (arith, c.requires, c.dimension.ensures.are.stores.count)) c.index.ensures no_column in
    ap (λ texts. texts.texts) (c.texts.ensures ∙ ap (λ column. column.texts) read)
    ∙ column_texts c.args.axis (rows_on c.args.self.now c.args.axis) c.dimension.result.now
    c.dimension.ensures.are.stores c.args.column c.requires

pub returns-clause-short : goal.returns-clause-short
returns-clause-short c =
    let read = get_or_read c.dimension.result.now.columns.items c.args.column c.index.result.now
    (omega (arith, c.requires, c.dimension.ensures.are.stores.count)) c.index.ensures no_column in
    subst (λ texts. AreShort texts.texts) (sym (c.texts.ensures ∙ ap (λ column. column.texts) read))
    (column_short c.args.axis (rows_on c.args.self.now c.args.axis) c.dimension.result.now
    c.dimension.ensures.are.stores c.args.column c.requires
    (short_on c.args.self.now c.args.axis c.dimension.ensures.storable.short))
