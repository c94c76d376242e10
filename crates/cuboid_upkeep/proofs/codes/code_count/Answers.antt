use Rattle.std.proofs.Common.{◌<◌, ◌∙◌, sym, ap, arith, length}
use Rattle.dimensions.specs.Shown.{rows_on}
use Rattle.dimensions.specs.TextRows.{column_of}
use Rattle.dimensions.proofs.AttributeLaws.{count_on}
use Rattle.dimensions.proofs.CallerLemmas.{good_texts}
use Rattle.dimensions.proofs.CodedRules.{firsts_placed}
use Rattle.dimensions.proofs.ColumnLaws.{code_at-within}
use Rattle.cuboid_upkeep.proofs.Coded.{few_days, in_level_column, in_no_column, in_texts}
use Rattle.cuboid_upkeep.proofs.codes.code_count.Goals as goal

pub returns-in-None-clause-below : goal.returns-in-None-clause-below
returns-in-None-clause-below c = λ place within.
    let day = in_no_column c.args.dims.now place c.args.axis c.args.grouped
    (sym c.column_of_level.ensures ∙ c.in-None.is) c.requires.grouped in
    omega (arith, within, day.1, c.row_count.ensures.count)

pub returns-in-None-clause-few : goal.returns-in-None-clause-few
returns-in-None-clause-few c =
    let dims = c.args.dims.now in
    let day = in_no_column dims 0 c.args.axis c.args.grouped (sym c.column_of_level.ensures ∙ c.in-None.is)
    c.requires.grouped in
    let few = few_days c.args.axis (rows_on dims c.args.axis) c.requires.good day.0 in
    omega (arith, few, count_on dims c.args.axis, c.row_count.ensures.count)

pub texts-requires : goal.texts-requires
texts-requires c =
    (in_level_column c.args.dims.now 0 c.in-Some.column c.args.axis c.args.grouped
    (sym c.column_of_level.ensures ∙ c.in-Some.is)).0

pub returns-in-Some-clause-below : goal.returns-in-Some-clause-below
returns-in-Some-clause-below c = λ place within.
    let dims = c.args.dims.now in
    let rows = rows_on dims c.args.axis in
    let column = c.in-Some.column in
    let represent =
    in_level_column dims place column c.args.axis c.args.grouped (sym c.column_of_level.ensures ∙ c.in-Some.is) in
    let in_rows : place < length rows = omega (arith, within, count_on dims c.args.axis) in
    let low = code_at-within (column_of column rows) place
    (in_texts c.args.axis rows c.requires.good column place in_rows column) in
    omega (
      arith,
      low,
      represent.1,
      ap length (firsts_placed c.args.axis rows c.requires.good.keep column),
      ap length c.texts.ensures.texts,
      c.len.ensures.count,
    )

pub returns-in-Some-clause-few : goal.returns-in-Some-clause-few
returns-in-Some-clause-few c =
    let dims = c.args.dims.now in
    let rows = rows_on dims c.args.axis in
    let column = c.in-Some.column in
    let represent =
    in_level_column dims 0 column c.args.axis c.args.grouped (sym c.column_of_level.ensures ∙ c.in-Some.is) in
    let most = (good_texts c.args.axis rows c.requires.good column represent.0).most in
    omega (arith, most, ap length c.texts.ensures.texts, c.len.ensures.count)
