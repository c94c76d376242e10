use Rattle.std.proofs.lemmas.Result.{err_from_is_err_and}
use Rattle.dimension_tables.specs.Texts.{tables_of, valid_rows}
use Rattle.dimension_tables.proofs.CallerLemmas.{gives-on, gives-stop}
use Rattle.dimension_tables.proofs.ReadingLemmas.{gives-valid}
use Rattle.dimension_tables.proofs.reading.read_dimensions.Goals as goal

pub returns-in_err-rows : goal.returns-in_err-rows
returns-in_err-rows g c = λ texts customer supplier part date.
    gives-stop (tables_of texts) valid_rows _ _ (err_from_is_err_and _ c.from_residual-in_err-rows.ensures.1)
    (c.in_err-rows.ensures.tables texts (c.in_ok-tables.ensures.unread texts customer supplier part date))

pub returns : goal.returns
returns g c = λ texts customer supplier part date.
    gives-on (tables_of texts) valid_rows c.in_ok-rows.rows _
    (c.in_ok-rows.ensures.tables texts (c.in_ok-tables.ensures.unread texts customer supplier part date))
    (gives-valid _ _ c.build.ensures.ok c.build.ensures.valid c.build.ensures.err)
