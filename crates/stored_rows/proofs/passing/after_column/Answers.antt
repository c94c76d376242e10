use Rattle.std.proofs.Common.{◌∙◌, ◌++◌, drop, refl}
use Rattle.dictionary.specs.Columns.{codes_of, codes_spelling}
use Rattle.stored_rows.proofs.MoreReads.{err_later}
use Rattle.stored_rows.proofs.PassedTexts.{codes_passed, codes_there, dictionary_first}
use Rattle.stored_rows.proofs.passing.after_column.Goals as goal

pub returns-in_err-codes-clause-refused : goal.returns-in_err-codes-clause-refused
returns-in_err-codes-clause-refused g c = λ err keeps text there column rest many short is.
    c.in_err-codes.ensures.refused (err_later c.from_residual.result _ c.from_residual.ensures.1 err) keeps text
    (codes_spelling (codes_of column) ++ rest) there (dictionary_first c.args.rows _ rest column many short is)

pub returns-in-Some-clause-passed : goal.returns-in-Some-clause-passed
returns-in-Some-clause-passed g c = λ keeps text there column rest many short is.
    codes_passed c.args.rows c.in_ok-codes.codes c.in-Some.end text rest column many
    (c.in_ok-codes.ensures.passed keeps text (codes_spelling (codes_of column) ++ rest) there
    (dictionary_first c.args.rows _ rest column many short is))
    c.in-Some.ensures.place

pub returns-in-None-clause-refused : goal.returns-in-None-clause-refused
returns-in-None-clause-refused g c = λ err keeps text there column rest many short is.
    let kept = c.in_ok-codes.ensures.run.stays.texts keeps c.args.id in
    codes_there c.args.rows (drop c.in_ok-codes.codes text) rest column many
    (c.in_ok-codes.ensures.passed keeps text (codes_spelling (codes_of column) ++ rest) there
    (dictionary_first c.args.rows _ rest column many short is))
    (c.in-None.ensures.none refl keeps text (kept ∙ there))
