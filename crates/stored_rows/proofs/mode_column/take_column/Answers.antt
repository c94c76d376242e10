use Rattle.std.proofs.Common.{inr, refl}
use Rattle.stored_rows.proofs.TextColumns.{handed_on, no_codes, no_dictionary, takes}
use Rattle.stored_rows.proofs.mode_column.take_column.Goals as goal

pub returns-in_err-texts-clause-refused : goal.returns-in_err-texts-clause-refused
returns-in_err-texts-clause-refused c =
    handed_on c.from_residual.result _ c.from_residual.ensures.1
    (no_dictionary c.args.rows c.args.cursor.now c.requires.few) c.in_err-texts.ensures.refused

pub returns-in_err-codes-clause-refused : goal.returns-in_err-codes-clause-refused
returns-in_err-codes-clause-refused c =
    handed_on c.from_residual-in_err-codes.result _ c.from_residual-in_err-codes.ensures.1
    (λ short. no_codes c.args.rows c.args.cursor.now c.read.new.cursor c.in_ok-texts.texts.texts c.requires.few
    c.in_ok-texts.ensures.ok short)
    (inr (c.in_err-codes.ensures.fault, c.in_err-codes.ensures.short.0 refl))

pub returns-clause-ok : goal.returns-clause-ok
returns-clause-ok c =
    takes c.args.rows c.args.cursor.now c.read.new.cursor c.in_ok-texts.texts.texts c.requires.few
    c.in_ok-texts.ensures.ok _ _ c.in_ok-codes.ensures.value
