use Rattle.std.proofs.Common.{sym}
use Rattle.cuboid_upkeep.proofs.CodesLemmas.{one_leads, three_lead, two_lead}
use Rattle.cuboid_upkeep.proofs.codes.LevelCodes.of_column.Goals as goal

pub returns-in_default : goal.returns-in_default
returns-in_default c = λ grouped is.
    one_leads c.args.dims.now c.args.axis grouped c.requires.good c.args.column is c.codes-codes.result.now
    c.codes-codes.ensures.codes (sym c.in_default.ensures)

pub returns-in-None : goal.returns-in-None
returns-in-None c = λ grouped is.
    two_lead c.args.dims.now c.args.axis grouped c.requires.good c.args.column is c.in-Some.lower
    c.codes-lowers.result.now c.codes-codes.result.now
    c.codes-lowers.ensures.codes c.codes-codes.ensures.codes (sym c.in-Some.ensures) (sym c.in-None.ensures)

pub returns-in-Some-lower_column : goal.returns-in-Some-lower_column
returns-in-Some-lower_column c = λ grouped is.
    three_lead c.args.dims.now c.args.axis grouped c.requires.good c.args.column is c.in-Some.lower
    c.in-Some-lower_column.lowest
    c.codes.result.now c.codes-lowers.result.now c.codes-codes.result.now c.codes.ensures.codes
    c.codes-lowers.ensures.codes
    c.codes-codes.ensures.codes
    (sym c.in-Some.ensures) (sym c.in-Some-lower_column.ensures)
