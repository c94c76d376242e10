use Rattle.std.proofs.Common.{arith}
use Rattle.group_numbers.proofs.KindsLemmas.{codes_are_kinds, some_column}
use Rattle.group_numbers.proofs.kinds.Kinds.of.Goals as goal

pub codes-requires : goal.codes-requires
codes-requires c = some_column c.args.axis

pub returns-in_default : goal.returns-in_default
returns-in_default c =
    let kinds = codes_are_kinds c.args.dims.now c.args.axis c.codes.result.now c.in_default.not-Date
    c.codes.ensures.codes in
    record { known = λ place within. omega (arith, within, kinds.0); are = kinds.1 }
