use Rattle.std.proofs.Common.{arith}
use Rattle.std.proofs.Math.Nat.{one-le-pow, pow-le-pow_right}
use Rattle.report_formats.proofs.decimals.scale_of.Goals as goal

pub returns-clause-some : goal.returns-clause-some
returns-clause-some c = rw (c.pow.ensures) (one-le-pow c.args.digits 10 (omega arith))

pub returns-clause-few : goal.returns-clause-few
returns-clause-few c = rw (c.pow.ensures) (pow-le-pow_right (omega arith) c.requires)
