use Rattle.std.proofs.Common.{arith}
use Rattle.group_numbers.proofs.EachDigit.{above_fits}
use Rattle.group_numbers.proofs.column.Column.with_all.Goals as goal

pub overflow_mul-above-2 : goal.overflow_mul-above-2
overflow_mul-above-2 c =
    record {
      fits =
          omega (
            arith,
            above_fits c.args.self.now.digits c.args.self.now.weight c.args.number c.requires.weight,
            c.requires.fits,
          );
    }
