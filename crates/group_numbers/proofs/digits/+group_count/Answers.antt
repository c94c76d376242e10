use Rattle.std.proofs.Common.{arith, ◌≤◌, ◌+◌, ◌-◌, length, take, drop}
use Rattle.std.proofs.lemmas.Grind.{common_steps}
use Rattle.group_numbers.proofs.DigitsLemmas.{product_fits}
use Rattle.group_numbers.proofs.digits.+group_count.Goals as goal

pub overflow_mul-result : goal.overflow_mul-result
overflow_mul-result t c =
    let others = take (length c.args.columns.now - 1) (drop 1 c.args.columns.now) in
    let few : length others ≤ 5 = grind (arith, common_steps, c.requires) in
    record {
      fits =
          omega (
            arith,
            product_fits (c.members.result + 1) c.group_count.result others
                (omega (arith, c.members.ensures.few)) c.group_count.ensures.bound few,
          );
    }
