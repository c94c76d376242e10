use Rattle.std.proofs.Common.{◌≡◌, ◌+◌, ◌*◌, ◌^◌, ◌≤◌, arith, subst, rules}
use Rattle.cube_model.specs.Limits.{most_batch_rows}
use Rattle.batch_admission.specs.Totals.{AreBelow, sum_limit}
use Rattle.batch_admission.proofs.findings.Findings.with_row.Goals as goal

pub invariant_of-result : goal.invariant_of-result
invariant_of-result c =
    let few : c.self.inside.row_count + 1 ≤ most_batch_rows = search rules in
    let more : sum_limit + c.self.inside.row_count * 2 ^ 71 + 2 ^ 71 ≡ sum_limit + (c.self.inside.row_count + 1) * 2 ^
    71 = omega arith in
    (few, subst (λ bound. AreBelow bound c.plus_row.result) more (c.plus_row.ensures.bound _ c.self.invariant.1))
