use Rattle.std.proofs.Common.{arith, ap}
use Rattle.batch_admission.proofs.FoundLaws.{found_in-more, found_in-all}
use Rattle.batch_admission.proofs.findings.Findings.more.Goals as goal

pub loop-row-preserved : goal.loop-row-preserved
loop-row-preserved c =
    let count = ap (λ found. found.row_count) c.with_row-found.ensures in (
      omega (arith, count, c.loop-row.invariant.0),
      λ totals earlier is.
          found_in-more c.args.dims.now totals earlier c.args.rows.now c.loop-row.row-index c.row-item.result
          c.loop-row.found c.with_row-found.result
          c.loop-row-test.true c.row-item.is (c.loop-row.invariant.1 totals earlier is) c.with_row-found.ensures,
    )

pub returns : goal.returns
returns c = λ totals earlier is. found_in-all c.args.dims.now totals earlier c.args.rows.now c.loop-row.row-index
    c.loop-row.found c.loop-row-test.false (c.loop-row.invariant.1 totals earlier is)
