use Rattle.std.proofs.Common.{◌≤◌, ap, arith, length}
use Rattle.cube_model.specs.Limits.{most_batch_rows}
use Rattle.batch_admission.proofs.AcceptedLaws.{Admits-found, not_long}
use Rattle.batch_admission.proofs.admission.Admission.admit_found.Goals as goal

pub returns-clause-admits : goal.returns-clause-admits
returns-clause-admits c = λ dimensions batches rows represents is.
    let count = ap (λ found. found.row_count) is in
    let few : length rows ≤ most_batch_rows = omega (arith, count, c.keep.ensures.few) in
    Admits-found dimensions c.args.self.now c.args.number rows batches represents c.keep.new.self c.args.found.now
    c.keep.result
    c.in_ok-check_number.ensures.cause c.in_ok-check_number.ensures.next.0 (not_long rows few) is c.keep.ensures.cause
    c.keep.ensures.ok c.keep.ensures.err
