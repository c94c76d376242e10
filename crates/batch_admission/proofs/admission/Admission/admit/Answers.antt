use Rattle.std.proofs.Common.{◌≤◌, [], ap, arith, length, rules}
use Rattle.cube_model.specs.Limits.{most_batch_rows}
use Rattle.batch_admission.proofs.AcceptedLaws.{Admits-found, CanFollow-found, not_long}
use Rattle.batch_admission.proofs.admission.Admission.admit.Goals as goal

pub more-found-requires : goal.more-found-requires
more-found-requires c =
    let count = ap (λ found. found.row_count) (c.findings.ensures.found c.args.dims.now) in
    let few : length c.args.rows.now ≤ most_batch_rows = search rules in
    record { few = omega (arith, count, few) }

pub returns-clause-admits : goal.returns-clause-admits
returns-clause-admits c = λ batches represents.
    let few : length c.args.rows.now ≤ most_batch_rows = search rules in
    Admits-found c.args.dims.now c.args.self.now c.args.number c.args.rows.now batches represents c.keep.new.self
    c.more-found.result c.keep.result
    c.in_ok-check_number.ensures.cause c.in_ok-check_number.ensures.next.0 (not_long c.args.rows.now few)
    (c.more-found.ensures c.args.self.now.totals [] (c.findings.ensures.found c.args.dims.now))
    c.keep.ensures.cause c.keep.ensures.ok c.keep.ensures.err

pub returns-clause-follows : goal.returns-clause-follows
returns-clause-follows c =
    let few : length c.args.rows.now ≤ most_batch_rows = search rules in
    CanFollow-found c.args.dims.now c.args.self.now c.args.number c.args.rows.now c.more-found.result c.keep.result
    c.in_ok-check_number.ensures.next.0 c.in_ok-check_number.ensures.next.1 few
    (c.more-found.ensures c.args.self.now.totals [] (c.findings.ensures.found c.args.dims.now))
    c.keep.ensures.cause
