use Rattle.std.proofs.Common.{◌+◌, ◌*◌}
use Rattle.column_segment.proofs.Passes.{none_first, none_second}
use Rattle.column_segment.proofs.ReadingLemmas.{refused}
use Rattle.column_segment.proofs.reading.read_first_two.Goals as goal

pub returns-in_err-orderpriority-clause-refused : goal.returns-in_err-orderpriority-clause-refused
returns-in_err-orderpriority-clause-refused c =
    refused c.from_residual.result _ c.from_residual.ensures.1
    (none_first c.args.bytes.now c.args.rows (12 + 63 * c.args.rows) (λ k. (c.type_inv.bytes k).fits) c.requires.few)
    c.in_err-orderpriority.ensures.refused

pub returns-in_err-shippriority-clause-refused : goal.returns-in_err-shippriority-clause-refused
returns-in_err-shippriority-clause-refused c =
    refused c.from_residual-in_err-shippriority.result _ c.from_residual-in_err-shippriority.ensures.1
    (none_second c.args.bytes.now c.args.rows (12 + 63 * c.args.rows) (λ k. (c.type_inv.bytes k).fits) c.requires.few
    c.in_ok-orderpriority.orderpriority c.in_ok-orderpriority.ensures.ok)
    c.in_err-shippriority.ensures.refused
