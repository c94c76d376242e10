use Rattle.std.proofs.Common.{◌+◌, ◌*◌}
use Rattle.column_segment.proofs.Passes.{none_last}
use Rattle.column_segment.proofs.ReadingLemmas.{refused}
use Rattle.column_segment.proofs.reading.read_texts.Goals as goal

pub returns-in_err-last-clause-refused : goal.returns-in_err-last-clause-refused
returns-in_err-last-clause-refused c =
    let two = c.in_ok-first.first in
    let have = c.in_ok-first.ensures.ok in
    refused c.from_residual-in_err-last.result _ c.from_residual-in_err-last.ensures.1
    (none_last c.args.bytes.now c.args.rows (12 + 63 * c.args.rows) (λ k. (c.type_inv.bytes k).fits) c.requires.few
    two.0 have.0 two.1 have.1)
    c.in_err-last.ensures.refused
