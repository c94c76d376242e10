use Rattle.std.proofs.lemmas.Result.{on_ok_weaker}
use Rattle.column_segment.proofs.After.{batch_put}
use Rattle.column_segment.proofs.encoding.BatchColumns.push_to.Goals as goal

pub returns-clause-ok : goal.returns-clause-ok
returns-clause-ok c =
    on_ok_weaker c.push_to-3.result
    (λ put rows have.
    batch_put c.args.number rows c.args.out.now.items _ _ _ _
    (rw (c.len.ensures rows have.keys) at c.in_ok-push_header.ensures.ok)
    (c.in_ok-push_to.ensures.ok rows have.keys)
    (c.in_ok-push_to-2.ensures.ok rows have.figures) (put rows have.texts))
    c.push_to-3.ensures.ok
