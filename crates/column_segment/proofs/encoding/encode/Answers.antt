use Rattle.std.proofs.Common.{[]}
use Rattle.std.proofs.lemmas.Result.{IfOk-weaker}
use Rattle.column_segment.proofs.encoding.encode.Goals as goal

pub encode-requires : goal.encode-requires
encode-requires c =
    record { batch = (c.args.rows.now, c.in_ok-push.ensures.ok [] c.in_ok-columns.ensures.ok, c.requires.batch) }

pub returns-clause-ok : goal.returns-clause-ok
returns-clause-ok c =
    IfOk-weaker c.encode.result _ _
    (λ bytes spells. spells c.args.rows.now (c.in_ok-push.ensures.ok [] c.in_ok-columns.ensures.ok)) c.encode.ensures.ok
