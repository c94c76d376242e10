use Rattle.column_segment.proofs.BatchLemmas.{short_texts}
use Rattle.column_segment.proofs.batch.has_short_texts.Goals as goal

pub returns : goal.returns
returns c = short_texts c.args.row.now _ _ _ _ c.is_short.ensures c.is_short-2.ensures c.is_short-3.ensures
    c.is_short-4.ensures
