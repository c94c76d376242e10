use Rattle.column_segment.proofs.BatchLemmas.{batch_of}
use Rattle.column_segment.proofs.batch.is_batch.Goals as goal

pub returns : goal.returns
returns c = batch_of c.args.rows.now _ c.if-rows-gt-MOST_BATCH_ROWS.false c.have_short_texts.ensures
