use Rattle.column_segment.proofs.CallerLemmas.{IsSegment-one}
use Rattle.column_segment.proofs.laws.bytes_are_one_batch.Goals as goal

pub returns : goal.returns
returns c = IsSegment-one
