use Rattle.std.proofs.Common.{arith}
use Rattle.column_segment.proofs.Chunked.{within_rows}
use Rattle.column_segment.proofs.layout.part.Goals as goal

pub split_at-requires-3 : goal.split_at-requires-3
split_at-requires-3 c =
    omega (
      arith,
      within_rows c.args.place c.args.width c.args.rows c.requires.within,
      c.split_at-2.ensures.back_len,
      c.split_at.ensures.back_len,
      c.requires.room,
    )
