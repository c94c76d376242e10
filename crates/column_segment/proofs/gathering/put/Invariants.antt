use Rattle.std.proofs.Common.{◌≡◌, All, length, take}
use Rattle.column_segment.specs.Columns.{FitsColumn}
use Rattle.column_segment.specs.Encoding.{number_chunks}
use Rattle.column_segment.proofs.gathering.put.Given as goal

abbrev pub invariant-loop-place : goal.invariant-loop-place
invariant-loop-place g l = record {
  fits : All (FitsColumn l.column.name) (take l.place l.rows);
  chunks : take l.place l.chunks ≡ number_chunks l.column.name (take l.place l.rows);
  count : length l.chunks ≡ 256;
}
