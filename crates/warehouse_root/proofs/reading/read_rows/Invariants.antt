use Rattle.std.proofs.Common.{◌≡◌, ◌+◌, ◌*◌, ◌<◌, ◌^◌, ◌++◌, length, All}
use Rattle.std.specs.List.{flat_map}
use Rattle.wire.specs.Spelling.{spelling}
use Rattle.warehouse_root.proofs.reading.read_rows.Given as goal

abbrev pub invariant-loop : goal.invariant-loop
invariant-loop l = record {
  many : length l.batches.items ≡ l.counter;
  fit : All (λ rows. rows < 2 ^ 32) l.batches.items;
  spelled : l.initial.cursor ≡ flat_map (spelling 4) l.batches.items ++ l.cursor;
  left : length l.initial.cursor ≡ 4 * l.counter + length l.cursor;
}
