use Rattle.std.proofs.Common.{◌≡◌, ◌+◌, ◌*◌, ◌++◌, length, All}
use Rattle.std.specs.List.{flat_map}
use Rattle.warehouse_root.specs.Reading.{CuboidFits}
use Rattle.warehouse_root.specs.Root.{cuboid_of}
use Rattle.warehouse_root.proofs.reading.read_cuboids.Given as goal

abbrev pub invariant-loop : goal.invariant-loop
invariant-loop l = record {
  many : length l.cuboids.items ≡ l.counter;
  fit : All CuboidFits l.cuboids.items;
  spelled : l.initial.cursor ≡ flat_map cuboid_of l.cuboids.items ++ l.cursor;
  left : length l.initial.cursor ≡ 12 * l.counter + length l.cursor;
}
