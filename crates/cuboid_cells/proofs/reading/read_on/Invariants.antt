use Rattle.std.proofs.Common.{◌≡◌, ◌+◌, ◌*◌, ◌++◌, ◌↔◌, length, All, IsTrue}
use Rattle.std.specs.List.{flat_map}
use Rattle.cuboid_cells.specs.Pieces.{AreCellsFrom, least_after}
use Rattle.cuboid_cells.specs.Reading.{IsReadableCell}
use Rattle.cuboid_cells.specs.Spelled.{cell_bytes, cell_of}
use Rattle.cuboid_cells.proofs.reading.read_on.Given as goal

abbrev pub invariant-loop : goal.invariant-loop
invariant-loop l = record {
  many : length l.cells.items ≡ l.counter;
  readable : All (IsReadableCell l.view.ship_mode) l.cells.items;
  spelled : l.initial.cursor ≡ flat_map (cell_of l.view.ship_mode) l.cells.items ++ l.cursor;
  left : length l.initial.cursor ≡ cell_bytes l.view.ship_mode * l.counter + length l.cursor;
  next : l.next ≡ least_after l.least l.cells.items;
  rules : IsTrue l.fine ↔ AreCellsFrom l.view l.least l.cells.items;
}
