use Rattle.std.proofs.Common.{◌≡◌, ◌+◌, ◌*◌, ◌++◌, length, All}
use Rattle.std.specs.List.{flat_map}
use Rattle.object_store.specs.Catalogue.{FitsFields, entry_of}
use Rattle.object_store.proofs.catalogue.reading.read_entries.Given as goal

abbrev pub invariant-loop : goal.invariant-loop
invariant-loop l = record {
  many : length l.entries.items ≡ l.counter;
  fit : All FitsFields l.entries.items;
  spelled : l.initial.cursor ≡ flat_map entry_of l.entries.items ++ l.cursor;
  left : length l.initial.cursor ≡ 16 * l.counter + length l.cursor;
}
