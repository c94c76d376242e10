use Rattle.std.proofs.Common.{◌≡◌, ◌++◌, take}
use Rattle.std.specs.List.{flat_map}
use Rattle.wire.specs.Spelling.{spelling}
use Rattle.warehouse_root.proofs.encoding.push_rows.Given as goal

abbrev pub invariant-loop-rows : goal.invariant-loop-rows
invariant-loop-rows l = l.out.items ≡ l.initial.out.items ++ flat_map (spelling 4) (take l.rows-index l.batches)
