use Rattle.std.proofs.Common.{rules}
use Rattle.std.proofs.lemmas.List.Sorted.{IsNonDecreasingBy-from_sort_by_key}
use Rattle.std.proofs.lemmas.Result.{on_ok_weaker}
use Rattle.cuboid_cells.specs.declared.cell.Cell.{Cell}
use Rattle.cuboid_cells.specs.Cells.{key_as_number}
use Rattle.cuboid_upkeep.proofs.merging.sort.Goals as goal

pub returns-clause-order : goal.returns-clause-order
returns-clause-order c =
    on_ok_weaker c.sort_by_cached_key.result
    (λ sorted. IsNonDecreasingBy-from_sort_by_key (λ (cell : Cell). key_as_number cell.key)
    c.sort_by_cached_key.new.self.items sorted (λ a r q k. search rules))
    c.sort_by_cached_key.ensures.sorted
