-- What the layers above need of cells by ascending keys, and of the codes of ship modes.
pub use Rattle.cuboid_upkeep.proofs.Added.{merge_refused}
pub use Rattle.cuboid_upkeep.proofs.Existing.{Climbs, ascends, at_insert, climbs_insert, insert, inserted}
pub use Rattle.cuboid_upkeep.proofs.InRange.{cell_fits, part_small}
pub use Rattle.cuboid_upkeep.proofs.Modes.{they_still_represent}
pub use Rattle.cuboid_upkeep.proofs.OneList.{none_after, one_list, tail_ascends}
pub use Rattle.cuboid_upkeep.proofs.Sorted.{ascending_apart, only_one}
