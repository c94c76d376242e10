-- What the definitions mean. Each is proved as the contract of a function of its name.
use Rattle.std.specs.Prelude.{All}
use Rattle.object_store.specs.Content.{Content}
use Rattle.warehouse_objects.specs.Represents.{Represents}
use Rattle.warehouse_objects.specs.Warehouse.{Warehouse}
use Rattle.stored_cuboids.specs.Merged.{IsSound}

-- the cuboids of the warehouse of a content are sound
abbrev pub KeptCuboidsAreSound : Type 0
KeptCuboidsAreSound = (c : Content) (w : Warehouse) → Represents c w → All (IsSound w) w.cuboids
