-- Bringing all stored cuboids to all batches.
use Rattle.std.specs.Prelude.{◌≡◌, ◌⊎◌, [], Option, Some, None, All, length}
use Rattle.sector_device.specs.declared.device.Sectors.{Ghosts}
use Rattle.cube_model.specs.declared.fault.Fault.{Fault}
use Rattle.cube_model.specs.declared.fault.Fault.TheVariants.{Memory}
use Rattle.lattice.specs.declared.view.View.{View}
use Rattle.object_store.specs.Store as stores
use Rattle.object_store.specs.declared.store.Store.{Store}
use Rattle.warehouse_root.specs.Root as roots
use Rattle.warehouse_objects.specs.Represents.{root_of}
use Rattle.warehouse_objects.specs.Warehouse.{Warehouse, aimed}
use Rattle.stored_cuboids.specs.Keeping.{IsDone}
use Rattle.stored_cuboids.specs.Nexts.{RefusesLeast}

-- each stored cuboid holds all batches
abbrev pub CuboidsAreCurrent : Warehouse → Type 0
CuboidsAreCurrent w = All (λ cuboid. cuboid.mark ≡ length w.batches) w.cuboids

-- Each stored cuboid holds all batches. Or the target is all batches, and each cuboid holds them but those that are too
-- large, of which the first one is given
abbrev pub AreWholeBut : Warehouse → Option View → Type 0
AreWholeBut w None = CuboidsAreCurrent w
AreWholeBut w (Some view) = IsDone w (Some view) × (w.target ≡ length w.batches)

-- Why a commit on the way is refused before its first device call: that of the target, or that of the next run of a
-- cuboid. Or there is no memory to make it ready.
abbrev pub KeepUpRefuses : {D : Type 0} (g : Ghosts D) → Store D g → Warehouse → Fault → Type 0
KeepUpRefuses g store w fault =
    (fault ≡ Memory)
    ⊎ (stores.Refuses (stores.content_of g store) (stores.room_of store) [] [] (roots.root_spelling (root_of (aimed w)))
    fault
    ⊎ RefusesLeast g store w fault)
