use Rattle.std.proofs.Common.{◌≡◌, ◌-◌, ◌^◌, min, take}
use Rattle.std.specs.List.{sum_by}
use Rattle.object_store.specs.Store as stores
use Rattle.warehouse.specs.Room.{object_sectors}
use Rattle.warehouse.proofs.room.sectors_of_objects.Given as goal

abbrev pub invariant-loop-id : goal.invariant-loop-id
invariant-loop-id g l = g.D.Sectors.keeps_word (stores.device_of l.store)
    → l.total ≡ min (sum_by (object_sectors (stores.content_of g.D.Sectors l.store)) (take l.id-index l.ids))
    (2 ^ 64 - 1)
