use Rattle.object_store.specs.Disk.{Leaves}
use Rattle.warehouse_objects.specs.Represents.{Represents}
use Rattle.warehouse_objects.specs.Warehouse.{Warehouse}
use Rattle.warehouse.specs.Session.{IsAt, device_of, disk_of}
use Rattle.warehouse_jobs.specs.Copied.{HoldsPart, with_first}
use Rattle.warehouse_jobs.proofs.copied_batches.copy_batches.Given as goal

abbrev pub invariant-loop-before : goal.invariant-loop-before
invariant-loop-before g l = record {
  from_word : g.D.Sectors.keeps_word (device_of l.from) → g.D.Sectors.keeps_word (device_of l.initial.from);
  word : g.E.Sectors.keeps_word (device_of l.to) → g.E.Sectors.keeps_word (device_of l.initial.to);
  from_at : (w : Warehouse) → IsAt g.D.Sectors l.initial.from w → IsAt g.D.Sectors l.from w;
  from_leaves : (w : Warehouse) → IsAt g.D.Sectors l.initial.from w
      → Leaves (disk_of g.D.Sectors l.initial.from) (disk_of g.D.Sectors l.from) (λ c. Represents c w);
  at : (w : Warehouse) → IsAt g.D.Sectors l.initial.from w → IsAt g.E.Sectors l.initial.to (with_first w 0)
      → g.D.Sectors.keeps_word (device_of l.from)
      → IsAt g.E.Sectors l.to (with_first w l.before);
  leaves : (w : Warehouse) → IsAt g.D.Sectors l.initial.from w → IsAt g.E.Sectors l.initial.to (with_first w 0)
      → g.D.Sectors.keeps_word (device_of l.from)
      → Leaves (disk_of g.E.Sectors l.initial.to) (disk_of g.E.Sectors l.to) (HoldsPart w);
}
