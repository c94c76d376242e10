use Rattle.std.proofs.Common.{take}
use Rattle.object_store.specs.Disk.{Leaves}
use Rattle.cube_model.specs.Admission.{all_rows}
use Rattle.warehouse_objects.specs.Represents.{Represents}
use Rattle.warehouse_objects.specs.Warehouse.{Warehouse}
use Rattle.warehouse.specs.Session.{IsAt, device_of, disk_of}
use Rattle.warehouse_jobs.specs.Dumped.{RowsAreWritten}
use Rattle.warehouse_jobs.proofs.dumping.write_batches.Given as goal

abbrev pub invariant-loop-before : goal.invariant-loop-before
invariant-loop-before g l = record {
  word : g.D.Sectors.keeps_word (device_of l.session) → g.D.Sectors.keeps_word (device_of l.initial.session);
  at : (w : Warehouse) → IsAt g.D.Sectors l.initial.session w → IsAt g.D.Sectors l.session w;
  leaves : (w : Warehouse) → IsAt g.D.Sectors l.initial.session w
      → Leaves (disk_of g.D.Sectors l.initial.session) (disk_of g.D.Sectors l.session) (λ c. Represents c w);
  written : (w : Warehouse) → IsAt g.D.Sectors l.initial.session w → g.D.Sectors.keeps_word (device_of l.session)
      → RowsAreWritten (all_rows (take l.before w.batches)) (g.W.Write.contents l.initial.out)
      (g.W.Write.contents l.out);
}
