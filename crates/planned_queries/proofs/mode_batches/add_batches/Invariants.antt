use Rattle.std.proofs.Common.{◌≡◌, false, take}
use Rattle.cube_model.specs.Admission.{all_rows}
use Rattle.mode_folds.specs.States.{IsOverByModes, RepresentsModeRows}
use Rattle.object_store.specs.Disk.{Leaves}
use Rattle.object_store.specs.Store.{IsStill, content_of, device_of, disk_of, has_failed}
use Rattle.warehouse_objects.specs.Represents.{Represents}
use Rattle.warehouse_objects.specs.Warehouse.{Warehouse}
use Rattle.planned_queries.proofs.mode_batches.add_batches.Given as goal

abbrev pub invariant-loop-before : goal.invariant-loop-before
invariant-loop-before g l =
    let first = content_of g.D.Sectors l.initial.store in record {
      fine : has_failed l.store ≡ false;
      still : IsStill g.D.Sectors l.initial.store l.store;
      leaves : Leaves (disk_of g.D.Sectors l.initial.store) (disk_of g.D.Sectors l.store) (λ c. c ≡ first);
      query : l.fold.asked ≡ l.initial.fold.asked;
      over : IsOverByModes l.dims l.fold;
      own : g.D.Sectors.keeps_word (device_of l.store) → (w : Warehouse) → Represents first w
          → RepresentsModeRows l.dims l.initial.fold (all_rows (take l.from w.batches))
          → RepresentsModeRows l.dims l.fold (all_rows (take l.before w.batches));
    }
