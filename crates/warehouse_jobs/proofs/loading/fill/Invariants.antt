use Rattle.std.proofs.Common.{◌*◌, List}
use Rattle.std.specs.Prelude.{IfSome, min}
use Rattle.cube_model.specs.declared.rows.LineOrder.{LineOrder}
use Rattle.batch_loader.specs.Tables.{lineorder_row}
use Rattle.batch_loader.proofs.TakingRows.{IsTaking}
use Rattle.ssb_eval.specs.Tables.{IsInNoRow}
use Rattle.warehouse_objects.specs.Warehouse.{Warehouse}
use Rattle.warehouse.specs.Growing.{Grows}
use Rattle.warehouse.specs.Session.{device_of, IsAt}
use Rattle.warehouse_jobs.proofs.loading.fill.Given as goal

abbrev pub invariant-loop-piece : goal.invariant-loop-piece
invariant-loop-piece g l =
    (rows : List LineOrder) × IsTaking lineorder_row l.size l.initial.lines l.lines rows (min l.size (l.piece * 1024))
    × Grows l.session rows l.batch
    × ((w : Warehouse) → IsAt g.D.Sectors l.session w → g.D.Sectors.keeps_word (device_of l.session)
    → IfSome l.initial.unknown (IsInNoRow w.rows) → IfSome l.unknown (IsInNoRow w.rows))
