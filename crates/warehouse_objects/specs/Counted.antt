-- Counting a batch of a warehouse into a fold. Our own.
use Rattle.std.specs.Prelude.{◌≡◌, ℕ, List, Some, slice_get}
use Rattle.cube_model.specs.declared.rows.DimRows.{DimRows}
use Rattle.cube_model.specs.declared.rows.LineOrder.{LineOrder}
use Rattle.cube_query.specs.Groups.{FoldState, Takes}
use Rattle.object_store.specs.Content.{Content}
use Rattle.warehouse_objects.specs.Represents.{Represents}
use Rattle.warehouse_objects.specs.Warehouse.{Warehouse}

-- Where the device keeps its word and the content represents a warehouse, the rows of its batch after so many others
-- were counted into a fold, or rows that are the same to the fold.
abbrev pub CountsBatch : DimRows → FoldState → FoldState → ℕ → Type 0 → Content → Type 0
CountsBatch dimensions old new before keeps content = keeps → (w : Warehouse) → Represents content w
    → (batch : List LineOrder) × (slice_get w.batches before ≡ Some batch) × Takes dimensions old batch new
