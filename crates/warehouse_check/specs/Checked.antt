-- What a check finds to be right in the content of a store.
use Rattle.std.specs.Prelude.{◌≡◌, ℕ, ◌+◌, Some, List, [], ◌∷◌, ◌++◌, length, map, slice_get}
use Rattle.std.specs.Option.{IsSomeAnd}
use Rattle.cube_model.specs.declared.rows.DimRows.{DimRows}
use Rattle.cube_model.specs.declared.rows.LineOrder.{LineOrder}
use Rattle.cube_model.specs.Admission.{all_rows}
use Rattle.object_store.specs.Content.{Content, bytes_of}
use Rattle.column_segment.specs.Segment.{IsSegment}
use Rattle.batch_admission.specs.Accepted.{Accepted, HasAccepted}
use Rattle.batch_admission.specs.Totals.{totals_of}
use Rattle.warehouse_root.specs.Objects.{segment_id}
use Rattle.warehouse_root.specs.Root.{PlainRoot}
use Rattle.warehouse_objects.specs.Warehouse.{AreInOrder, IsNext}
use Rattle.warehouse_objects.specs.Represents.{HasItsObjects}
use Rattle.warehouse_objects.specs.Loaded.{IsLoaded}

-- an object of a content is the segment of a number with these rows
abbrev pub IsSegmentAt : Content → ℕ → ℕ → List LineOrder → Type 0
IsSegmentAt c id number rows = IsSomeAnd (bytes_of c id) (λ bytes. IsSegment bytes number rows)

-- each batch is the segment of its number, may follow those before it, and has as many rows as is said
pub record AreBatches (c : Content) (dimensions : DimRows) (counts : List ℕ) (batches : List (List LineOrder)) : Type 0
  where
    pub counted : map length batches ≡ counts
    pub segments : (before : ℕ) (batch : List LineOrder) → slice_get batches before ≡ Some batch
        → IsSegmentAt c (segment_id (before + 1)) (before + 1) batch
    pub in_order : AreInOrder dimensions batches

-- A content has the batches of a root: their segments, as many rows as the root says, and its totals.
pub record HasBatches (c : Content) (dimensions : DimRows) (root : PlainRoot) : Type 0 where
  pub batches : List (List LineOrder)
  pub are : AreBatches c dimensions root.batches batches
  pub totals : root.totals ≡ totals_of (all_rows batches)

-- rows are taken in after some batches, as the next one
pub record IsTakenIn (dimensions : DimRows) (batches : List (List LineOrder)) (number : ℕ) (rows : List LineOrder)
    (said : ℕ) (new : Accepted) : Type 0 where
  pub numbered : number ≡ length batches + 1
  pub count : length rows ≡ said
  pub next : IsNext dimensions batches rows
  pub represents : HasAccepted new (batches ++ rows ∷ [])

-- and where the device keeps its word, they are the segment of their number
pub record IsCheckedBatch (keeps : Type 0) (c : Content) (dimensions : DimRows) (batches : List (List LineOrder))
    (said : ℕ) (new : Accepted) : Type 0 where
  pub rows : List LineOrder
  pub taken : IsTakenIn dimensions batches (length batches + 1) rows said new
  pub there : keeps → IsSegmentAt c (segment_id (length batches + 1)) (length batches + 1) rows

-- A content has the dimensions and the root of a warehouse, the objects for which the root asks and no others, and the
-- batches of the root.
pub record IsChecked (c : Content) : Type 0 where
  pub rows : DimRows
  pub modes : List (List ℕ)
  pub root : PlainRoot
  pub loaded : IsLoaded c rows modes root
  pub objects : HasItsObjects c root
  pub has : HasBatches c rows root
