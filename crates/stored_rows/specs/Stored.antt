-- What a content has of a batch. Our own.
use Rattle.std.specs.Prelude.{◌≡◌, ℕ, Some, List}
use Rattle.cube_model.specs.declared.rows.LineOrder.{LineOrder}
use Rattle.cube_model.specs.ShipModes.{modes_in}
use Rattle.object_store.specs.Content.{Content, bytes_of}
use Rattle.column_segment.specs.Segment.{IsSegment}

-- the object of an id is the batch of a number, with these rows
pub record HoldsBatch (c : Content) (id number : ℕ) (rows : List LineOrder) : Type 0 where
  pub bytes : List ℕ
  pub there : bytes_of c id ≡ Some bytes
  pub segment : IsSegment bytes number rows

-- the object of an id is there, and whatever batch its bytes are, it has a number, and these are its ship modes
pub record HoldsModes (c : Content) (id number : ℕ) (modes : List (List ℕ)) : Type 0 where
  pub bytes : List ℕ
  pub there : bytes_of c id ≡ Some bytes
  pub own : (other : ℕ) (rows : List LineOrder) → IsSegment bytes other rows
      → (other ≡ number) × (modes ≡ modes_in rows)
