-- What stays of the codes where rows of dimensions come to others. Our own.
use Rattle.std.specs.Prelude.{◌≡◌, ℕ, ◌<◌, List, ◌++◌, map, length}
use Rattle.cube_model.specs.declared.attr.Axis.{Axis}
use Rattle.cube_model.specs.declared.rows.DimRows.{DimRows}
use Rattle.cube_model.specs.Places.{row_index_of, row_count_of}
use Rattle.dictionary.specs.Columns.{codes_of}
use Rattle.dictionary.specs.Dictionary.{firsts}
use Rattle.dimensions.specs.Coded.{texts_at_places}
use Rattle.dimensions.specs.Shapes.{lowers_of}
use Rattle.dimensions.specs.Shown.{rows_on}

module _ {X : Type 0} where
  -- a list goes on from another
  abbrev pub GoesOnFrom : List X → List X → Type 0
  GoesOnFrom start list = (rest : List X) × (list ≡ start ++ rest)

-- Rows keep their codes: each column's texts go on from those that it had, its codes at its places too, and so do the
-- keys. A key has the row index that it had.
pub record KeepCodes (old new : DimRows) : Type 0 where
  pub texts : (axis : Axis) (column : ℕ) → column < length (lowers_of axis)
      → GoesOnFrom (firsts (texts_at_places axis column (rows_on old axis)))
      (firsts (texts_at_places axis column (rows_on new axis)))
  pub codes : (axis : Axis) (column : ℕ) → column < length (lowers_of axis)
      → GoesOnFrom (codes_of (texts_at_places axis column (rows_on old axis)))
      (codes_of (texts_at_places axis column (rows_on new axis)))
  pub keys : (axis : Axis)
      → GoesOnFrom (map (λ row. row.key) (rows_on old axis)) (map (λ row. row.key) (rows_on new axis))
  pub row_indexes : (axis : Axis) (key : ℕ) → row_index_of old axis key < row_count_of old axis
      → row_index_of new axis key ≡ row_index_of old axis key
