-- A batch as contracts see it. Our own.
use Rattle.std.specs.Prelude.{ℕ, List}
use Rattle.cube_model.specs.declared.rows.LineOrder.{LineOrder}

-- the rows of a batch, with its number
pub record Batch : Type 0 where
  pub number : ℕ
  pub rows : List LineOrder
