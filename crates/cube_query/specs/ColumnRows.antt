-- Fact rows as the columns of a batch. Our own.
use Rattle.std.specs.Prelude.{◌≡◌, ℕ, ◌<◌, ◌≤◌, List, length, map, All}
use Rattle.std.specs.Int.{from_le_bytes, w16, w32, w64}
use Rattle.cube_model.specs.Limits.{most_batch_rows}
use Rattle.cube_model.specs.declared.rows.LineOrder.{LineOrder}
use Rattle.dictionary.specs.Columns.{text_of_code}

-- the columns of rows that a query can ask for
pub record HaveColumns (rows : List LineOrder) (customers suppliers parts dates : List (List ℕ))
    (quantities discounts : List ℕ)
    (prices revenues costs : List (List ℕ)) : Type 0 where
  pub customer : map (from_le_bytes w32) customers ≡ map (λ row. row.custkey) rows
  pub supplier : map (from_le_bytes w32) suppliers ≡ map (λ row. row.suppkey) rows
  pub part : map (from_le_bytes w32) parts ≡ map (λ row. row.partkey) rows
  pub date : map (from_le_bytes w32) dates ≡ map (λ row. row.orderdate) rows
  pub quantity : quantities ≡ map (λ row. row.quantity) rows
  pub discount : discounts ≡ map (λ row. row.discount) rows
  pub price : map (from_le_bytes w64) prices ≡ map (λ row. row.extendedprice) rows
  pub revenue : map (from_le_bytes w64) revenues ≡ map (λ row. row.revenue) rows
  pub cost : map (from_le_bytes w64) costs ≡ map (λ row. row.supplycost) rows

-- a batch of fact rows, and the texts of its ship modes
pub record ModedRows : Type 0 where
  pub rows : List LineOrder
  pub modes : List (List ℕ)

-- the code of each row's ship mode among the texts, which are no more than rows of a batch
pub record HaveModes (moded : ModedRows) (codes : List (List ℕ)) : Type 0 where
  pub few : length moded.modes ≤ most_batch_rows
  pub texts : map (text_of_code moded.modes) (map (from_le_bytes w16) codes) ≡ map (λ row. row.shipmode) moded.rows
  pub below : All (λ code. code < length moded.modes) (map (from_le_bytes w16) codes)
