-- What was written of some rows while a batch is spelled, column by column. Our own.
use Rattle.std.specs.Prelude.{◌≡◌, ◌<◌, ◌≤◌, ◌+◌, ◌++◌, ℕ, List, length, map}
use Rattle.std.specs.List.{All, flat_map}
use Rattle.cube_model.specs.Limits.{most_batch_rows}
use Rattle.cube_model.specs.declared.rows.LineOrder.{LineOrder}
use Rattle.wire.specs.Spelling.{spelling}
use Rattle.column_segment.specs.declared.columns.FactColumn.{FactColumn}
use Rattle.column_segment.specs.declared.columns.FactColumn.TheVariants.{OrderKey, LineNumber, CustKey, PartKey}
use Rattle.column_segment.specs.declared.columns.FactColumn.TheVariants.{SuppKey, OrderDate, Quantity, ExtendedPrice}
use Rattle.column_segment.specs.declared.columns.FactColumn.TheVariants.{OrdTotalPrice, Discount, Revenue, SupplyCost}
use Rattle.column_segment.specs.declared.columns.FactColumn.TheVariants.{Tax}
use Rattle.column_segment.specs.declared.columns.TextColumn.TheVariants.{OrderPriority, ShipPriority, CommitDate}
use Rattle.column_segment.specs.declared.columns.TextColumn.TheVariants.{ShipMode}
use Rattle.column_segment.specs.declared.gathering.Keys.{Keys}
use Rattle.column_segment.specs.declared.gathering.Figures.{Figures}
use Rattle.column_segment.specs.declared.coding.Coding.{Coding}
use Rattle.column_segment.specs.declared.coding.Texts.{Texts}
use Rattle.column_segment.specs.declared.encoding.BatchColumns.{BatchColumns}
use Rattle.column_segment.specs.Coding.{AreCoded}
use Rattle.column_segment.specs.Columns.{FitsColumn, fact_value, text_of, width_of}
use Rattle.column_segment.specs.Segment.{IsBatch}

-- the bytes of each row's number in a column
abbrev pub number_chunks : FactColumn → List LineOrder → List (List ℕ)
number_chunks column rows = map (λ row. spelling (width_of column) (fact_value column row)) rows

-- the column of some rows: the bytes of each row's number, which is below the limit
pub record IsColumnOf (column : FactColumn) (rows : List LineOrder) (items : List (List ℕ)) : Type 0 where
  pub chunks : items ≡ number_chunks column rows
  pub fits : All (FitsColumn column) rows

-- what further rows have in a column is put after the others
pub record PutsColumn (column : FactColumn) (rows : List LineOrder) (old new : List (List ℕ)) : Type 0 where
  pub put : new ≡ old ++ number_chunks column rows
  pub fits : All (FitsColumn column) rows

-- the columns of keys are those of the rows
pub record HaveKeys (rows : List LineOrder) (keys : Keys) : Type 0 where
  pub orderkey : IsColumnOf OrderKey rows keys.orderkey.items
  pub linenumber : IsColumnOf LineNumber rows keys.linenumber.items
  pub custkey : IsColumnOf CustKey rows keys.custkey.items
  pub partkey : IsColumnOf PartKey rows keys.partkey.items
  pub suppkey : IsColumnOf SuppKey rows keys.suppkey.items
  pub orderdate : IsColumnOf OrderDate rows keys.orderdate.items

-- the columns of figures are those of the rows
pub record HaveFigures (rows : List LineOrder) (figures : Figures) : Type 0 where
  pub quantity : IsColumnOf Quantity rows figures.quantity.items
  pub extendedprice : IsColumnOf ExtendedPrice rows figures.extendedprice.items
  pub ordtotalprice : IsColumnOf OrdTotalPrice rows figures.ordtotalprice.items
  pub discount : IsColumnOf Discount rows figures.discount.items
  pub revenue : IsColumnOf Revenue rows figures.revenue.items
  pub supplycost : IsColumnOf SupplyCost rows figures.supplycost.items
  pub tax : IsColumnOf Tax rows figures.tax.items

-- a dictionary and codes are those of a column of texts
abbrev pub IsCoding : List (List ℕ) → Coding → Type 0
IsCoding column coding = AreCoded column coding.texts (flat_map (λ code. code) coding.codes.items)

-- the columns of texts are those of the rows
pub record HaveTexts (rows : List LineOrder) (texts : Texts) : Type 0 where
  pub orderpriority : IsCoding (map (text_of OrderPriority) rows) texts.orderpriority
  pub shippriority : IsCoding (map (text_of ShipPriority) rows) texts.shippriority
  pub commitdate : IsCoding (map (text_of CommitDate) rows) texts.commitdate
  pub shipmode : IsCoding (map (text_of ShipMode) rows) texts.shipmode

-- all columns are those of the rows
pub record HaveRows (rows : List LineOrder) (columns : BatchColumns) : Type 0 where
  pub keys : HaveKeys rows columns.keys
  pub figures : HaveFigures rows columns.figures
  pub texts : HaveTexts rows columns.texts

-- a dictionary takes one more text, whose code fits two bytes
pub record CodingHasRoom (coding : Coding) : Type 0 where
  pub room : length coding.texts.texts < coding.texts.limit
  pub limit : coding.texts.limit ≤ most_batch_rows

-- each of the dictionaries does
pub record CodingsHaveRoom (texts : Texts) : Type 0 where
  pub orderpriority : CodingHasRoom texts.orderpriority
  pub shippriority : CodingHasRoom texts.shippriority
  pub commitdate : CodingHasRoom texts.commitdate
  pub shipmode : CodingHasRoom texts.shipmode

-- the columns of texts are those of some batch
abbrev pub AreOfBatch : Texts → Type 0
AreOfBatch texts = (rows : List LineOrder) × HaveTexts rows texts × IsBatch rows

-- all columns are those of some batch
abbrev pub AreColumnsOfBatch : BatchColumns → Type 0
AreColumnsOfBatch columns = (rows : List LineOrder) × HaveRows rows columns × IsBatch rows

-- the columns of texts are those of some rows, which are few enough for so many more in a batch
abbrev pub HaveFewTexts : ℕ → Texts → Type 0
HaveFewTexts more texts = (rows : List LineOrder) × HaveTexts rows texts × (length rows + more ≤ most_batch_rows)

-- all columns are
abbrev pub HaveFew : ℕ → BatchColumns → Type 0
HaveFew more columns = (rows : List LineOrder) × HaveRows rows columns × (length rows + more ≤ most_batch_rows)
