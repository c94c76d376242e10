-- Lemmas of `columns`: how wide columns are, and the bytes of their numbers. Our own.
use Rattle.std.proofs.Common.{◌≡◌, ℕ, zero, suc, ◌<◌, ◌≤◌, ◌∷◌, take, refl, ap, arith}
use Rattle.std.specs.Int.{byte_at, bytes_low_first}
use Rattle.wire.specs.Spelling.{spelling}
use Rattle.column_segment.specs.declared.columns.FactColumn.{FactColumn}
use Rattle.column_segment.specs.declared.columns.FactColumn.TheVariants.{OrderKey, LineNumber, CustKey, PartKey}
use Rattle.column_segment.specs.declared.columns.FactColumn.TheVariants.{SuppKey, OrderDate, Quantity, ExtendedPrice}
use Rattle.column_segment.specs.declared.columns.FactColumn.TheVariants.{OrdTotalPrice, Discount, Revenue, SupplyCost}
use Rattle.column_segment.specs.declared.columns.FactColumn.TheVariants.{Tax}
use Rattle.column_segment.specs.Columns.{width_of}

-- a number of a column has a byte
pub some_bytes : (column : FactColumn) → 0 < width_of column
some_bytes OrderKey = omega arith
some_bytes LineNumber = omega arith
some_bytes CustKey = omega arith
some_bytes PartKey = omega arith
some_bytes SuppKey = omega arith
some_bytes OrderDate = omega arith
some_bytes Quantity = omega arith
some_bytes ExtendedPrice = omega arith
some_bytes OrdTotalPrice = omega arith
some_bytes Discount = omega arith
some_bytes Revenue = omega arith
some_bytes SupplyCost = omega arith
some_bytes Tax = omega arith

-- and at most eight
pub few_bytes : (column : FactColumn) → width_of column ≤ 8
few_bytes OrderKey = omega arith
few_bytes LineNumber = omega arith
few_bytes CustKey = omega arith
few_bytes PartKey = omega arith
few_bytes SuppKey = omega arith
few_bytes OrderDate = omega arith
few_bytes Quantity = omega arith
few_bytes ExtendedPrice = omega arith
few_bytes OrdTotalPrice = omega arith
few_bytes Discount = omega arith
few_bytes Revenue = omega arith
few_bytes SupplyCost = omega arith
few_bytes Tax = omega arith

front_bytes : (few many from x : ℕ) → few ≤ many
    → take few (bytes_low_first from many x) ≡ bytes_low_first from few x
front_bytes zero many from x le = refl
front_bytes (suc few) zero from x le = absurd (omega (arith, le))
front_bytes (suc few) (suc many) from x le =
    ap (λ l. byte_at from x ∷ l) (front_bytes few many (suc from) x (omega (arith, le)))

-- the lowest bytes of a number are the first of its eight
pub front_spelling : (width x : ℕ) → width ≤ 8 → take width (spelling 8 x) ≡ spelling width x
unfolding spelling
front_spelling width x le = front_bytes width 8 0 x le
