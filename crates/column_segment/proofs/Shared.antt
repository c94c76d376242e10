-- Columns that were read have the numbers of the batch that they were read from. Our own.
use Rattle.std.proofs.Common.{◌≡◌, ℕ, ◌^◌, ◌%◌, ◌<◌, Option, Some, None, List, [], ◌∷◌, length, map, drop, All}
use Rattle.std.proofs.Common.{refl, sym, ap, subst, ◌∙◌, arith}
use Rattle.std.specs.Int.{from_le_bytes, w32, w64}
use Rattle.std.proofs.lemmas.List.Elements.{All-head, All-tail}
use Rattle.std.specs.List.{AllByRecursion, flat_map}
use Rattle.std.specs.Option.{IsSomeAnd}
use Rattle.std.specs.Simd.{first_chunks}
use Rattle.wire.specs.Spelling.{spelling}
use Rattle.cube_model.specs.declared.rows.LineOrder.{LineOrder}
use Rattle.column_segment.specs.declared.columns.FactColumn.{FactColumn}
use Rattle.column_segment.specs.declared.columns.FactColumn.TheVariants.{OrderKey, LineNumber, CustKey, PartKey}
use Rattle.column_segment.specs.declared.columns.FactColumn.TheVariants.{SuppKey, OrderDate, Quantity, ExtendedPrice}
use Rattle.column_segment.specs.declared.columns.FactColumn.TheVariants.{OrdTotalPrice, Discount, Revenue, SupplyCost}
use Rattle.column_segment.specs.declared.columns.FactColumn.TheVariants.{Tax}
use Rattle.column_segment.specs.declared.layout.Layout.{Layout}
use Rattle.column_segment.specs.Columns.{FitsColumn, fact_value, number_columns, width_of}
use Rattle.column_segment.specs.Decoded.{HoldsColumns, column_bytes, decoded_rows, fact_place}
use Rattle.column_segment.specs.Projected.{AgreeOn, HasColumns, ShareColumn}
use Rattle.column_segment.specs.Reading.{HasHeader, HasNumbers}
use Rattle.column_segment.specs.Segment.{FitColumns, IsSegment, number_column}
use Rattle.column_segment.proofs.CallerLemmas.{header-one}
use Rattle.column_segment.proofs.Chunked.{read_4, read_8}
use Rattle.column_segment.proofs.Passes.{Sections, column_back, has_header, has_numbers, segment_sections}
use Rattle.column_segment.proofs.Values.{amount_values, byte_values, number_values, rows_many}

fits : (column : FactColumn) (rows : List LineOrder) → FitColumns rows → All (FitsColumn column) rows
fits OrderKey rows f = f.0
fits LineNumber rows f = f.1.0
fits CustKey rows f = f.1.1.0
fits PartKey rows f = f.1.1.1.0
fits SuppKey rows f = f.1.1.1.1.0
fits OrderDate rows f = f.1.1.1.1.1.0
fits Quantity rows f = f.1.1.1.1.1.1.0
fits ExtendedPrice rows f = f.1.1.1.1.1.1.1.0
fits OrdTotalPrice rows f = f.1.1.1.1.1.1.1.1.0
fits Discount rows f = f.1.1.1.1.1.1.1.1.1.0
fits Revenue rows f = f.1.1.1.1.1.1.1.1.1.1.0
fits SupplyCost rows f = f.1.1.1.1.1.1.1.1.1.1.1.0
fits Tax rows f = f.1.1.1.1.1.1.1.1.1.1.1.1.0

holds : (column : FactColumn) (n : ℕ) (rows : List LineOrder) (text : List ℕ)
    → Sections number_columns 0 n rows (drop 12 text)
    → column_bytes (fact_place column) (width_of column) n text ≡ number_column rows column
holds OrderKey n rows text s = s.0
holds LineNumber n rows text s = s.1.0
holds CustKey n rows text s = s.1.1.0
holds PartKey n rows text s = s.1.1.1.0
holds SuppKey n rows text s = s.1.1.1.1.0
holds OrderDate n rows text s = s.1.1.1.1.1.0
holds Quantity n rows text s = s.1.1.1.1.1.1.0
holds ExtendedPrice n rows text s = s.1.1.1.1.1.1.1.0
holds OrdTotalPrice n rows text s = s.1.1.1.1.1.1.1.1.0
holds Discount n rows text s = s.1.1.1.1.1.1.1.1.1.0
holds Revenue n rows text s = s.1.1.1.1.1.1.1.1.1.1.0
holds SupplyCost n rows text s = s.1.1.1.1.1.1.1.1.1.1.1.0
holds Tax n rows text s = s.1.1.1.1.1.1.1.1.1.1.1.1.0

-- numbers of a byte are their bytes
each_byte : (value : LineOrder → ℕ) (rows : List LineOrder) → All (λ row. value row < 2 ^ 8) rows
    → flat_map (λ row. spelling 1 (value row)) rows ≡ map value rows
unfolding spelling
each_byte value [] fit = refl
each_byte value (row ∷ rows) fit =
    let own : value row < 2 ^ 8 = All-head (λ (r : LineOrder). value r < 2 ^ 8) row rows fit in
    let head : value row % 256 ≡ value row = omega (arith, own) in
    let tail = each_byte value rows (All-tail (λ (r : LineOrder). value r < 2 ^ 8) row rows fit) in
    λ i. head i ∷ tail i

-- the numbers that bytes are, eight or four bytes each
abbrev eights : ℕ → List ℕ → List ℕ
eights rows bytes = map (from_le_bytes w64) (first_chunks 8 rows bytes)

abbrev fours : ℕ → List ℕ → List ℕ
fours rows bytes = map (from_le_bytes w32) (first_chunks 4 rows bytes)

-- the numbers that bytes of a column are, any bytes
abbrev numbers_in_bytes : FactColumn → ℕ → List ℕ → List ℕ
numbers_in_bytes OrderKey rows bytes = eights rows bytes
numbers_in_bytes LineNumber rows bytes = fours rows bytes
numbers_in_bytes CustKey rows bytes = fours rows bytes
numbers_in_bytes PartKey rows bytes = fours rows bytes
numbers_in_bytes SuppKey rows bytes = fours rows bytes
numbers_in_bytes OrderDate rows bytes = fours rows bytes
numbers_in_bytes Quantity rows bytes = bytes
numbers_in_bytes ExtendedPrice rows bytes = eights rows bytes
numbers_in_bytes OrdTotalPrice rows bytes = eights rows bytes
numbers_in_bytes Discount rows bytes = bytes
numbers_in_bytes Revenue rows bytes = eights rows bytes
numbers_in_bytes SupplyCost rows bytes = eights rows bytes
numbers_in_bytes Tax rows bytes = bytes

module _ (value : LineOrder → ℕ) (rows : List LineOrder) where
  amount_back : All (λ row. value row < 2 ^ 63) rows
      → eights (length rows) (flat_map (λ row. spelling 8 (value row)) rows) ≡ map value rows
  amount_back fit = column_back 8 (from_le_bytes w64) (2 ^ 63) (λ x h. read_8 x (omega (arith, h))) value rows fit

  number_back : All (λ row. value row < 2 ^ 32) rows
      → fours (length rows) (flat_map (λ row. spelling 4 (value row)) rows) ≡ map value rows
  number_back fit = column_back 4 (from_le_bytes w32) (2 ^ 32) read_4 value rows fit

-- those of a batch's column are its numbers
numbers_back : (column : FactColumn) (rows : List LineOrder) → All (FitsColumn column) rows
    → numbers_in_bytes column (length rows) (number_column rows column) ≡ map (fact_value column) rows
numbers_back OrderKey rows fit = amount_back (fact_value OrderKey) rows fit
numbers_back LineNumber rows fit = number_back (fact_value LineNumber) rows fit
numbers_back CustKey rows fit = number_back (fact_value CustKey) rows fit
numbers_back PartKey rows fit = number_back (fact_value PartKey) rows fit
numbers_back SuppKey rows fit = number_back (fact_value SuppKey) rows fit
numbers_back OrderDate rows fit = number_back (fact_value OrderDate) rows fit
numbers_back Quantity rows fit = each_byte (fact_value Quantity) rows fit
numbers_back ExtendedPrice rows fit = amount_back (fact_value ExtendedPrice) rows fit
numbers_back OrdTotalPrice rows fit = amount_back (fact_value OrdTotalPrice) rows fit
numbers_back Discount rows fit = each_byte (fact_value Discount) rows fit
numbers_back Revenue rows fit = amount_back (fact_value Revenue) rows fit
numbers_back SupplyCost rows fit = amount_back (fact_value SupplyCost) rows fit
numbers_back Tax rows fit = each_byte (fact_value Tax) rows fit

-- ---- the rows of some bytes

module _ (own : List ℕ) (layout : Layout) (has : HoldsColumns own layout.rows) where
  own_numbers : (column : FactColumn) → map (fact_value column) (decoded_rows own layout)
      ≡ numbers_in_bytes column layout.rows
      (column_bytes (fact_place column) (width_of column) layout.rows own)
  own_numbers OrderKey = amount_values own layout OrderKey refl
  own_numbers LineNumber = number_values own layout LineNumber refl
  own_numbers CustKey = number_values own layout CustKey refl
  own_numbers PartKey = number_values own layout PartKey refl
  own_numbers SuppKey = number_values own layout SuppKey refl
  own_numbers OrderDate = number_values own layout OrderDate refl
  own_numbers Quantity = byte_values own layout has.room Quantity refl
  own_numbers ExtendedPrice = amount_values own layout ExtendedPrice refl
  own_numbers OrdTotalPrice = amount_values own layout OrdTotalPrice refl
  own_numbers Discount = byte_values own layout has.room Discount refl
  own_numbers Revenue = amount_values own layout Revenue refl
  own_numbers SupplyCost = amount_values own layout SupplyCost refl
  own_numbers Tax = byte_values own layout has.room Tax refl

  module _ (text : List ℕ) (another : ℕ) (others : List LineOrder) (is : IsSegment text another others)
      (many : layout.rows ≡ length others) where
    shared_values : (column : FactColumn) → ShareColumn layout.rows own text column
        → map (fact_value column) (decoded_rows own layout) ≡ map (fact_value column) others
    shared_values column same =
        own_numbers column ∙ ap (numbers_in_bytes column layout.rows) same
        ∙ ap (λ (n : ℕ). numbers_in_bytes column n (column_bytes (fact_place column) (width_of column) n text)) many
        ∙ ap (numbers_in_bytes column (length others))
        (holds column (length others) others text (segment_sections text another others is))
        ∙ numbers_back column others (fits column others is.fits)

    all_shared : (columns : List FactColumn) → AllByRecursion (ShareColumn layout.rows own text) columns
        → AllByRecursion (λ column. map (fact_value column) (decoded_rows own layout) ≡ map (fact_value column) others)
        columns
    all_shared [] same = tt
    all_shared (column ∷ columns) same = (shared_values column same.0, all_shared columns same.1)

-- two headers of one text are one
pub same_header : (text : List ℕ) (number other rows others : ℕ) → HasHeader text number rows
    → HasHeader text other others → (number ≡ other) × (rows ≡ others)
same_header text number other rows others one two =
    let same = header-one number rows other others (drop 12 text) (drop 12 text) one.fits (omega (arith, one.few))
    two.fits (omega (arith, two.few)) (sym one.spelled ∙ two.spelled) in (same.0, same.1)

-- bytes that share columns with those of a batch agree with it there
read_agree : (own : List ℕ) (layout : Layout) → HoldsColumns own layout.rows
    → (text : List ℕ) (number other : ℕ) (others : List LineOrder) (columns : List FactColumn)
    → HasColumns text number layout.rows → AllByRecursion (ShareColumn layout.rows own text) columns
    → IsSegment text other others → (other ≡ number) × AgreeOn columns (decoded_rows own layout) others
read_agree own layout has text number other others columns found shared is =
    let same = same_header text other number (length others) layout.rows (has_header text other others is)
    found.header in (
      same.0,
      record {
        count = rows_many own layout ∙ sym same.1;
        each = all_shared own layout has text other others is (sym same.1) columns shared;
      },
    )

-- the same of the text at an id, if there is one
pub found_agrees : (own : List ℕ) (layout : Layout) (number : ℕ) (columns : List FactColumn)
    → HoldsColumns own layout.rows → (text : Option (List ℕ))
    → IsSomeAnd text (λ t. HasColumns t number layout.rows × AllByRecursion (ShareColumn layout.rows own t) columns)
    → IsSomeAnd text (λ t. (other : ℕ) (others : List LineOrder) → IsSegment t other others
    → (other ≡ number) × AgreeOn columns (decoded_rows own layout) others)
found_agrees own layout number columns has None found = absurd found
found_agrees own layout number columns has (Some text) found = λ other others segment.
    read_agree own layout has text number other others columns found.0 found.1 segment

-- ---- what each batch of so many rows has

module _ (text : List ℕ) (number count : ℕ) (rows : List LineOrder) (is : IsSegment text number rows)
    (many : length rows ≡ count) where
  pub numbers_there : HasNumbers text count
  numbers_there = subst (HasNumbers text) many (has_numbers text number rows is)

  pub columns_there : HasColumns text number count
  columns_there =
      record { header = subst (HasHeader text number) many (has_header text number rows is); room = numbers_there.room }
