-- What the rows of a batch have in each column, as it is in the bytes. Our own.
use Rattle.std.proofs.Common.{◌≡◌, ℕ, ◌+◌, ◌*◌, ◌^◌, ◌<◌, ◌≤◌, List, [], length, map, take, drop, slice_index}
use Rattle.std.proofs.Common.{slice_index_or, All, refl, sym, ap, subst, ◌∙◌, arith, length-drop}
use Rattle.std.specs.Int.{from_le_bytes, w16, w32, w64}
use Rattle.std.specs.List.{AllByRecursion, flat_map, range_with_len}
use Rattle.std.proofs.Math.ListN.{get_or-map}
use Rattle.std.proofs.lemmas.List.{length-map, length-take-le}
use Rattle.std.proofs.lemmas.List.Elements.{All-from_recursion}
use Rattle.std.proofs.lemmas.List.Folds.{flat_map-map}
use Rattle.std.proofs.lemmas.List.FromFn.{length-map-range_with_len}
use Rattle.std.proofs.lemmas.Simd.{map-map, pick_l_whole}
use Rattle.cube_model.specs.declared.rows.LineOrder.{LineOrder}
use Rattle.wire.specs.Spelling.{spelling}
use Rattle.dictionary.specs.Columns.{text_of_code}
use Rattle.column_segment.specs.declared.columns.FactColumn.{FactColumn}
use Rattle.column_segment.specs.declared.columns.FactColumn.TheVariants.{OrderKey, LineNumber, CustKey, PartKey}
use Rattle.column_segment.specs.declared.columns.FactColumn.TheVariants.{SuppKey, OrderDate, Quantity, ExtendedPrice}
use Rattle.column_segment.specs.declared.columns.FactColumn.TheVariants.{OrdTotalPrice, Discount, Revenue, SupplyCost}
use Rattle.column_segment.specs.declared.columns.FactColumn.TheVariants.{Tax}
use Rattle.column_segment.specs.declared.columns.TextColumn.{TextColumn}
use Rattle.column_segment.specs.declared.columns.TextColumn.TheVariants.{OrderPriority, ShipPriority, CommitDate}
use Rattle.column_segment.specs.declared.columns.TextColumn.TheVariants.{ShipMode}
use Rattle.column_segment.specs.declared.layout.Layout.{Layout}
use Rattle.column_segment.specs.Columns.{fact_value, text_of, width_of}
use Rattle.column_segment.specs.Decoded.{amounts_in, coded_of, codes_in, column_bytes, decoded_rows, fact_place}
use Rattle.column_segment.specs.Decoded.{figures_in, numbers_in, row_in, texts_in}
use Rattle.column_segment.proofs.Chunked.{AreBytes, AreBytes-drop, AreBytes-take, back_4, back_8, below_4, below_8}
use Rattle.column_segment.proofs.Chunked.{bytes_back, bytes_below, chunks_back, length-read, read_below, within_rows}

-- what holds of each image holds of what it is the image of
pub All-unmap : {X Y : Type 0} (P : Y → Type 0) (f : X → Y) (xs : List X) → All P (map f xs) → All (λ x. P (f x)) xs
All-unmap P f xs all = λ i d lt. subst P (get_or-map f xs i d) (all i (f d) (omega (arith, lt, length-map xs f)))

module _ (text : List ℕ) (layout : Layout) where
  pub rows_many : length (decoded_rows text layout) ≡ layout.rows
  rows_many = length-map-range_with_len (row_in text layout) 0 layout.rows

  picked : (value : LineOrder → ℕ) (column : List ℕ) → length column ≡ layout.rows
      → map (λ (i : ℕ). value (row_in text layout i)) (range_with_len 0 layout.rows)
      ≡ map (λ (i : ℕ). slice_index column i) (range_with_len 0 layout.rows)
      → map value (decoded_rows text layout) ≡ column
  picked value column many same = map-map value (row_in text layout) (range_with_len 0 layout.rows) ∙ same
      ∙ pick_l_whole 0 column layout.rows many

  picked_text : (value : LineOrder → List ℕ) (column : List (List ℕ)) → length column ≡ layout.rows
      → map (λ (i : ℕ). value (row_in text layout i)) (range_with_len 0 layout.rows)
      ≡ map (λ (i : ℕ). slice_index_or column i []) (range_with_len 0 layout.rows)
      → map value (decoded_rows text layout) ≡ column
  picked_text value column many same = map-map value (row_in text layout) (range_with_len 0 layout.rows) ∙ same
      ∙ pick_l_whole [] column layout.rows many

  amounts_many : (column : FactColumn) → length (amounts_in text layout.rows column) ≡ layout.rows
  amounts_many column =
      length-read (from_le_bytes w64) 8 layout.rows (column_bytes (fact_place column) 8 layout.rows text)

  pub amount_values : (column : FactColumn) → width_of column ≡ 8
      → map (fact_value column) (decoded_rows text layout) ≡ amounts_in text layout.rows column
  amount_values OrderKey wide =
      picked (fact_value OrderKey) (amounts_in text layout.rows OrderKey) (amounts_many OrderKey) refl
  amount_values LineNumber wide = absurd (omega (arith, wide))
  amount_values CustKey wide = absurd (omega (arith, wide))
  amount_values PartKey wide = absurd (omega (arith, wide))
  amount_values SuppKey wide = absurd (omega (arith, wide))
  amount_values OrderDate wide = absurd (omega (arith, wide))
  amount_values Quantity wide = absurd (omega (arith, wide))
  amount_values ExtendedPrice wide =
      picked (fact_value ExtendedPrice) (amounts_in text layout.rows ExtendedPrice) (amounts_many ExtendedPrice) refl
  amount_values OrdTotalPrice wide =
      picked (fact_value OrdTotalPrice) (amounts_in text layout.rows OrdTotalPrice) (amounts_many OrdTotalPrice) refl
  amount_values Discount wide = absurd (omega (arith, wide))
  amount_values Revenue wide = picked (fact_value Revenue) (amounts_in text layout.rows Revenue) (amounts_many Revenue)
      refl
  amount_values SupplyCost wide =
      picked (fact_value SupplyCost) (amounts_in text layout.rows SupplyCost) (amounts_many SupplyCost) refl
  amount_values Tax wide = absurd (omega (arith, wide))

  numbers_many : (column : FactColumn) → length (numbers_in text layout.rows column) ≡ layout.rows
  numbers_many column =
      length-read (from_le_bytes w32) 4 layout.rows (column_bytes (fact_place column) 4 layout.rows text)

  pub number_values : (column : FactColumn) → width_of column ≡ 4
      → map (fact_value column) (decoded_rows text layout) ≡ numbers_in text layout.rows column
  number_values OrderKey wide = absurd (omega (arith, wide))
  number_values LineNumber wide =
      picked (fact_value LineNumber) (numbers_in text layout.rows LineNumber) (numbers_many LineNumber) refl
  number_values CustKey wide = picked (fact_value CustKey) (numbers_in text layout.rows CustKey) (numbers_many CustKey)
      refl
  number_values PartKey wide = picked (fact_value PartKey) (numbers_in text layout.rows PartKey) (numbers_many PartKey)
      refl
  number_values SuppKey wide = picked (fact_value SuppKey) (numbers_in text layout.rows SuppKey) (numbers_many SuppKey)
      refl
  number_values OrderDate wide =
      picked (fact_value OrderDate) (numbers_in text layout.rows OrderDate) (numbers_many OrderDate) refl
  number_values Quantity wide = absurd (omega (arith, wide))
  number_values ExtendedPrice wide = absurd (omega (arith, wide))
  number_values OrdTotalPrice wide = absurd (omega (arith, wide))
  number_values Discount wide = absurd (omega (arith, wide))
  number_values Revenue wide = absurd (omega (arith, wide))
  number_values SupplyCost wide = absurd (omega (arith, wide))
  number_values Tax wide = absurd (omega (arith, wide))

  pub text_values : (column : TextColumn)
      → map (text_of column) (decoded_rows text layout) ≡ texts_in text layout.rows (coded_of column layout.texts)
  text_values column = by column
    where
      many : (c : TextColumn) → length (texts_in text layout.rows (coded_of c layout.texts)) ≡ layout.rows
      many c =
          length-map (codes_in text layout.rows (coded_of c layout.texts).at)
          (text_of_code (coded_of c layout.texts).texts.texts)
          ∙ length-read (from_le_bytes w16) 2 layout.rows
          (take (2 * layout.rows) (drop (coded_of c layout.texts).at text))

      by : (c : TextColumn)
          → map (text_of c) (decoded_rows text layout) ≡ texts_in text layout.rows (coded_of c layout.texts)
      by OrderPriority = picked_text (text_of OrderPriority) (texts_in text layout.rows layout.texts.orderpriority)
          (many OrderPriority) refl
      by ShipPriority = picked_text (text_of ShipPriority) (texts_in text layout.rows layout.texts.shippriority)
          (many ShipPriority) refl
      by CommitDate = picked_text (text_of CommitDate) (texts_in text layout.rows layout.texts.commitdate)
          (many CommitDate) refl
      by ShipMode = picked_text (text_of ShipMode) (texts_in text layout.rows layout.texts.shipmode) (many ShipMode)
          refl

  -- where there is room for the columns of numbers
  module _ (room : 12 + 63 * layout.rows ≤ length text) where
    pub column_long : (place width : ℕ) → place + width ≤ 63 → length (column_bytes place width layout.rows text)
        ≡ width * layout.rows
    column_long place width within =
        length-take-le (width * layout.rows) (drop (place * layout.rows) (drop 12 text))
        (omega (
          arith,
          within_rows place width layout.rows within,
          room,
          length-drop 12 text,
          length-drop (place * layout.rows) (drop 12 text),
        ))

    pub byte_values : (column : FactColumn) → width_of column ≡ 1
        → map (fact_value column) (decoded_rows text layout) ≡ figures_in text layout.rows column
    byte_values OrderKey wide = absurd (omega (arith, wide))
    byte_values LineNumber wide = absurd (omega (arith, wide))
    byte_values CustKey wide = absurd (omega (arith, wide))
    byte_values PartKey wide = absurd (omega (arith, wide))
    byte_values SuppKey wide = absurd (omega (arith, wide))
    byte_values OrderDate wide = absurd (omega (arith, wide))
    byte_values Quantity wide =
        picked (fact_value Quantity) (figures_in text layout.rows Quantity)
        (omega (arith, column_long 28 1 (omega arith))) refl
    byte_values ExtendedPrice wide = absurd (omega (arith, wide))
    byte_values OrdTotalPrice wide = absurd (omega (arith, wide))
    byte_values Discount wide =
        picked (fact_value Discount) (figures_in text layout.rows Discount)
        (omega (arith, column_long 45 1 (omega arith))) refl
    byte_values Revenue wide = absurd (omega (arith, wide))
    byte_values SupplyCost wide = absurd (omega (arith, wide))
    byte_values Tax wide =
        picked (fact_value Tax) (figures_in text layout.rows Tax) (omega (arith, column_long 62 1 (omega arith))) refl

    -- numbers that were read as bytes fit them
    pub read_fit : (column : FactColumn) → width_of column ≡ 1 → (read : List ℕ)
        → read ≡ figures_in text layout.rows column
        → All (λ x. x < 2 ^ 8) read → All (λ row. fact_value column row < 2 ^ 8) (decoded_rows text layout)
    read_fit column wide read is fit =
        All-unmap (λ (x : ℕ). x < 2 ^ 8) (fact_value column) (decoded_rows text layout)
        (subst (All (λ (x : ℕ). x < 2 ^ 8)) (is ∙ sym (byte_values column wide)) fit)

    -- the columns of the rows are those of the bytes
    module _ (are : AreBytes text) where
      column_are : (place width : ℕ) → AreBytes (column_bytes place width layout.rows text)
      column_are place width =
          AreBytes-take (width * layout.rows) (drop (place * layout.rows) (drop 12 text))
          (AreBytes-drop (place * layout.rows) (drop 12 text) (AreBytes-drop 12 text are))

      spelled : (width : ℕ) (value : LineOrder → ℕ) (column : List ℕ) → map value (decoded_rows text layout) ≡ column
          → flat_map (λ row. spelling width (value row)) (decoded_rows text layout) ≡ flat_map (spelling width) column
      spelled width value column is = sym (flat_map-map (spelling width) value (decoded_rows text layout))
          ∙ ap (flat_map (spelling width)) is

      pub amounts_hold : (column : FactColumn) → width_of column ≡ 8 → fact_place column + 8 ≤ 63
          → flat_map (λ row. spelling 8 (fact_value column row)) (decoded_rows text layout)
          ≡ column_bytes (fact_place column) 8 layout.rows text
      amounts_hold column wide within =
          spelled 8 (fact_value column) (amounts_in text layout.rows column) (amount_values column wide)
          ∙ chunks_back 8 (from_le_bytes w64) back_8 layout.rows (column_bytes (fact_place column) 8 layout.rows text)
          (column_long (fact_place column) 8 within) (column_are (fact_place column) 8)

      pub numbers_hold : (column : FactColumn) → width_of column ≡ 4 → fact_place column + 4 ≤ 63
          → flat_map (λ row. spelling 4 (fact_value column row)) (decoded_rows text layout)
          ≡ column_bytes (fact_place column) 4 layout.rows text
      numbers_hold column wide within =
          spelled 4 (fact_value column) (numbers_in text layout.rows column) (number_values column wide)
          ∙ chunks_back 4 (from_le_bytes w32) back_4 layout.rows (column_bytes (fact_place column) 4 layout.rows text)
          (column_long (fact_place column) 4 within) (column_are (fact_place column) 4)

      pub bytes_hold : (column : FactColumn) → width_of column ≡ 1
          → flat_map (λ row. spelling 1 (fact_value column row)) (decoded_rows text layout)
          ≡ column_bytes (fact_place column) 1 layout.rows text
      bytes_hold column wide =
          spelled 1 (fact_value column) (figures_in text layout.rows column) (byte_values column wide)
          ∙ bytes_back (column_bytes (fact_place column) 1 layout.rows text) (column_are (fact_place column) 1)

      -- and they fit
      fit : (limit : ℕ) (value : LineOrder → ℕ) (column : List ℕ) → map value (decoded_rows text layout) ≡ column
          → AllByRecursion (λ x. x < limit) column → All (λ row. value row < limit) (decoded_rows text layout)
      fit limit value column is below =
          All-unmap (λ (x : ℕ). x < limit) value (decoded_rows text layout)
          (subst (All (λ (x : ℕ). x < limit)) (sym is) (All-from_recursion (λ (x : ℕ). x < limit) column below))

      pub numbers_fit : (column : FactColumn) → width_of column ≡ 4
          → All (λ row. fact_value column row < 2 ^ 32) (decoded_rows text layout)
      numbers_fit column wide =
          fit (2 ^ 32) (fact_value column) (numbers_in text layout.rows column) (number_values column wide)
          (read_below 4 (from_le_bytes w32) (2 ^ 32) below_4 layout.rows
          (column_bytes (fact_place column) 4 layout.rows text) (column_are (fact_place column) 4))

      pub bytes_fit : (column : FactColumn) → width_of column ≡ 1
          → All (λ row. fact_value column row < 2 ^ 8) (decoded_rows text layout)
      bytes_fit column wide =
          fit (2 ^ 8) (fact_value column) (figures_in text layout.rows column) (byte_values column wide)
          (bytes_below (figures_in text layout.rows column) (column_are (fact_place column) 1))

      pub amounts_fit : (column : FactColumn) → width_of column ≡ 8
          → AllByRecursion (λ x. x < 2 ^ 63) (amounts_in text layout.rows column)
          → All (λ row. fact_value column row < 2 ^ 63) (decoded_rows text layout)
      amounts_fit column wide below =
          fit (2 ^ 63) (fact_value column) (amounts_in text layout.rows column) (amount_values column wide) below

      -- amounts of any bytes
      pub amounts_small : (column : FactColumn) → width_of column ≡ 8
          → All (λ row. fact_value column row < 2 ^ 64) (decoded_rows text layout)
      amounts_small column wide =
          fit (2 ^ 64) (fact_value column) (amounts_in text layout.rows column) (amount_values column wide)
          (read_below 8 (from_le_bytes w64) (2 ^ 64) below_8 layout.rows
          (column_bytes (fact_place column) 8 layout.rows text) (column_are (fact_place column) 8))
