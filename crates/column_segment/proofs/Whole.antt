-- Bytes that were checked are those of a batch. Our own.
use Rattle.std.proofs.Common.{◌≡◌, ℕ, zero, suc, ◌+◌, ◌*◌, ◌^◌, ◌<◌, ◌≤◌, Bool, true, false, nat_lt, List, [], ◌∷◌}
use Rattle.std.proofs.Common.{◌++◌, length, map, take, drop, All, refl, sym, ap, subst, ◌∙◌, arith, ◌&&◌, true≢false}
use Rattle.std.proofs.Common.{append_assoc, length-drop, drop-drop}
use Rattle.std.specs.Int.{from_le_bytes, w16}
use Rattle.std.specs.List.{AllByRecursion, flat_map, list_all}
use Rattle.std.proofs.Math.Seq.{take-add}
use Rattle.std.proofs.lemmas.Bool.{ltb-true}
use Rattle.std.proofs.lemmas.List.{drop_all, length-map, length-take-le, take-append-drop}
use Rattle.std.proofs.lemmas.List.Elements.{All-from_recursion}
use Rattle.cube_model.specs.Limits.{longest_text}
use Rattle.column_kernels.specs.Checks.{all_below}
use Rattle.dictionary.specs.Columns.{codes_spelling, column_spelling, text_of_code}
use Rattle.dictionary.specs.Spelling.{AreShort, texts_spelling}
use Rattle.dictionary.proofs.ColumnLaws.{AreCodes-below, one_column}
use Rattle.column_segment.specs.declared.columns.FactColumn.{FactColumn}
use Rattle.column_segment.specs.declared.columns.FactColumn.TheVariants.{OrderKey, LineNumber, CustKey, PartKey}
use Rattle.column_segment.specs.declared.columns.FactColumn.TheVariants.{SuppKey, OrderDate, Quantity, ExtendedPrice}
use Rattle.column_segment.specs.declared.columns.FactColumn.TheVariants.{OrdTotalPrice, Discount, Revenue, SupplyCost}
use Rattle.column_segment.specs.declared.columns.FactColumn.TheVariants.{Tax}
use Rattle.column_segment.specs.declared.columns.TextColumn.{TextColumn}
use Rattle.column_segment.specs.declared.columns.TextColumn.TheVariants.{OrderPriority, ShipPriority, CommitDate}
use Rattle.column_segment.specs.declared.columns.TextColumn.TheVariants.{ShipMode}
use Rattle.column_segment.specs.declared.layout.Coded.{Coded}
use Rattle.column_segment.specs.declared.layout.Layout.{Layout}
use Rattle.column_segment.specs.Columns.{fact_value, number_columns, text_columns, text_of, width_of}
use Rattle.column_segment.specs.Decoded.{HasCodes, IsDecoded, amounts_in, coded_of, codes_in, decoded_rows, texts_in}
use Rattle.column_segment.specs.Reading.{HasColumn, HasHeader, HasNumbers, HasTexts}
use Rattle.column_segment.specs.Segment.{FitColumns, segment_header, number_column, text_column}
use Rattle.column_segment.proofs.Chunked.{AreBytes, AreBytes-drop, AreBytes-take, back_2, chunks_back, length-read}
use Rattle.column_segment.proofs.Values.{All-unmap, amounts_fit, amounts_hold, bytes_fit, bytes_hold, numbers_fit}
use Rattle.column_segment.proofs.Values.{numbers_hold, rows_many, text_values}

-- ---- columns of numbers, one after the other

abbrev pub total : List FactColumn → ℕ
total [] = 0
total (column ∷ columns) = width_of column + total columns

abbrev pieces : List FactColumn → ℕ → ℕ → List ℕ → List ℕ
pieces [] place n xs = []
pieces (column ∷ columns) place n xs = take (width_of column * n) (drop (place * n) xs)
    ++ pieces columns (place + width_of column) n xs

pub sum_times : (a b n : ℕ) → (a + b) * n ≡ a * n + b * n
sum_times a b zero = omega arith
sum_times a b (suc n) =
    let left : (a + b) * suc n ≡ (a + b) + (a + b) * n = omega arith in
    let first : a * suc n ≡ a + a * n = omega arith in
    let second : b * suc n ≡ b + b * n = omega arith in
    omega (arith, sum_times a b n, left, first, second)

pieces_whole : (columns : List FactColumn) (place n : ℕ) (xs : List ℕ)
    → pieces columns place n xs ≡ take (total columns * n) (drop (place * n) xs)
pieces_whole [] place n xs = let none : 0 ≡ 0 * n = omega arith in ap (λ (m : ℕ). take m (drop (place * n) xs)) none
pieces_whole (column ∷ columns) place n xs =
    let next : drop ((place + width_of column) * n) xs ≡ drop (width_of column * n) (drop (place * n) xs) =
    ap (λ (m : ℕ). drop m xs) (sum_times place (width_of column) n)
    ∙ sym (drop-drop (width_of column * n) (place * n) xs) in
    ap (λ (l : List ℕ). take (width_of column * n) (drop (place * n) xs) ++ l)
    (pieces_whole columns (place + width_of column) n xs)
    ∙ ap (λ (l : List ℕ). take (width_of column * n) (drop (place * n) xs) ++ take (total columns * n) l) next
    ∙ sym (take-add (width_of column * n) (total columns * n) (drop (place * n) xs))
    ∙ ap (λ (m : ℕ). take m (drop (place * n) xs)) (sym (sum_times (width_of column) (total columns) n))

below_of : (limit : ℕ) (xs : List ℕ) → all_below limit xs ≡ true → AllByRecursion (λ x. x < limit) xs
below_of limit [] fine = tt
below_of limit (x ∷ xs) fine = by (λ all. below_of limit xs all) (nat_lt x limit) refl fine
  where
    by : (list_all (λ y. nat_lt y limit) xs ≡ true → AllByRecursion (λ y. y < limit) xs) → (first : Bool)
        → nat_lt x limit ≡ first
        → (first && list_all (λ y. nat_lt y limit) xs) ≡ true → AllByRecursion (λ y. y < limit) (x ∷ xs)
    by more true is both = (ltb-true x limit is, more both)
    by more false is both = absurd (true≢false (sym both))

module _ (text : List ℕ) (layout : Layout) (are : AreBytes text) (numbers_are : HasNumbers text layout.rows) where
  keys_hold : flat_map (number_column (decoded_rows text layout)) number_columns
      ≡ take (63 * layout.rows) (drop 12 text)
  keys_hold =
      let room = numbers_are.room in
      let c1 = amounts_hold text layout room are OrderKey refl (omega arith) in
      let c2 = numbers_hold text layout room are LineNumber refl (omega arith) in
      let c3 = numbers_hold text layout room are CustKey refl (omega arith) in
      let c4 = numbers_hold text layout room are PartKey refl (omega arith) in
      let c5 = numbers_hold text layout room are SuppKey refl (omega arith) in
      let c6 = numbers_hold text layout room are OrderDate refl (omega arith) in
      let c7 = bytes_hold text layout room are Quantity refl in
      let c8 = amounts_hold text layout room are ExtendedPrice refl (omega arith) in
      let c9 = amounts_hold text layout room are OrdTotalPrice refl (omega arith) in
      let c10 = bytes_hold text layout room are Discount refl in
      let c11 = amounts_hold text layout room are Revenue refl (omega arith) in
      let c12 = amounts_hold text layout room are SupplyCost refl (omega arith) in
      let c13 = bytes_hold text layout room are Tax refl in
      let cut : flat_map (number_column (decoded_rows text layout)) number_columns
      ≡ pieces number_columns 0 layout.rows (drop 12 text) =
      λ i. c1 i ++ (c2 i
      ++ (c3 i ++ (c4 i
      ++ (c5 i ++ (c6 i ++ (c7 i ++ (c8 i ++ (c9 i ++ (c10 i ++ (c11 i ++ (c12 i ++ (c13 i ++ [])))))))))))) in
      let none : 0 * layout.rows ≡ 0 = omega arith in
      cut ∙ pieces_whole number_columns 0 layout.rows (drop 12 text)
      ∙ ap (λ (m : ℕ). take (63 * layout.rows) (drop m (drop 12 text))) none

  numbers_all_fit : FitColumns (decoded_rows text layout)
  numbers_all_fit =
      let room = numbers_are.room in
      let amount : (column : FactColumn) → width_of column ≡ 8
      → All (λ row. fact_value column row < 2 ^ 63) (decoded_rows text layout) =
      λ column wide. amounts_fit text layout room are column wide
      (below_of (2 ^ 63) (amounts_in text layout.rows column) (numbers_are.amounts column wide)) in
      let number = numbers_fit text layout room are in
      let byte = bytes_fit text layout room are in (
        amount OrderKey refl,
        (
          number LineNumber refl,
          (
            number CustKey refl,
            (
              number PartKey refl,
              (
                number SuppKey refl,
                (
                  number OrderDate refl,
                  (
                    byte Quantity refl,
                    (
                      amount ExtendedPrice refl,
                      (
                        amount OrdTotalPrice refl,
                        (byte Discount refl, (amount Revenue refl, (amount SupplyCost refl, (byte Tax refl, tt)))),
                      ),
                    ),
                  ),
                ),
              ),
            ),
          ),
        ),
      )

-- ---- columns of texts

texts_below : (P : List ℕ → Type 0) (texts : List (List ℕ)) (codes : List ℕ) → All P texts
    → AllByRecursion (λ code. code < length texts) codes → AllByRecursion P (map (text_of_code texts) codes)
texts_below P texts [] all below = tt
texts_below P texts (code ∷ codes) all below = (all code [] below.0, texts_below P texts codes all below.1)

module _ (text : List ℕ) (n from : ℕ) (coded : Coded) (are : AreBytes text) (column : HasColumn text n from coded) where
  codes_hold : codes_spelling (codes_in text n coded.at) ≡ take (2 * n) (drop coded.at text)
  codes_hold =
      chunks_back 2 (from_le_bytes w16) back_2 n (take (2 * n) (drop coded.at text))
      (length-take-le (2 * n) (drop coded.at text) (omega (arith, column.room, length-drop coded.at text)))
      (AreBytes-take (2 * n) (drop coded.at text) (AreBytes-drop coded.at text are))

  -- what is from there on is the column, and what is after its codes
  pub column_holds : drop from text ≡ column_spelling (texts_in text n coded) ++ drop (coded.at + 2 * n) text
  column_holds =
      let laws = one_column coded.texts.texts (codes_in text n coded.at) column.proper.each_once column.are in
      let own : List ℕ = texts_spelling coded.texts.texts in
      let whole : column_spelling (texts_in text n coded) ≡ own ++ take (2 * n) (drop coded.at text) =
      (λ i. texts_spelling (laws.0 i) ++ codes_spelling (laws.1 i)) ∙ ap (λ (l : List ℕ). own ++ l) codes_hold in
      column.spelled
      ∙ ap (λ (l : List ℕ). own ++ l) (sym (take-append-drop (2 * n) (drop coded.at text)))
      ∙ ap (λ (l : List ℕ). own ++ (take (2 * n) (drop coded.at text) ++ l)) (drop-drop (2 * n) coded.at text)
      ∙ sym (append_assoc own (take (2 * n) (drop coded.at text)) (drop (coded.at + 2 * n) text))
      ∙ ap (λ (l : List ℕ). l ++ drop (coded.at + 2 * n) text) (sym whole)

  pub column_short : AreShort (texts_in text n coded)
  column_short =
      All-from_recursion (λ (t : List ℕ). length t ≤ longest_text) (texts_in text n coded)
      (texts_below (λ (t : List ℕ). length t ≤ longest_text) coded.texts.texts (codes_in text n coded.at)
      column.proper.short
      (AreCodes-below (length coded.texts.texts) (codes_in text n coded.at) column.are))

  pub has_codes : HasCodes text n coded
  has_codes = record {
    room = column.room;
    few = column.proper.most;
    below = All-from_recursion (λ (code : ℕ). code < length coded.texts.texts) (codes_in text n coded.at)
        (AreCodes-below (length coded.texts.texts) (codes_in text n coded.at) column.are);
  }

  pub column_many : length (texts_in text n coded) ≡ n
  column_many = length-map (codes_in text n coded.at) (text_of_code coded.texts.texts)
      ∙ length-read (from_le_bytes w16) 2 n (take (2 * n) (drop coded.at text))

-- ---- the whole

module _ (text : List ℕ) (layout : Layout) (are : AreBytes text) (header : HasHeader text layout.number layout.rows)
    (numbers_are : HasNumbers text layout.rows)
    (texts_are : HasTexts text layout.rows layout.texts) where
  each_short : (column : TextColumn) → AreShort (texts_in text layout.rows (coded_of column layout.texts))
  each_short OrderPriority = column_short text layout.rows _ layout.texts.orderpriority are texts_are.orderpriority
  each_short ShipPriority = column_short text layout.rows _ layout.texts.shippriority are texts_are.shippriority
  each_short CommitDate = column_short text layout.rows _ layout.texts.commitdate are texts_are.commitdate
  each_short ShipMode = column_short text layout.rows _ layout.texts.shipmode are texts_are.shipmode

  each_codes : (column : TextColumn) → HasCodes text layout.rows (coded_of column layout.texts)
  each_codes OrderPriority = has_codes text layout.rows _ layout.texts.orderpriority are texts_are.orderpriority
  each_codes ShipPriority = has_codes text layout.rows _ layout.texts.shippriority are texts_are.shippriority
  each_codes CommitDate = has_codes text layout.rows _ layout.texts.commitdate are texts_are.commitdate
  each_codes ShipMode = has_codes text layout.rows _ layout.texts.shipmode are texts_are.shipmode

  texts_hold : drop (12 + 63 * layout.rows) text ≡ flat_map (text_column (decoded_rows text layout)) text_columns
  texts_hold =
      let n : ℕ = layout.rows in
      let t1 = column_holds text n (12 + 63 * n) layout.texts.orderpriority are texts_are.orderpriority in
      let t2 = column_holds text n (layout.texts.orderpriority.at + 2 * n) layout.texts.shippriority are
      texts_are.shippriority in
      let t3 = column_holds text n (layout.texts.shippriority.at + 2 * n) layout.texts.commitdate are
      texts_are.commitdate in
      let t4 = column_holds text n (layout.texts.commitdate.at + 2 * n) layout.texts.shipmode are texts_are.shipmode in
      let end : drop (layout.texts.shipmode.at + 2 * n) text ≡ [] =
      drop_all (layout.texts.shipmode.at + 2 * n) text (omega (arith, texts_are.end)) in
      let s : (column : TextColumn)
      → text_column (decoded_rows text layout) column
      ≡ column_spelling (texts_in text n (coded_of column layout.texts)) =
      λ column. ap column_spelling (text_values text layout column) in
      let a1 : List ℕ = column_spelling (texts_in text n layout.texts.orderpriority) in
      let a2 : List ℕ = column_spelling (texts_in text n layout.texts.shippriority) in
      let a3 : List ℕ = column_spelling (texts_in text n layout.texts.commitdate) in
      let a4 : List ℕ = column_spelling (texts_in text n layout.texts.shipmode) in
      t1 ∙ ap (λ (l : List ℕ). a1 ++ l)
      (t2 ∙ ap (λ (l : List ℕ). a2 ++ l)
      (t3 ∙ ap (λ (l : List ℕ). a3 ++ l) (t4 ∙ ap (λ (l : List ℕ). a4 ++ l) end)))
      ∙ (λ i. sym (s OrderPriority) i
      ++ (sym (s ShipPriority) i ++ (sym (s CommitDate) i ++ (sym (s ShipMode) i ++ []))))

  pub whole : IsDecoded text layout
  whole =
      let n : ℕ = layout.rows in
      let many : length (decoded_rows text layout) ≡ n = rows_many text layout in
      let number_part : List ℕ = flat_map (number_column (decoded_rows text layout)) number_columns in
      let text_part : List ℕ = flat_map (text_column (decoded_rows text layout)) text_columns in
      let keys : number_part ≡ take (63 * n) (drop 12 text) = keys_hold text layout are numbers_are in
      let after : drop (63 * n) (drop 12 text) ≡ text_part = drop-drop (63 * n) 12 text ∙ texts_hold in
      let spelled : text ≡ segment_header layout.number (length (decoded_rows text layout))
      ++ (number_part ++ text_part) =
      header.spelled
      ∙ ap (λ (l : List ℕ). segment_header layout.number n ++ l) (sym (take-append-drop (63 * n) (drop 12 text)))
      ∙ (λ i. segment_header layout.number (sym many i) ++ (sym keys i ++ after i)) in
      record {
        segment = record {
          spelled = spelled;
          number_fits = header.fits;
          batch = record {
            few = omega (arith, many, header.few);
            short = λ column. All-unmap (λ (t : List ℕ). length t ≤ longest_text) (text_of column)
                (decoded_rows text layout)
                (subst AreShort (sym (text_values text layout column)) (each_short column));
          };
          fits = numbers_all_fit text layout are numbers_are;
        };
        readable = record {
          few = header.few;
          room = numbers_are.room;
          amounts = λ column wide. All-from_recursion (λ (x : ℕ). x < 2 ^ 63) (amounts_in text n column)
              (below_of (2 ^ 63) (amounts_in text n column) (numbers_are.amounts column wide));
          codes = each_codes;
        };
      }
