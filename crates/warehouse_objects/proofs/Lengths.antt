-- How many bytes the objects of a warehouse have.
use Rattle.std.proofs.Common.{◌≡◌, ◌<◌, ◌≤◌, ◌+◌, ◌*◌, refl, arith, ℕ, List, [], ◌∷◌, ◌++◌, map, length, codes, Some}
use Rattle.std.proofs.Common.{None, length-append}
use Rattle.std.specs.List.{AllByRecursion, flat_map}
use Rattle.std.proofs.lemmas.List.{length-map}
use Rattle.std.proofs.lemmas.List.Elements.{All-map}
use Rattle.cube_model.specs.Limits.{longest_text, most_batch_rows, most_dimension_rows, most_members}
use Rattle.cube_model.specs.declared.attr.Axis.{Axis}
use Rattle.cube_model.specs.declared.attr.Axis.TheVariants.{Customer, Supplier, Part, Date}
use Rattle.cube_model.specs.declared.rows.LineOrder.{LineOrder}
use Rattle.wire.specs.Limits.{most_object_bytes}
use Rattle.wire.specs.Spelling.{spelling}
use Rattle.wire.proofs.CallerLemmas.{length-spelling}
use Rattle.dictionary.specs.Columns.{codes_of, codes_spelling, column_spelling, place_of}
use Rattle.dictionary.specs.Dictionary.{firsts}
use Rattle.dictionary.specs.Spelling.{AreProper, AreShort, text_spelling, texts_spelling}
use Rattle.dictionary.proofs.ColumnLaws.{AreProper-firsts, length-firsts}
use Rattle.column_segment.specs.declared.columns.FactColumn.{FactColumn}
use Rattle.column_segment.specs.Columns.{fact_value, number_columns, text_columns, text_of, width_of}
use Rattle.column_segment.specs.Segment as segments
use Rattle.column_segment.specs.Segment.{IsBatch, number_column, segment_of, text_column}
use Rattle.column_segment.specs.declared.columns.TextColumn.{TextColumn}
use Rattle.dimensions.specs.Coded.{AreGoodRows}
use Rattle.dimensions.specs.Shapes.{lowers_of, lower_of}
use Rattle.dimensions.specs.TextRows.{TextRow}
use Rattle.dimensions.proofs.CallerLemmas.{few_good_rows, good_places_above, good_places_of_rows, good_texts}
use Rattle.dimensions.proofs.CallerLemmas.{lower_below}
use Rattle.dimension_objects.specs.Spelled.{codes_in_order, dimension_spelling, keys_spelling}
use Rattle.dimension_objects.specs.Spelled.{linked_columns, dimension_parts, row_columns, stored_columns}
use Rattle.warehouse_root.proofs.ModesLaws.{each_text_most}
use Rattle.dimension_objects.specs.Spelled.{texts_in_order}
use Rattle.dimension_objects.specs.Spelled as dimension_objects
use Rattle.dimension_objects.proofs.Front.{length-numbers}
use Rattle.dimension_objects.proofs.SpelledLaws.{linked_all, row_all, stored_all}

-- ---- texts and numbers

texts_most : (texts : List (List ℕ)) → AreShort texts → length (texts_spelling texts) ≤ 4 + 256 * length texts
texts_most texts short =
    omega (
      arith,
      length-append (spelling 4 (length texts)) (flat_map text_spelling texts),
      length-spelling 4 (length texts),
      each_text_most texts short,
    )

-- ---- a batch

column_most : (column : List (List ℕ)) → AreShort column → length column ≤ most_batch_rows
    → length (column_spelling column) ≤ 16908292
column_most column short few =
    let fewer : length (firsts column) ≤ length column = length-firsts column in
    let proper : AreProper most_batch_rows (firsts column) =
    AreProper-firsts most_batch_rows column short (omega (arith, fewer, few)) in
    omega (
      arith,
      length-append (texts_spelling (firsts column)) (codes_spelling (codes_of column)),
      texts_most (firsts column) proper.short,
      proper.most,
      length-numbers 2 (codes_of column),
      length-map column (place_of (firsts column)),
      few,
    )

text_columns_most : (rows : List LineOrder) → IsBatch rows → (columns : List TextColumn)
    → length (flat_map (text_column rows) columns) ≤ 16908292 * length columns
text_columns_most rows batch [] = omega arith
text_columns_most rows batch (column ∷ columns) =
    let short : AreShort (map (text_of column) rows) =
    All-map (λ t. length t ≤ longest_text) (text_of column) rows (batch.short column) in
    let one : length (text_column rows column) ≤ 16908292 =
    column_most (map (text_of column) rows) short (omega (arith, length-map rows (text_of column), batch.few)) in
    omega (
      arith,
      length-append (text_column rows column) (flat_map (text_column rows) columns),
      one,
      text_columns_most rows batch columns,
    )

number_column_most : (column : FactColumn) → width_of column ≤ 8 → (rows : List LineOrder)
    → length (number_column rows column) ≤ 8 * length rows
number_column_most column narrow [] = omega arith
number_column_most column narrow (row ∷ rows) =
    omega (
      arith,
      length-append (spelling (width_of column) (fact_value column row)) (number_column rows column),
      length-spelling (width_of column) (fact_value column row),
      narrow,
      number_column_most column narrow rows,
    )

number_columns_most : (rows : List LineOrder) → length rows ≤ most_batch_rows → (columns : List FactColumn)
    → AllByRecursion (λ column. width_of column ≤ 8) columns
    → length (flat_map (number_column rows) columns) ≤ 524288 * length columns
number_columns_most rows few [] narrow = omega arith
number_columns_most rows few (column ∷ columns) narrow =
    omega (
      arith,
      length-append (number_column rows column) (flat_map (number_column rows) columns),
      number_column_most column narrow.0 rows,
      few,
      number_columns_most rows few columns narrow.1,
    )

narrow : AllByRecursion (λ column. width_of column ≤ 8) number_columns
narrow = (
  omega arith,
  (
    omega arith,
    (
      omega arith,
      (
        omega arith,
        (
          omega arith,
          (
            omega arith,
            (omega arith, (omega arith, (omega arith, (omega arith, (omega arith, (omega arith, (omega arith, tt))))))),
          ),
        ),
      ),
    ),
  ),
)

module _ (number : ℕ) (rows : List LineOrder) where
  front : length (segments.segment_header number (length rows)) ≡ 12
  front = omega (
    arith,
    length-append (codes "SEG1") (spelling 4 number ++ spelling 4 (length rows)),
    length-append (spelling 4 number) (spelling 4 (length rows)),
    length-spelling 4 number,
    length-spelling 4 (length rows),
  )

  abbrev columns : List ℕ
  columns = flat_map (number_column rows) number_columns ++ flat_map (text_column rows) text_columns

  pub segment_least : 1 ≤ length (segment_of number rows)
  segment_least = omega (arith, length-append (segments.segment_header number (length rows)) columns, front)

  pub segment_most : IsBatch rows → length (segment_of number rows) ≤ most_object_bytes
  segment_most batch =
      omega (
        arith,
        length-append (segments.segment_header number (length rows)) columns,
        front,
        length-append (flat_map (number_column rows) number_columns) (flat_map (text_column rows) text_columns),
        number_columns_most rows batch.few number_columns narrow,
        text_columns_most rows batch text_columns,
      )

-- ---- a dimension

texts_in_order_most : (texts : ℕ → List (List ℕ)) (order : List ℕ)
    → AllByRecursion (λ column. AreProper most_members (texts column)) order
    → length (texts_in_order texts order) ≤ 16776964 * length order
texts_in_order_most texts [] proper = omega arith
texts_in_order_most texts (column ∷ order) proper =
    omega (
      arith,
      length-append (texts_spelling (texts column)) (texts_in_order texts order),
      texts_most (texts column) proper.0.short,
      proper.0.most,
      texts_in_order_most texts order proper.1,
    )

codes_in_order_most : (numbers : ℕ → List ℕ) (order : List ℕ)
    → AllByRecursion (λ column. length (numbers column) ≤ most_dimension_rows) order
    → length (codes_in_order numbers order) ≤ 8388608 * length order
codes_in_order_most numbers [] few = omega arith
codes_in_order_most numbers (column ∷ order) few =
    omega (
      arith,
      length-append (codes_spelling (numbers column)) (codes_in_order numbers order),
      length-numbers 2 (numbers column),
      few.0,
      codes_in_order_most numbers order few.1,
    )

module _ (axis : Axis) (rows : List TextRow) (good : AreGoodRows axis rows) where
  abbrev keys : List ℕ
  keys = map (λ row. row.key) rows

  abbrev numbers : ℕ → List ℕ
  numbers = (dimension_parts axis rows).codes

  few_codes : (i : ℕ) → i < length (lowers_of axis) → length (numbers i) ≤ most_dimension_rows
  few_codes i lt = elim (lower_of axis i) as (λ o. lower_of axis i ≡ o → length (numbers i) ≤ most_dimension_rows) [
    | None ↦ λ e. omega (arith, good_places_of_rows axis rows good i lt e, few_good_rows axis rows good)
    | Some j ↦ λ e.
        let before = lower_below axis i j e in
        omega (
          arith,
          good_places_above axis rows good i j lt e,
          (good_texts axis rows good j (omega (arith, before, lt))).most,
        )
  ] refl

  abbrev last : List ℕ
  last = codes_in_order numbers (row_columns axis)

  abbrev linked : List ℕ
  linked = codes_in_order numbers (linked_columns axis)

  abbrev texts : List ℕ
  texts = texts_in_order (dimension_parts axis rows).texts (stored_columns axis)

  header : length (dimension_objects.dimension_header axis (length keys)) ≡ 12
  header = omega (
    arith,
    length-append (codes "DIM1") (spelling 4 (dimension_objects.axis_number axis) ++ spelling 4 (length keys)),
    length-append (spelling 4 (dimension_objects.axis_number axis)) (spelling 4 (length keys)),
    length-spelling 4 (dimension_objects.axis_number axis),
    length-spelling 4 (length keys),
  )

  pub dimension_least : 1 ≤ length (dimension_spelling axis rows)
  dimension_least =
      omega (
        arith,
        length-append (dimension_objects.dimension_header axis (length keys))
            (texts ++ (linked ++ (keys_spelling keys ++ last))),
        header,
      )

  in_all : length (dimension_spelling axis rows) ≤ 16777228 + 16776964 * length (stored_columns axis)
      + 8388608 * length (linked_columns axis) + 8388608 * length (row_columns axis)
  in_all =
      omega (
        arith,
        length-append (dimension_objects.dimension_header axis (length keys))
            (texts ++ (linked ++ (keys_spelling keys ++ last))),
        header,
        length-append texts (linked ++ (keys_spelling keys ++ last)),
        length-append linked (keys_spelling keys ++ last),
        length-append (keys_spelling keys) last,
        texts_in_order_most (dimension_parts axis rows).texts (stored_columns axis)
            (stored_all axis (λ column. AreProper most_members ((dimension_parts axis rows).texts column))
            (good_texts axis rows good)),
        codes_in_order_most numbers (linked_columns axis)
            (linked_all axis (λ column. length (numbers column) ≤ most_dimension_rows) few_codes),
        codes_in_order_most numbers (row_columns axis)
            (row_all axis (λ column. length (numbers column) ≤ most_dimension_rows) few_codes),
        length-numbers 4 keys,
        length-map rows (λ row. row.key),
        few_good_rows axis rows good,
      )

few_columns : (axis : Axis)
    → 16777228 + 16776964 * length (stored_columns axis) + 8388608 * length (linked_columns axis)
    + 8388608 * length (row_columns axis) ≤ most_object_bytes
few_columns Customer = omega arith
few_columns Supplier = omega arith
few_columns Part = omega arith
few_columns Date = omega arith

pub dimension_most : (axis : Axis) (rows : List TextRow) → AreGoodRows axis rows
    → length (dimension_spelling axis rows) ≤ most_object_bytes
dimension_most axis rows good = let most = in_all axis rows good in let few = few_columns axis in
    omega (arith, most, few)
