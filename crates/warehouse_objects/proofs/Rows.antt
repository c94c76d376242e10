-- Dimension rows that can be stored are the only ones with their bytes.
use Rattle.std.proofs.Common.{◌≡◌, ◌<◌, ◌^◌, ◌∙◌, zero, suc, sym, ap, refl, arith, ℕ, true, List, [], ◌∷◌, ◌++◌, map}
use Rattle.std.proofs.Common.{length, get_or, Option, Some, None}
use Rattle.std.specs.List.{AllByRecursion, list_any, position_or_len}
use Rattle.std.specs.Str.{bytes_eq}
use Rattle.std.proofs.lemmas.List.{ext_get_or, length-map, get_or-map}
use Rattle.cube_model.specs.declared.attr.Axis.{Axis}
use Rattle.cube_model.specs.declared.attr.Axis.TheVariants.{Customer, Supplier, Part, Date}
use Rattle.cube_model.specs.declared.rows.CustomerRow.{CustomerRow}
use Rattle.cube_model.specs.declared.rows.SupplierRow.{SupplierRow}
use Rattle.cube_model.specs.declared.rows.PartRow.{PartRow}
use Rattle.cube_model.specs.declared.rows.DateRow.{DateRow}
use Rattle.cube_model.specs.declared.rows.DimRows.{DimRows}
use Rattle.dictionary.specs.Columns.{text_of_code}
use Rattle.dictionary.specs.Dictionary.{firsts}
use Rattle.dictionary.proofs.CallerLemmas.{bytes_eq-refl, list_any_here, list_any-firsts, place_within, text_at_place}
use Rattle.dictionary.proofs.ColumnLaws.{column_has_codes}
use Rattle.dimensions.specs.Coded.{AreGoodRows, place_texts, text_next_to, texts_below, texts_at_places}
use Rattle.dimensions.specs.Shapes.{lowers_of, lower_of}
use Rattle.dimensions.specs.Shown.{rows_on}
use Rattle.dimensions.specs.TextRows.{TextRow, column_of, text_in, row_of_customer, row_of_date, row_of_part}
use Rattle.dimensions.specs.TextRows.{row_of_supplier}
use Rattle.dimensions.proofs.CallerLemmas.{few_good_rows, good_codes, good_on}
use Rattle.dimensions.proofs.CallerLemmas.{lower_below}
use Rattle.dimensions.proofs.CodedRules.{determined}
use Rattle.dimensions.proofs.CodedTexts.{all_from_get}
use Rattle.dimensions.specs.TextRows.{KeysFit}
use Rattle.dimension_objects.specs.Spelled.{codes_in_order, dimension_spelling, keys_spelling, linked_columns}
use Rattle.dimension_objects.specs.Spelled.{dimension_parts, row_columns, stored_columns, texts_in_order}
use Rattle.dimension_objects.proofs.Front.{FitCodes, numbers-one}
use Rattle.dimension_objects.proofs.SpelledLaws.{after_codes, after_header, after_texts, each_column, each_stored}
use Rattle.dimension_objects.proofs.SpelledLaws.{keys_fit, linked_all, many, places, proper_texts, row_all}
use Rattle.dimensions.specs.Shown.{AreStorable}

-- ---- texts above others, from the texts at their places

above : (lowers texts : List (List ℕ)) → texts ≡ map (text_next_to lowers texts) lowers
    → texts ≡ map
    (λ text. get_or (place_texts (Some lowers) texts) (position_or_len (bytes_eq text) (firsts lowers)) []) lowers
above lowers texts is =
    is ∙ outside lowers
    (all_from_get (λ text. list_any (bytes_eq text) lowers ≡ true) lowers []
    (λ k lt. list_any_here (bytes_eq (get_or lowers k [])) lowers k [] lt (bytes_eq-refl (get_or lowers k []))))
  where
    one : (text : List ℕ) → list_any (bytes_eq text) lowers ≡ true
        → text_next_to lowers texts text ≡ get_or (map (text_next_to lowers texts) (firsts lowers))
        (position_or_len (bytes_eq text) (firsts lowers)) []
    one text some =
        let seen : list_any (bytes_eq text) (firsts lowers) ≡ true = list_any-firsts text lowers ∙ some in
        let lt : position_or_len (bytes_eq text) (firsts lowers) < length (firsts lowers) =
        place_within (bytes_eq text) (firsts lowers) seen in
        sym (get_or-map (text_next_to lowers texts) (firsts lowers) (position_or_len (bytes_eq text) (firsts lowers)) []
        [] lt
        ∙ ap (text_next_to lowers texts) (text_at_place (firsts lowers) text lt))

    outside : (part : List (List ℕ)) → AllByRecursion (λ text. list_any (bytes_eq text) lowers ≡ true) part
        → map (text_next_to lowers texts) part
        ≡ map (λ text. get_or (map (text_next_to lowers texts) (firsts lowers))
        (position_or_len (bytes_eq text) (firsts lowers)) []) part
    outside [] all = refl
    outside (text ∷ part) all = λ i. one text all.0 i ∷ outside part all.1 i

-- ---- one dimension

module _ (axis : Axis) (rows others : List TextRow) (good : AreGoodRows axis rows) (also : AreGoodRows axis others)
    (have_keys : KeysFit rows) (have_others : KeysFit others)
    (same : dimension_spelling axis rows ≡ dimension_spelling axis others) where
  abbrev keys : List ℕ
  keys = map (λ row. row.key) rows

  abbrev other_keys : List ℕ
  other_keys = map (λ row. row.key) others

  abbrev texts : ℕ → List (List ℕ)
  texts = (dimension_parts axis rows).texts

  abbrev other_texts : ℕ → List (List ℕ)
  other_texts = (dimension_parts axis others).texts

  abbrev numbers : ℕ → List ℕ
  numbers = (dimension_parts axis rows).codes

  abbrev other_numbers : ℕ → List ℕ
  other_numbers = (dimension_parts axis others).codes

  abbrev last : List ℕ
  last = codes_in_order numbers (row_columns axis)

  abbrev other_last : List ℕ
  other_last = codes_in_order other_numbers (row_columns axis)

  few_keys : length keys < 2 ^ 32
  few_keys = let few = few_good_rows axis rows good in omega (arith, few, length-map rows (λ row. row.key))

  header : (length keys ≡ length other_keys)
      × (texts_in_order texts (stored_columns axis)
      ++ (codes_in_order numbers (linked_columns axis) ++ (keys_spelling keys ++ last))
      ≡ texts_in_order other_texts (stored_columns axis)
      ++ (codes_in_order other_numbers (linked_columns axis) ++ (keys_spelling other_keys ++ other_last)))
  header = after_header axis others also have_others (length keys)
      (texts_in_order texts (stored_columns axis)
      ++ (codes_in_order numbers (linked_columns axis) ++ (keys_spelling keys ++ last))) few_keys same

  stored_texts : AllByRecursion (λ column. texts column ≡ other_texts column) (stored_columns axis)
      × (codes_in_order numbers (linked_columns axis) ++ (keys_spelling keys ++ last)
      ≡ codes_in_order other_numbers (linked_columns axis) ++ (keys_spelling other_keys ++ other_last))
  stored_texts =
      after_texts axis others also have_others texts
      (codes_in_order numbers (linked_columns axis) ++ (keys_spelling keys ++ last))
      (proper_texts axis rows good have_keys) header.1

  same_texts : (i : ℕ) → i < length (lowers_of axis) → texts i ≡ other_texts i
  same_texts = each_stored axis (λ i. texts i ≡ other_texts i) stored_texts.0

  abbrev counts : ℕ → ℕ
  counts column = length (numbers column)

  fits : (i : ℕ) → i < length (lowers_of axis) → FitCodes counts i (numbers i)
  fits i lt = (refl, good_codes axis rows good i lt)

  same_places : (o : Option ℕ) → places axis others also have_others (length keys) texts o
      ≡ places axis rows good have_keys (length keys) texts o
  same_places None = refl
  same_places (Some j) = refl

  other_fits : (i : ℕ) → i < length (lowers_of axis) → FitCodes counts i (other_numbers i)
  other_fits i lt = (
    many axis others also have_others (length keys) header.0 texts same_texts i lt ∙ same_places (lower_of axis i)
        ∙ sym (many axis rows good have_keys (length keys) refl texts (λ j j_lt. refl) i lt),
    good_codes axis others also i lt,
  )

  linked : AllByRecursion (λ column. numbers column ≡ other_numbers column) (linked_columns axis)
      × (keys_spelling keys ++ last ≡ keys_spelling other_keys ++ other_last)
  linked = after_codes axis others also have_others counts (linked_columns axis) numbers (keys_spelling keys ++ last)
      (keys_spelling other_keys ++ other_last)
      (linked_all axis (λ i. FitCodes counts i (numbers i)) fits)
      (linked_all axis (λ i. FitCodes counts i (other_numbers i)) other_fits) stored_texts.1

  by_keys : (keys ≡ other_keys) × (last ≡ other_last)
  by_keys = numbers-one 4 keys other_keys last other_last (keys_fit axis rows good have_keys)
      (keys_fit axis others also have_others) header.0 linked.1

  by_row : AllByRecursion (λ column. numbers column ≡ other_numbers column) (row_columns axis)
      × (◌≡◌ {A = List ℕ} [] [])
  by_row = after_codes axis others also have_others counts (row_columns axis) numbers [] []
      (row_all axis (λ i. FitCodes counts i (numbers i)) fits)
      (row_all axis (λ i. FitCodes counts i (other_numbers i)) other_fits) (ap (λ part. part ++ []) by_keys.1)

  same_codes : (i : ℕ) → i < length (lowers_of axis) → numbers i ≡ other_numbers i
  same_codes = each_column axis (λ i. numbers i ≡ other_numbers i) linked.0 by_row.0

  placed : (i : ℕ) → i < length (lowers_of axis) → texts_at_places axis i rows ≡ texts_at_places axis i others
  placed i lt =
      sym (column_has_codes (texts_at_places axis i rows)).1
      ∙ (λ k. map (text_of_code (same_texts i lt k)) (same_codes i lt k))
      ∙ (column_has_codes (texts_at_places axis i others)).1

  columns_in : (steps i : ℕ) → i < steps → i < length (lowers_of axis) → column_of i rows ≡ column_of i others
  columns_in zero i below lt = absurd (omega (arith, below))
  columns_in (suc steps) i below lt =
      elim (lower_of axis i) as
      (λ o. lower_of axis i ≡ o → place_texts (texts_below o rows) (column_of i rows)
      ≡ place_texts (texts_below o others) (column_of i others) → column_of i rows ≡ column_of i others) [
        | None ↦ λ e is. is
        | Some j ↦ λ e is.
            let before = lower_below axis i j e in
            let under : column_of j rows ≡ column_of j others =
            columns_in steps j (omega (arith, before, below)) (omega (arith, before, lt)) in
            above (column_of j rows) (column_of i rows) (determined axis rows good.keep i j e)
            ∙ (λ k. map (λ text. get_or (is k) (position_or_len (bytes_eq text) (firsts (under k))) []) (under k))
            ∙ sym (above (column_of j others) (column_of i others) (determined axis others also.keep i j e))
      ] refl (placed i lt)

  pub same_keys : map (λ row. row.key) rows ≡ map (λ row. row.key) others
  same_keys = by_keys.0

  pub same_columns : (i : ℕ) → i < length (lowers_of axis) → column_of i rows ≡ column_of i others
  same_columns i lt = columns_in (suc i) i (omega arith) lt

-- ---- rows from their columns

first_same : {X : Type 0} (x y : X) (xs ys : List X) → x ∷ xs ≡ y ∷ ys → x ≡ y
first_same x y xs ys same = cc

others_same : {X : Type 0} (x y : X) (xs ys : List X) → x ∷ xs ≡ y ∷ ys → xs ≡ ys
others_same x y xs ys same = cc

-- rows of so many texts with the same keys and the same columns are the same
text_rows_same : (n : ℕ) (rows others : List TextRow) → AllByRecursion (λ row. length row.texts ≡ n) rows
    → AllByRecursion (λ row. length row.texts ≡ n) others
    → map (λ row. row.key) rows ≡ map (λ row. row.key) others
    → ((i : ℕ) → i < n → column_of i rows ≡ column_of i others) → rows ≡ others
text_rows_same n [] [] wide also keys_same columns_same = refl
text_rows_same n [] (other ∷ others) wide also keys_same columns_same = absurd cc
text_rows_same n (row ∷ rows) [] wide also keys_same columns_same = absurd cc
text_rows_same n (row ∷ rows) (other ∷ others) wide also keys_same columns_same =
    let key : row.key ≡ other.key =
    first_same row.key other.key (map (λ r. r.key) rows) (map (λ r. r.key) others) keys_same in
    let texts_same : row.texts ≡ other.texts = ext_get_or [] row.texts other.texts (wide.0 ∙ sym also.0) (λ i lt.
    first_same (text_in i row) (text_in i other) (column_of i rows) (column_of i others)
    (columns_same i (omega (arith, lt, wide.0)))) in
    let rest : rows ≡ others =
    text_rows_same n rows others wide.1 also.1
    (others_same row.key other.key (map (λ r. r.key) rows) (map (λ r. r.key) others) keys_same)
    (λ i lt. others_same (text_in i row) (text_in i other) (column_of i rows) (column_of i others)
    (columns_same i lt)) in
    λ i. record { key = key i; texts = texts_same i } ∷ rest i

-- ---- rows of a dimension, seen as texts by column

module _ {Row : Type 0} (f : Row → TextRow) where
  each_wide : (n : ℕ) → ((row : Row) → length (f row).texts ≡ n) → (rows : List Row)
      → AllByRecursion (λ row. length row.texts ≡ n) (map f rows)
  each_wide n wide [] = tt
  each_wide n wide (row ∷ rows) = (wide row, each_wide n wide rows)

  map_one : ((row other : Row) → f row ≡ f other → row ≡ other) → (rows others : List Row) → map f rows ≡ map f others
      → rows ≡ others
  map_one back [] [] same = refl
  map_one back [] (other ∷ others) same = absurd cc
  map_one back (row ∷ rows) [] same = absurd cc
  map_one back (row ∷ rows) (other ∷ others) same =
      λ i. back row other (first_same (f row) (f other) (map f rows) (map f others) same) i
      ∷ map_one back rows others (others_same (f row) (f other) (map f rows) (map f others) same) i

  axis_one : (axis : Axis) → ((row : Row) → length (f row).texts ≡ length (lowers_of axis))
      → ((row other : Row) → f row ≡ f other → row ≡ other) → (rows others : List Row)
      → AreGoodRows axis (map f rows) → AreGoodRows axis (map f others) → KeysFit (map f rows)
      → KeysFit (map f others) → dimension_spelling axis (map f rows) ≡ dimension_spelling axis (map f others)
      → rows ≡ others
  axis_one axis wide back rows others good more have_keys have_others same =
      map_one back rows others
      (text_rows_same (length (lowers_of axis)) (map f rows) (map f others)
      (each_wide (length (lowers_of axis)) wide rows) (each_wide (length (lowers_of axis)) wide others)
      (same_keys axis (map f rows) (map f others) good more have_keys have_others same)
      (same_columns axis (map f rows) (map f others) good more have_keys have_others same))

customer_back : (row other : CustomerRow) → row_of_customer row ≡ row_of_customer other → row ≡ other
customer_back row other e = λ i. record {
  key = ap (λ r. r.key) e i;
  city = ap (text_in 0) e i;
  nation = ap (text_in 1) e i;
  region = ap (text_in 2) e i;
}

supplier_back : (row other : SupplierRow) → row_of_supplier row ≡ row_of_supplier other → row ≡ other
supplier_back row other e = λ i. record {
  key = ap (λ r. r.key) e i;
  city = ap (text_in 0) e i;
  nation = ap (text_in 1) e i;
  region = ap (text_in 2) e i;
}

part_back : (row other : PartRow) → row_of_part row ≡ row_of_part other → row ≡ other
part_back row other e = λ i. record {
  key = ap (λ r. r.key) e i;
  brand1 = ap (text_in 0) e i;
  category = ap (text_in 1) e i;
  mfgr = ap (text_in 2) e i;
}

date_back : (row other : DateRow) → row_of_date row ≡ row_of_date other → row ≡ other
date_back row other e = λ i. record {
  key = ap (λ r. r.key) e i;
  year = ap (text_in 1) e i;
  yearmonthnum = ap (text_in 0) e i;
  yearmonth = ap (text_in 2) e i;
  weeknuminyear = ap (text_in 3) e i;
}

-- ---- the four dimensions

-- rows whose four objects have the same bytes are the same rows
pub same_rows : (rows others : DimRows) → AreStorable rows → AreStorable others
    → dimension_spelling Customer (rows_on rows Customer) ≡ dimension_spelling Customer (rows_on others Customer)
    → dimension_spelling Supplier (rows_on rows Supplier) ≡ dimension_spelling Supplier (rows_on others Supplier)
    → dimension_spelling Part (rows_on rows Part) ≡ dimension_spelling Part (rows_on others Part)
    → dimension_spelling Date (rows_on rows Date) ≡ dimension_spelling Date (rows_on others Date) → rows ≡ others
same_rows rows others storable also c s p d =
    let customers = axis_one row_of_customer Customer (λ row. refl) customer_back rows.customers others.customers
    (good_on rows storable Customer) (good_on others also Customer) (storable.keys Customer)
    (also.keys Customer) c in
    let suppliers = axis_one row_of_supplier Supplier (λ row. refl) supplier_back rows.suppliers others.suppliers
    (good_on rows storable Supplier) (good_on others also Supplier) (storable.keys Supplier)
    (also.keys Supplier) s in
    let parts =
    axis_one row_of_part Part (λ row. refl) part_back rows.parts others.parts (good_on rows storable Part)
    (good_on others also Part) (storable.keys Part) (also.keys Part) p in
    let dates =
    axis_one row_of_date Date (λ row. refl) date_back rows.dates others.dates (good_on rows storable Date)
    (good_on others also Date) (storable.keys Date) (also.keys Date) d in
    λ i. record { customers = customers i; suppliers = suppliers i; parts = parts i; dates = dates i }
