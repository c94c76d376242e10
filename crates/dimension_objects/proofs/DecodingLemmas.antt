-- Lemmas of `decoding`, by subject.
use Rattle.std.proofs.Common.{ℕ, List, ◌≡◌, ◌≢◌, ◌<◌, ◌*◌, ◌^◌, ◌∙◌, sym, ap, refl, subst, arith, [], ◌++◌, map, length}
use Rattle.std.proofs.Common.{Option, Some, None, length-append, append-nil}
use Rattle.cube_model.specs.declared.attr.Axis.TheVariants.{Customer, Supplier, Part, Date}
use Rattle.cube_model.specs.declared.rows.DimRows.{DimRows}
use Rattle.cube_model.specs.Lawful.{ValidRowsKeepTheRules}
use Rattle.cube_model.specs.Validity.{HaveShortTexts, IsValid}
use Rattle.dimensions.specs.declared.coded.CodedDims.{CodedDims}
use Rattle.dimensions.specs.Made.{AreCodedDims, EncodeNoRows}
use Rattle.dimensions.specs.Shown.{rows_on, AreStorable}
use Rattle.dimensions.proofs.CallerLemmas.{good_customers, good_dates, good_parts, good_suppliers, good_codes, good_on}
use Rattle.dimensions.specs.TextRows.{KeysFit}
use Rattle.dimension_objects.specs.Spelled.{AreDimensionObjects, codes_in_order, dimension_spelling}
use Rattle.dimension_objects.specs.Spelled.{dimension_header, keys_spelling, linked_columns, dimension_parts}
use Rattle.dimension_objects.specs.Spelled.{row_columns, stored_columns, texts_in_order}
use Rattle.dimension_objects.specs.Columns.{IsSpelled, SpellsNoRows, BeginsWithNoCodes, BeginsWithNoHeader}
use Rattle.dimension_objects.specs.Columns.{BeginsWithNoTexts, ReadsColumns, ReadsDimensionHeader, ReadsKeys}
use Rattle.dimension_objects.specs.Columns.{ReadsColumnTexts, column_codes_in, places_of, column_texts_in}
use Rattle.dimension_objects.proofs.SpelledLaws.{spelled_one, spelled_same, after_codes, after_header, after_texts}
use Rattle.dimension_objects.proofs.SpelledLaws.{both_weaker, each_stored, keys_fit, linked_all, linked_apart, many}
use Rattle.dimension_objects.proofs.SpelledLaws.{places, proper_texts, row_all, stored_all}
use Rattle.std.specs.List.{AllByRecursion}
use Rattle.cube_model.specs.declared.attr.Axis.{Axis}
use Rattle.cube_model.specs.Limits.{most_members}
use Rattle.dictionary.specs.Spelling.{AreProper, texts_spelling}
use Rattle.dictionary.specs.Columns.{codes_spelling}
use Rattle.dimensions.specs.declared.coded.CodedColumn.{CodedColumn}
use Rattle.dimensions.specs.TextRows.{TextRow}
use Rattle.dimensions.specs.Shapes.{lowers_of, lower_of}
use Rattle.dimensions.specs.Coded.{AreGoodRows, no_coded, place_total}
use Rattle.dimension_objects.proofs.Front.{FitCodes, in_order-same, length-numbers, numbers-one}
use Rattle.dimension_objects.proofs.Steps.{all_get, all_weaker}

-- ==== The four objects together.

module _ (customers suppliers parts dates : List ℕ) where
  -- there are no rows for any of the objects
  abbrev pub AreNone : Type 0
  AreNone = (rows : DimRows) → AreDimensionObjects customers suppliers parts dates rows → ⊥

  pub none_customers : SpellsNoRows Customer customers → AreNone
  none_customers none =
      λ rows are. none (rows_on rows Customer)
      (good_on rows are.storable Customer)
      (are.storable.keys Customer) are.customers_are

  pub none_suppliers : SpellsNoRows Supplier suppliers → AreNone
  none_suppliers none =
      λ rows are. none (rows_on rows Supplier)
      (good_on rows are.storable Supplier)
      (are.storable.keys Supplier) are.suppliers_are

  pub none_parts : SpellsNoRows Part parts → AreNone
  none_parts none =
      λ rows are. none (rows_on rows Part) (good_on rows are.storable Part)
      (are.storable.keys Part) are.parts_are

  pub none_dates : SpellsNoRows Date dates → AreNone
  none_dates none =
      λ rows are. none (rows_on rows Date) (good_on rows are.storable Date)
      (are.storable.keys Date) are.dates_are

  -- nor where the codes that were read represent none
  pub no_objects : (coded : CodedDims) → IsSpelled Customer customers coded.customers
      → IsSpelled Supplier suppliers coded.suppliers → IsSpelled Part parts coded.parts
      → IsSpelled Date dates coded.dates
      → EncodeNoRows coded → AreNone
  no_objects coded c s p d none = λ rows are.
      none rows are.storable.valid are.storable.short (record {
        customers = spelled_one Customer (rows_on rows Customer) (good_on rows are.storable Customer)
            (are.storable.keys Customer)
            customers coded.customers c are.customers_are;
        suppliers = spelled_one Supplier (rows_on rows Supplier) (good_on rows are.storable Supplier)
            (are.storable.keys Supplier)
            suppliers coded.suppliers s are.suppliers_are;
        parts = spelled_one Part (rows_on rows Part) (good_on rows are.storable Part) (are.storable.keys Part)
            parts coded.parts p
            are.parts_are;
        dates = spelled_one Date (rows_on rows Date) (good_on rows are.storable Date) (are.storable.keys Date)
            dates coded.dates d
            are.dates_are;
      })

-- the rows for which the codes that were read are
pub all_objects : (customers suppliers parts dates : List ℕ) (coded : CodedDims)
    → IsSpelled Customer customers coded.customers → IsSpelled Supplier suppliers coded.suppliers
    → IsSpelled Part parts coded.parts → IsSpelled Date dates coded.dates
    → (rows : DimRows) → AreCodedDims rows coded → AreStorable rows
    → AreDimensionObjects customers suppliers parts dates rows
all_objects customers suppliers parts dates coded c s p d rows are storable =
    let first = spelled_same Customer (rows_on rows Customer) customers coded.customers c are.customers in
    let second = spelled_same Supplier (rows_on rows Supplier) suppliers coded.suppliers s are.suppliers in
    let third = spelled_same Part (rows_on rows Part) parts coded.parts p are.parts in
    let fourth = spelled_same Date (rows_on rows Date) dates coded.dates d are.dates in
    record {
      customers_are = first.0;
      suppliers_are = second.0;
      parts_are = third.0;
      dates_are = fourth.0;
      storable = storable;
    }

-- ==== Bytes that are read part by part, and when no rows have them.

pub none_header : (axis : Axis) (bytes : List ℕ) → BeginsWithNoHeader axis bytes → SpellsNoRows axis bytes
none_header axis bytes none = λ rows good have_keys is. none (length (map (λ row. row.key) rows)) _ is

module _ (axis : Axis) (bytes mid : List ℕ) (n : ℕ) (header : ReadsDimensionHeader axis bytes mid n) where
  pub none_texts : BeginsWithNoTexts (stored_columns axis) mid → SpellsNoRows axis bytes
  none_texts none = λ rows good have_keys is.
      none (dimension_parts axis rows).texts _ (proper_texts axis rows good have_keys)
      (after_header axis rows good have_keys n mid header.fits (sym header.spelled ∙ is)).1

  module _ (mid2 : List ℕ) (old columns : List CodedColumn) (old_count : length old ≡ length (lowers_of axis))
      (texts : ReadsColumnTexts (stored_columns axis) mid mid2 old columns) where
    count : length columns ≡ length (lowers_of axis)
    count = texts.count ∙ old_count

    -- the texts, the number of rows and what is left are those of the rows
    module _ (rows : List TextRow) (good : AreGoodRows axis rows) (have_keys : KeysFit rows)
        (is : bytes ≡ dimension_spelling axis rows) where
      abbrev numbers : ℕ → List ℕ
      numbers = (dimension_parts axis rows).codes

      abbrev keys : List ℕ
      keys = map (λ row. row.key) rows

      first : (n ≡ length keys)
          × (mid ≡ texts_in_order (dimension_parts axis rows).texts (stored_columns axis)
          ++ (codes_in_order numbers (linked_columns axis)
          ++ (keys_spelling keys ++ codes_in_order numbers (row_columns axis))))
      first = after_header axis rows good have_keys n mid header.fits (sym header.spelled ∙ is)

      second : AllByRecursion (λ c. column_texts_in columns c ≡ (dimension_parts axis rows).texts c)
          (stored_columns axis)
          × (mid2 ≡ codes_in_order numbers (linked_columns axis)
          ++ (keys_spelling keys ++ codes_in_order numbers (row_columns axis)))
      second = after_texts axis rows good have_keys (column_texts_in columns) mid2
          (stored_all axis (λ c. AreProper most_members (column_texts_in columns c))
          (λ i lt. all_get (λ c. AreProper most_members c.texts.texts) columns i no_coded (omega (arith, lt, count))
          texts.have.proper))
          (sym texts.spelled ∙ first.1)

      counted : (others : List CodedColumn) → ((c : ℕ) → column_texts_in others c ≡ column_texts_in columns c) → (i : ℕ)
          → i < length (lowers_of axis) → length (numbers i) ≡ places_of n others (lower_of axis i)
      counted others stay i lt =
          many axis rows good have_keys n first.0 (column_texts_in columns)
          (each_stored axis (λ c. column_texts_in columns c ≡ (dimension_parts axis rows).texts c) second.0) i lt
          ∙ by_lower (lower_of axis i)
        where
          by_lower : (o : Option ℕ) → places axis rows good have_keys n (column_texts_in columns) o
              ≡ places_of n others o
          by_lower None = refl
          by_lower (Some j) = ap length (sym (stay j))

      fits : (i : ℕ) → i < length (lowers_of axis) → FitCodes (λ c. places_of n columns (lower_of axis c)) i (numbers i)
      fits i lt = (counted columns (λ c. refl) i lt, good_codes axis rows good i lt)

    pub none_linked : BeginsWithNoCodes axis n (linked_columns axis) columns mid2 → SpellsNoRows axis bytes
    none_linked none = λ rows good have_keys is.
        none (dimension_parts axis rows).codes _
        (linked_all axis (λ i. length ((dimension_parts axis rows).codes i) ≡ places_of n columns (lower_of axis i))
        (counted rows good have_keys is columns (λ c. refl)))
        (second rows good have_keys is).1

    module _ (mid3 : List ℕ) (linked_columns_read : List CodedColumn)
        (linked : ReadsColumns axis n (linked_columns axis) mid2 mid3 columns linked_columns_read) where
      third : (rows : List TextRow) (good : AreGoodRows axis rows) (have_keys : KeysFit rows)
          → bytes ≡ dimension_spelling axis rows
          → mid3 ≡ keys_spelling (map (λ row. row.key) rows)
          ++ codes_in_order (dimension_parts axis rows).codes (row_columns axis)
      third rows good have_keys is =
          (after_codes axis rows good have_keys (λ c. places_of n columns (lower_of axis c)) (linked_columns axis)
          (column_codes_in linked_columns_read) mid3 _
          (both_weaker _ _ _ (linked_columns axis) (λ c p q. (p, q)) linked.many linked.fit)
          (linked_all axis
          (λ i. FitCodes (λ c. places_of n columns (lower_of axis c)) i ((dimension_parts axis rows).codes i))
          (fits rows good have_keys is))
          (sym linked.spelled ∙ (second rows good have_keys is).1)).1

      pub none_keys : length mid3 < 4 * n → SpellsNoRows axis bytes
      none_keys short = λ rows good have_keys is.
          let keys : List ℕ = map (λ row. row.key) rows in
          let whole = ap length (third rows good have_keys is)
          ∙ length-append (keys_spelling (map (λ row. row.key) rows))
          (codes_in_order (dimension_parts axis rows).codes (row_columns axis)) in
          let long = length-numbers 4 (map (λ row. row.key) rows) in
          let same = (first rows good have_keys is).0 in
          absurd (omega (arith, whole, long, same, short))

      module _ (mid4 keys_read : List ℕ) (keyed : ReadsKeys n mid3 mid4 keys_read) where
        fourth : (rows : List TextRow) (good : AreGoodRows axis rows) (have_keys : KeysFit rows)
            → bytes ≡ dimension_spelling axis rows
            → mid4 ≡ codes_in_order (dimension_parts axis rows).codes (row_columns axis)
        fourth rows good have_keys is =
            (numbers-one 4 keys_read (map (λ row. row.key) rows) mid4
            (codes_in_order (dimension_parts axis rows).codes (row_columns axis)) keyed.fit
            (keys_fit axis rows good have_keys)
            (keyed.many ∙ (first rows good have_keys is).0) (sym keyed.spelled ∙ third rows good have_keys is)).1

        pub none_rows : BeginsWithNoCodes axis n (row_columns axis) linked_columns_read mid4 → SpellsNoRows axis bytes
        none_rows none = λ rows good have_keys is.
            none (dimension_parts axis rows).codes []
            (row_all axis
            (λ i. length ((dimension_parts axis rows).codes i) ≡ places_of n linked_columns_read (lower_of axis i))
            (counted rows good have_keys is linked_columns_read linked.texts_stay))
            (fourth rows good have_keys is
            ∙ sym (append-nil (codes_in_order (dimension_parts axis rows).codes (row_columns axis))))

        module _ (left : List ℕ) (last : List CodedColumn)
            (by_row : ReadsColumns axis n (row_columns axis) mid4 left linked_columns_read last) where
          pub none_end : left ≢ [] → SpellsNoRows axis bytes
          none_end more = λ rows good have_keys is.
              more ((after_codes axis rows good have_keys (λ c. places_of n linked_columns_read (lower_of axis c))
              (row_columns axis) (column_codes_in last) left []
              (both_weaker _ _ _ (row_columns axis) (λ c p q. (p, q)) by_row.many by_row.fit)
              (row_all axis
              (λ i. FitCodes (λ c. places_of n linked_columns_read (lower_of axis c)) i
              ((dimension_parts axis rows).codes i))
              (λ i lt. (
                counted rows good have_keys is linked_columns_read linked.texts_stay i lt,
                good_codes axis rows good i lt,
              )))
              (sym by_row.spelled ∙ fourth rows good have_keys is
              ∙ sym (append-nil (codes_in_order (dimension_parts axis rows).codes (row_columns axis))))).1)

          texts_stay : (c : ℕ) → column_texts_in last c ≡ column_texts_in columns c
          texts_stay c = by_row.texts_stay c ∙ linked.texts_stay c

          linked_stay : AllByRecursion (λ c. column_codes_in last c ≡ column_codes_in linked_columns_read c)
              (linked_columns axis)
          linked_stay =
              all_weaker (λ c. AllByRecursion (λ other. other ≢ c) (row_columns axis))
              (λ c. column_codes_in last c ≡ column_codes_in linked_columns_read c) (linked_columns axis)
              by_row.others_stay
              (linked_apart axis)

          total : (ks : List ℕ) → length ks ≡ n → (others : List CodedColumn)
              → ((c : ℕ) → column_texts_in last c ≡ column_texts_in others c) → (o : Option ℕ)
              → places_of n others o ≡ place_total (record { keys = ks; columns = last }) o
          total ks long others same None = sym long
          total ks long others same (Some j) = ap length (sym (same j))

          pub whole : left ≡ [] → IsSpelled axis bytes (record { keys = keys_read; columns = last })
          whole empty = record {
            spelled =
                header.spelled
                ∙ (λ i. dimension_header axis (sym keyed.many i) ++ (texts.spelled ∙ (
                λ j. in_order-same texts_spelling (column_texts_in columns) (column_texts_in last) (stored_columns axis)
                (stored_all axis (λ c. column_texts_in columns c ≡ column_texts_in last c) (λ c lt. sym (texts_stay c)))
                j
                ++ (linked.spelled ∙ (
                λ k. in_order-same codes_spelling (column_codes_in linked_columns_read) (column_codes_in last)
                (linked_columns axis)
                (all_weaker _ _ (linked_columns axis) (λ c same. sym same) linked_stay) k
                ++ (keyed.spelled
                ∙ ap (λ part. keys_spelling keys_read ++ part)
                (by_row.spelled ∙ ap (λ part. codes_in_order (column_codes_in last) (row_columns axis) ++ part) empty
                ∙ append-nil (codes_in_order (column_codes_in last) (row_columns axis)))) k
                )) j
                )) i);
            rows_fit = omega (arith, header.fits, keyed.many);
            keys_fit = keyed.fit;
            count = by_row.count ∙ linked.count ∙ count;
            have = by_row.have;
            linked_many =
                both_weaker _ _ _ (linked_columns axis)
                (λ c same long. ap length same ∙ long ∙ total keys_read keyed.many columns texts_stay (lower_of axis c))
                linked_stay linked.many;
            linked_fit =
                both_weaker _ _ _ (linked_columns axis)
                (λ c same fit. subst (AllByRecursion (λ code. code < 2 ^ 16)) (sym same) fit) linked_stay linked.fit;
            rows_many =
                all_weaker _ _ (row_columns axis)
                (λ c long. long ∙ total keys_read keyed.many linked_columns_read by_row.texts_stay (lower_of axis c))
                by_row.many;
            codes_fit = by_row.fit;
          }
