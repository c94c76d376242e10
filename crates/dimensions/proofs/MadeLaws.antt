-- Dimensions that are made of rows by codes.
use Rattle.std.proofs.Common.{◌≡◌, ◌≢◌, ◌<◌, ◌≤◌, ◌+◌, ◌∙◌, ◌⊎◌, inl, inr, zero, suc, sym, ap, refl, subst, arith, ℕ}
use Rattle.std.proofs.Common.{List, [], ◌∷◌, ◌++◌, map, length, get_or, codes, Some, None, ◌^◌}
use Rattle.std.specs.List.{AllByRecursion}
use Rattle.std.specs.Fmt.{decimal}
use Rattle.std.proofs.lemmas.List.{length-map}
use Rattle.std.proofs.lemmas.List.Elements.{All-head, All-tail}
use Rattle.cube_model.specs.declared.attr.Axis.{Axis}
use Rattle.cube_model.specs.declared.attr.Axis.TheVariants.{Customer, Supplier, Part, Date}
use Rattle.cube_model.specs.declared.fault.Fault.{Fault}
use Rattle.cube_model.specs.declared.fault.Fault.TheVariants.{BadLayout, Memory}
use Rattle.cube_model.specs.declared.rows.DimRows.{DimRows}
use Rattle.cube_model.specs.declared.rows.DateRow.{DateRow}
use Rattle.cube_model.specs.Lawful.{EachPair, KeepsRules, KeepAllRules}
use Rattle.cube_model.specs.Limits.{longest_text, most_members}
use Rattle.cube_model.specs.Validity.{Rules, members_of, HaveShortTexts, IsValid}
use Rattle.dictionary.specs.Columns.{codes_of}
use Rattle.dictionary.specs.Dictionary.{firsts}
use Rattle.dictionary.specs.Spelling.{AreProper, AreShort}
use Rattle.dimensions.specs.declared.coded.CodedColumn.{CodedColumn}
use Rattle.dimensions.specs.declared.coded.CodedDims.{CodedDims}
use Rattle.dimensions.specs.declared.coded.CodedRows.{CodedRows}
use Rattle.dimensions.specs.declared.column.Column.{Column}
use Rattle.dimensions.specs.declared.dimension.Dimension.{Dimension}
use Rattle.dimensions.specs.TextRows.{row_of_customer, row_of_supplier, row_of_part, row_of_date, KeysFit}
use Rattle.dimensions.specs.Shapes.{lowers_of, lower_of, text_rules}
use Rattle.dimensions.specs.ShortTexts.{IsShortRow}
use Rattle.dimensions.specs.Columns.{column_of_coded}
use Rattle.dimensions.specs.Coded.{no_coded, coded_at, AreCodedRows, AreGoodRows, ColumnsHaveTexts, place_total}
use Rattle.dimensions.specs.Coded.{HaveProperColumns, KeysAreDistinct}
use Rattle.dimensions.specs.Made.{IsDimensionOf, IsRefusal, AreCodedDims, EncodeNone, EncodeNoRows}
use Rattle.dimensions.specs.Dimensions.{no_column, column_at, columns_from, IsDimension, StoresRows}
use Rattle.dimensions.specs.Shown.{rows_on, rows_of_dimension, shown_customer, shown_supplier, shown_part}
use Rattle.dimensions.specs.Shown.{shown_date, shown_rows, AreDimensions}
use Rattle.dimensions.proofs.Refusals.{rules_through}
use Rattle.dimensions.proofs.ShapeLaws.{lower_below}
use Rattle.dimensions.proofs.ShortLaws.{all_at, all_map, all_unmap}
use Rattle.dimensions.proofs.CodedRules.{pairs_map, pairs_unmap, good_rows, proper_columns, distinct_keys}
use Rattle.dimensions.proofs.CodedDimensions.{each_row-map, places_in, IsInOrder, AreInOrder, placed_firsts}
use Rattle.dimensions.proofs.CodedDimensions.{placed_codes}
use Rattle.dimensions.proofs.CodedDimensions.{places_are, dimension_is}
use Rattle.dimensions.proofs.ShownLaws.{are_dimensions}
use Rattle.cube_model.proofs.LawsLemmas.{valid_rows_keep_the_rules}

-- ---- a dimension

columns_from-get : (axis : Axis) (n : ℕ) (coded : List CodedColumn) (i : ℕ) → i < length coded
    → get_or (columns_from axis n coded) i no_column
    ≡ column_of_coded (lower_of axis (n + i)) (get_or coded i no_coded)
columns_from-get axis n [] i lt = absurd (omega (arith, lt))
columns_from-get axis n (column ∷ others) zero lt =
    let here : n ≡ n + 0 = omega arith in ap (λ k. column_of_coded (lower_of axis k) column) here
columns_from-get axis n (column ∷ others) (suc i) lt =
    let next : suc n + i ≡ n + suc i = omega arith in
    columns_from-get axis (suc n) others i (omega (arith, lt))
    ∙ ap (λ k. column_of_coded (lower_of axis k) (get_or others i no_coded)) next

pub columns_from-length : (axis : Axis) (n : ℕ) (coded : List CodedColumn)
    → length (columns_from axis n coded) ≡ length coded
columns_from-length axis n [] = refl
columns_from-length axis n (column ∷ others) = ap suc (columns_from-length axis (suc n) others)

pub columns_from-push : (axis : Axis) (n : ℕ) (coded : List CodedColumn) (column : CodedColumn) (new : Column)
    → new ≡ column_of_coded (lower_of axis (n + length coded)) column
    → columns_from axis n coded ++ new ∷ [] ≡ columns_from axis n (coded ++ column ∷ [])
columns_from-push axis n [] column new is =
    let here : n + 0 ≡ n = omega arith in
    ap (λ c. c ∷ []) (is ∙ ap (λ k. column_of_coded (lower_of axis k) column) here)
columns_from-push axis n (other ∷ coded) column new is =
    let next : n + suc (length coded) ≡ suc n + length coded = omega arith in
    ap (λ l. column_of_coded (lower_of axis n) other ∷ l)
    (columns_from-push axis (suc n) coded column new (is ∙ ap (λ k. column_of_coded (lower_of axis k) column) next))

-- each column by codes has room for its texts
pub few_coded : (columns : List CodedColumn) (k : ℕ) (column : CodedColumn) → ColumnsHaveTexts columns
    → k < length columns → column ≡ get_or columns k column → length column.texts.texts ≤ most_members
few_coded columns k column have lt is =
    let proper = all_at (λ c. AreProper most_members c.texts.texts) columns k column lt have.proper in
    omega (arith, proper.most, ap (λ c. length c.texts.texts) is)

module _ (axis : Axis) (coded : CodedRows) (have : ColumnsHaveTexts coded.columns)
    (proper : HaveProperColumns axis coded)
    (distinct : KeysAreDistinct coded.keys) (fit : AllByRecursion (λ key. key < 2 ^ 32) coded.keys)
    (dimension : Dimension) (keys : dimension.keys ≡ coded.keys)
    (columns : dimension.columns.items ≡ columns_from axis 0 coded.columns)
  where
    column_is : (i : ℕ) → i < length (lowers_of axis)
        → column_at dimension i ≡ column_of_coded (lower_of axis i) (coded_at coded i)
    column_is i lt =
        let same : 0 + i ≡ i = omega arith in
        ap (λ l. get_or l i no_column) columns
        ∙ columns_from-get axis 0 coded.columns i (omega (arith, lt, proper.count))
        ∙ ap (λ k. column_of_coded (lower_of axis k) (coded_at coded i)) same

    texts_is : (i : ℕ) → i < length (lowers_of axis) → (column_at dimension i).texts ≡ (coded_at coded i).texts
    texts_is i lt = ap (λ c. c.texts) (column_is i lt)

    places_same : (i : ℕ) → i < length (lowers_of axis)
        → place_total coded (lower_of axis i) ≡ places_in dimension (lower_of axis i)
    places_same i lt =
        elim (lower_of axis i) as (λ o. lower_of axis i ≡ o → place_total coded o ≡ places_in dimension o) [
          | None ↦ λ e. ap length (sym keys)
          | Some j ↦ λ e. let before = lower_below axis i j e in
              ap (λ t. length t.texts) (sym (texts_is j (omega (arith, before, lt))))
        ] refl

    proper_at : (i : ℕ) → i < length (lowers_of axis) → AreProper most_members (coded_at coded i).texts.texts
    proper_at i lt = all_at (λ column. AreProper most_members column.texts.texts) coded.columns i no_coded
        (omega (arith, lt, proper.count)) have.proper

    in_order : AreInOrder axis dimension
    in_order = record {
      fit = subst (AllByRecursion (λ key. key < 2 ^ 32)) (sym keys) fit;
      count = ap length columns ∙ columns_from-length axis 0 coded.columns ∙ proper.count;
      lowers = λ i lt. ap (λ c. c.lower) (column_is i lt);
      columns = λ i lt. subst (λ c. IsInOrder (places_in dimension (lower_of axis i)) c) (sym (column_is i lt))
          (record {
            limit = all_at (λ column. column.texts.limit ≡ most_members) coded.columns i no_coded
                (omega (arith, lt, proper.count)) have.limits;
            once = (proper_at i lt).each_once;
            room = (proper_at i lt).most;
            places_are = (proper.columns i lt).places_are ∙ places_same i lt;
            order = (proper.columns i lt).order;
          });
    }

    short_all : (texts : List (List ℕ)) → AreShort texts → AllByRecursion (λ text. length text ≤ longest_text) texts
    short_all [] all = tt
    short_all (text ∷ texts) all = (
      All-head (λ t. length t ≤ longest_text) text texts all,
      short_all texts (All-tail (λ t. length t ≤ longest_text) text texts all),
    )

    pub made : IsDimensionOf axis coded dimension
    made = record {
      is = record {
        stores = dimension_is axis dimension in_order;
        ranks = λ i lt. subst (λ c. c.ranks ≡ c.texts.texts)
            (sym (column_is i (omega (
              arith,
              lt,
              ap length columns,
              columns_from-length axis 0 coded.columns,
              proper.count,
            )))) refl;
      };
      good = good_rows axis dimension in_order
          (λ i lt. subst (λ t. AllByRecursion (λ text. length text ≤ longest_text) t.texts) (sym (texts_is i lt))
          (short_all (coded_at coded i).texts.texts (proper_at i lt).short))
          (λ i lt. subst (λ t. AllByRecursion (λ text. text ≢ codes "ALL") t.texts) (sym (texts_is i lt))
          (proper.columns i lt).members)
          (omega (arith, proper.few_rows, ap length keys)) (subst KeysAreDistinct (sym keys) distinct);
      codes_are = record {
        keys_are = sym keys ∙ keys_of_rows;
        count = proper.count;
        columns = λ i lt. record {
          texts_are = ap (λ t. t.texts) (sym (texts_is i lt)) ∙ sym (placed_firsts axis dimension in_order i lt)
              ∙ ap firsts (sym (places_are axis dimension in_order i lt));
          codes_are = ap (λ c. c.codes) (sym (column_is i lt)) ∙ sym (placed_codes axis dimension in_order i lt)
              ∙ ap codes_of (sym (places_are axis dimension in_order i lt));
        };
      };
    }
      where
        keys_of_rows : dimension.keys ≡ map (λ row. row.key) (rows_of_dimension axis dimension)
        keys_of_rows = (dimension_is axis dimension in_order).keys

-- codes that break a rule represent no rows
pub refused_columns : (axis : Axis) (coded : CodedRows) → (HaveProperColumns axis coded → ⊥) → EncodeNone axis coded
refused_columns axis coded bad = λ rows good is. bad (proper_columns axis rows good.keep coded is)

pub refused_keys : (axis : Axis) (coded : CodedRows) → (KeysAreDistinct coded.keys → ⊥) → EncodeNone axis coded
refused_keys axis coded bad = λ rows good is. bad (distinct_keys axis rows good.keep coded is)

-- ---- rules of rows seen through a function

module _ {A B : Type 0} (to : Rules B) (f : A → B) (rows : List A) where
  map-map : {X Y Z : Type 0} (g : Y → Z) (h : X → Y) (xs : List X) → map g (map h xs) ≡ map (λ x. g (h x)) xs
  map-map g h [] = refl
  map-map g h (x ∷ xs) = ap (λ l. g (h x) ∷ l) (map-map g h xs)

  all_same : {X : Type 0} (P Q : X → Type 0) (xs : List X) → ((x : X) → P x → Q x) → AllByRecursion P xs
      → AllByRecursion Q xs
  all_same P Q [] weaker all = tt
  all_same P Q (x ∷ xs) weaker all = (weaker x all.0, all_same P Q xs weaker all.1)

  pub keeps_through : KeepsRules (rules_through to f) rows → KeepsRules to (map f rows)
  keeps_through keep = record {
    few_rows = omega (arith, keep.few_rows, length-map rows f);
    keys_differ = pairs_map (λ row other. to.key row ≢ to.key other) f rows keep.keys_differ;
    none_reserved = all_map (λ row. AllByRecursion (λ text. text row ≢ codes "ALL") to.texts) f rows
        (all_same _ _ rows (λ row all. all_unmap (λ text. text row ≢ codes "ALL") (λ text a. text (f a)) to.texts all)
        keep.none_reserved);
    few_members =
        all_same _ _ to.texts
        (λ text few. subst (λ l. length (members_of l) ≤ most_members) (sym (map-map text f rows)) few)
        (all_unmap (λ text. length (members_of (map text rows)) ≤ most_members) (λ text a. text (f a)) to.texts
        keep.few_members);
    one_upper =
        all_same _ _ to.links
        (λ link pairs. pairs_map (λ row other. link.0 row ≡ link.0 other → link.1 row ≡ link.1 other) f rows pairs)
        (all_unmap (λ link. EachPair (λ row other. link.0 row ≡ link.0 other → link.1 row ≡ link.1 other) rows)
        (λ link. ((λ a. link.0 (f a)), (λ a. link.1 (f a)))) to.links keep.one_upper);
  }

  pub keeps_back : KeepsRules to (map f rows) → KeepsRules (rules_through to f) rows
  keeps_back keep = record {
    few_rows = omega (arith, keep.few_rows, length-map rows f);
    keys_differ = pairs_unmap (λ row other. to.key row ≢ to.key other) f rows keep.keys_differ;
    none_reserved =
        all_same _ _ rows (λ row all. all_map (λ text. text row ≢ codes "ALL") (λ text a. text (f a)) to.texts all)
        (all_unmap (λ row. AllByRecursion (λ text. text row ≢ codes "ALL") to.texts) f rows keep.none_reserved);
    few_members = all_map (λ text. length (members_of (map text rows)) ≤ most_members) (λ text a. text (f a)) to.texts
        (all_same _ _ to.texts (λ text few. subst (λ l. length (members_of l) ≤ most_members) (map-map text f rows) few)
        keep.few_members);
    one_upper = all_map (λ link. EachPair (λ row other. link.0 row ≡ link.0 other → link.1 row ≡ link.1 other) rows)
        (λ link. ((λ a. link.0 (f a)), (λ a. link.1 (f a)))) to.links
        (all_same _ _ to.links
        (λ link pairs. pairs_unmap (λ row other. link.0 row ≡ link.0 other → link.1 row ≡ link.1 other) f rows
        pairs) keep.one_upper);
  }

-- ---- the four dimensions

module _ (rows : DimRows) where
  pub good_customers : KeepAllRules rows → HaveShortTexts rows → AreGoodRows Customer (rows_on rows Customer)
  good_customers keep short =
      record {
        keep = keeps_through (text_rules Customer) row_of_customer rows.customers keep.customers;
        short = all_map IsShortRow row_of_customer rows.customers short.customers;
      }

  pub good_suppliers : KeepAllRules rows → HaveShortTexts rows → AreGoodRows Supplier (rows_on rows Supplier)
  good_suppliers keep short =
      record {
        keep = keeps_through (text_rules Supplier) row_of_supplier rows.suppliers keep.suppliers;
        short = all_map IsShortRow row_of_supplier rows.suppliers short.suppliers;
      }

  pub good_parts : KeepAllRules rows → HaveShortTexts rows → AreGoodRows Part (rows_on rows Part)
  good_parts keep short =
      record {
        keep = keeps_through (text_rules Part) row_of_part rows.parts keep.parts;
        short = all_map IsShortRow row_of_part rows.parts short.parts;
      }

  pub good_dates : KeepAllRules rows → HaveShortTexts rows → AreGoodRows Date (rows_on rows Date)
  good_dates keep short =
      record {
        keep = keeps_through (text_rules Date) row_of_date rows.dates keep.dates;
        short = all_map IsShortRow row_of_date rows.dates short.dates;
      }

  pub keep_all : AreGoodRows Customer (rows_on rows Customer) → AreGoodRows Supplier (rows_on rows Supplier)
      → AreGoodRows Part (rows_on rows Part) → AreGoodRows Date (rows_on rows Date) → KeepAllRules rows
  keep_all c s p d = record {
    customers = keeps_back (text_rules Customer) row_of_customer rows.customers c.keep;
    suppliers = keeps_back (text_rules Supplier) row_of_supplier rows.suppliers s.keep;
    parts = keeps_back (text_rules Part) row_of_part rows.parts p.keep;
    dates = keeps_back (text_rules Date) row_of_date rows.dates d.keep;
  }

  pub all_short : AreGoodRows Customer (rows_on rows Customer) → AreGoodRows Supplier (rows_on rows Supplier)
      → AreGoodRows Part (rows_on rows Part) → AreGoodRows Date (rows_on rows Date) → HaveShortTexts rows
  all_short c s p d = record {
    customers = all_unmap IsShortRow row_of_customer rows.customers c.short;
    suppliers = all_unmap IsShortRow row_of_supplier rows.suppliers s.short;
    parts = all_unmap IsShortRow row_of_part rows.parts p.short;
    dates = all_unmap IsShortRow row_of_date rows.dates d.short;
  }

-- codes of one dimension that represent no rows
module _ (coded : CodedDims) (fault : Fault) where
  abbrev pub IsRefused : Type 0
  IsRefused = (fault ≡ Memory) ⊎ ((fault ≡ BadLayout) × EncodeNoRows coded)

  pub refused_customers : IsRefusal Customer coded.customers fault → IsRefused
  refused_customers (inl memory) = inl memory
  refused_customers (inr bad) =
      inr (
        bad.0,
        λ rows valid short are. bad.1 (rows_on rows Customer)
            (good_customers rows ((valid_rows_keep_the_rules rows).0 valid) short)
            are.customers,
      )

  pub refused_suppliers : IsRefusal Supplier coded.suppliers fault → IsRefused
  refused_suppliers (inl memory) = inl memory
  refused_suppliers (inr bad) =
      inr (
        bad.0,
        λ rows valid short are. bad.1 (rows_on rows Supplier)
            (good_suppliers rows ((valid_rows_keep_the_rules rows).0 valid) short)
            are.suppliers,
      )

  pub refused_parts : IsRefusal Part coded.parts fault → IsRefused
  refused_parts (inl memory) = inl memory
  refused_parts (inr bad) =
      inr (
        bad.0,
        λ rows valid short are. bad.1 (rows_on rows Part)
            (good_parts rows ((valid_rows_keep_the_rules rows).0 valid) short)
            are.parts,
      )

  pub refused_dates : IsRefusal Date coded.dates fault → IsRefused
  refused_dates (inl memory) = inl memory
  refused_dates (inr bad) =
      inr (
        bad.0,
        λ rows valid short are. bad.1 (rows_on rows Date)
            (good_dates rows ((valid_rows_keep_the_rules rows).0 valid) short)
            are.dates,
      )

  pub refused_places : IsRefusal Customer coded.customers fault ⊎ IsRefusal Supplier coded.suppliers fault → IsRefused
  refused_places (inl customers) = refused_customers customers
  refused_places (inr suppliers) = refused_suppliers suppliers

  pub refused_parts_or_dates : IsRefusal Part coded.parts fault ⊎ IsRefusal Date coded.dates fault → IsRefused
  refused_parts_or_dates (inl parts) = refused_parts parts
  refused_parts_or_dates (inr dates) = refused_dates dates

-- there are no more days than an attribute may have members
pub few_coded_days : (coded : CodedRows) (dates : Dimension) → IsDimensionOf Date coded dates → (keys : List ℕ)
    → keys ≡ dates.keys → length keys ≤ most_members
few_coded_days coded dates made keys are =
    omega (
      arith,
      ap length are,
      ap length made.is.stores.keys,
      length-map (rows_of_dimension Date dates)
          (λ row. row.key),
      made.good.keep.few_rows,
    )

-- the days by their keys
pub days_of : (rows : List DateRow) (dimension : Dimension) → StoresRows Date (map row_of_date rows) dimension
    → map decimal dimension.keys ≡ map (λ row. decimal row.key) rows
days_of rows dimension is = ap (map decimal) is.keys ∙ days rows
  where
    days : (rows : List DateRow) → map decimal (map (λ row. row.key) (map row_of_date rows))
        ≡ map (λ row. decimal row.key) rows
    days [] = refl
    days (row ∷ rows) = ap (λ l. decimal row.key ∷ l) (days rows)

module _ (customers suppliers parts dates : Dimension) where
  pub on_customers : rows_on (shown_rows customers suppliers parts dates) Customer
      ≡ rows_of_dimension Customer customers
  unfolding shown_rows
  on_customers = each_row-map row_of_customer (shown_customer customers) (length customers.keys)

  pub on_suppliers : rows_on (shown_rows customers suppliers parts dates) Supplier
      ≡ rows_of_dimension Supplier suppliers
  unfolding shown_rows
  on_suppliers = each_row-map row_of_supplier (shown_supplier suppliers) (length suppliers.keys)

  pub on_parts : rows_on (shown_rows customers suppliers parts dates) Part ≡ rows_of_dimension Part parts
  unfolding shown_rows
  on_parts = each_row-map row_of_part (shown_part parts) (length parts.keys)

  pub on_dates : rows_on (shown_rows customers suppliers parts dates) Date ≡ rows_of_dimension Date dates
  unfolding shown_rows
  on_dates = each_row-map row_of_date (shown_date dates) (length dates.keys)

  module _ (coded : CodedDims) (c : IsDimensionOf Customer coded.customers customers)
      (s : IsDimensionOf Supplier coded.suppliers suppliers)
      (p : IsDimensionOf Part coded.parts parts) (d : IsDimensionOf Date coded.dates dates) where
    abbrev all : DimRows
    all = shown_rows customers suppliers parts dates

    pub coded_all : AreCodedDims all coded
    coded_all = record {
      customers = subst (λ l. AreCodedRows Customer l coded.customers) (sym on_customers) c.codes_are;
      suppliers = subst (λ l. AreCodedRows Supplier l coded.suppliers) (sym on_suppliers) s.codes_are;
      parts = subst (λ l. AreCodedRows Part l coded.parts) (sym on_parts) p.codes_are;
      dates = subst (λ l. AreCodedRows Date l coded.dates) (sym on_dates) d.codes_are;
    }

    pub keep_shown : KeepAllRules all
    keep_shown =
        keep_all all (subst (AreGoodRows Customer) (sym on_customers) c.good)
        (subst (AreGoodRows Supplier) (sym on_suppliers) s.good)
        (subst (AreGoodRows Part) (sym on_parts) p.good) (subst (AreGoodRows Date) (sym on_dates) d.good)

    pub keys_shown : (axis : Axis) → KeysFit (rows_on all axis)
    keys_shown Customer = subst KeysFit (sym on_customers) c.is.stores.fit
    keys_shown Supplier = subst KeysFit (sym on_suppliers) s.is.stores.fit
    keys_shown Part = subst KeysFit (sym on_parts) p.is.stores.fit
    keys_shown Date = subst KeysFit (sym on_dates) d.is.stores.fit

    pub short_shown : HaveShortTexts all
    short_shown =
        all_short all (subst (AreGoodRows Customer) (sym on_customers) c.good)
        (subst (AreGoodRows Supplier) (sym on_suppliers) s.good)
        (subst (AreGoodRows Part) (sym on_parts) p.good) (subst (AreGoodRows Date) (sym on_dates) d.good)

    pub dimensions_shown : (days : List (List ℕ)) → days ≡ map decimal dates.keys → IsValid all
        → AreDimensions all customers suppliers parts dates days
    dimensions_shown days is valid =
        let date : IsDimension Date (rows_on all Date) dates =
        subst (λ l. IsDimension Date l dates) (sym on_dates) d.is in
        are_dimensions all customers suppliers parts dates
        (subst (λ l. IsDimension Customer l customers) (sym on_customers) c.is)
        (subst (λ l. IsDimension Supplier l suppliers) (sym on_suppliers) s.is)
        (subst (λ l. IsDimension Part l parts) (sym on_parts) p.is) date
        days (is ∙ days_of all.dates dates date.stores) valid short_shown
