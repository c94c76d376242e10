-- The rows that four dimensions represent, and the causes to refuse them.
use Rattle.std.proofs.Common.{◌≡◌, ◌<◌, ◌≤◌, ◌∙◌, ◌⊎◌, inl, inr, zero, suc, sym, ap, refl, subst, arith, ℕ, Bool, true}
use Rattle.std.proofs.Common.{false, nat_lt, List, [], ◌∷◌, map, length, get_or, unwrap_or, Option, Some, None}
use Rattle.std.specs.Option.{option_map}
use Rattle.std.specs.Fmt.{decimal}
use Rattle.std.proofs.lemmas.List.{length-map, get_or-map}
use Rattle.cube_model.specs.declared.attr.Axis.{Axis}
use Rattle.cube_model.specs.declared.attr.Axis.TheVariants.{Customer, Supplier, Part, Date}
use Rattle.cube_model.specs.declared.fault.Fault.{Fault}
use Rattle.cube_model.specs.declared.fault.Fault.TheVariants.{Memory, TooManyRows}
use Rattle.cube_model.specs.declared.rows.CustomerRow.{CustomerRow}
use Rattle.cube_model.specs.declared.rows.SupplierRow.{SupplierRow}
use Rattle.cube_model.specs.declared.rows.PartRow.{PartRow}
use Rattle.cube_model.specs.declared.rows.DateRow.{DateRow}
use Rattle.cube_model.specs.declared.rows.DimRows.{DimRows}
use Rattle.cube_model.specs.Causes.{first_cause, cause_if}
use Rattle.cube_model.specs.Validity.{HaveShortTexts, customer_rules, supplier_rules, part_rules, date_rules}
use Rattle.cube_model.specs.Validity.{rows_cause, dimension_cause, invalid_cause, IsValid}
use Rattle.dimensions.specs.declared.dimension.Dimension.{Dimension}
use Rattle.dimensions.specs.TextRows.{TextRow, text_in, column_of, row_of_customer, row_of_supplier, row_of_part}
use Rattle.dimensions.specs.TextRows.{row_of_date, KeysFit}
use Rattle.dimensions.specs.Shapes.{lowers_of, lower_of, text_rules}
use Rattle.dimensions.specs.Columns.{IsColumn, code_at}
use Rattle.dimensions.specs.Dimensions.{column_at, IsDimension, StoresRows}
use Rattle.dimensions.specs.Shown.{rows_on, code_up, text_up, each_row, shown_customer, shown_supplier}
use Rattle.dimensions.specs.Shown.{shown_part, shown_date, shown_rows, AreDimensions}
use Rattle.dimensions.proofs.ColumnLaws.{code_at-text}
use Rattle.dimensions.proofs.ShapeLaws.{lower_below}
use Rattle.dimensions.proofs.Refusals.{dimension_cause-through}

abbrev no_row : TextRow
no_row = record { key = 0; texts = [] }

-- ---- one dimension

module _ (axis : Axis) (rows : List TextRow) (dimension : Dimension) (is : StoresRows axis rows dimension) (row : ℕ)
    (lt : row < length rows) where
  in_column : (column : ℕ) → row < length (column_of column rows)
  in_column column = omega (arith, lt, length-map rows (text_in column))

  code_up_is : (steps column : ℕ) → column < steps → column < length (lowers_of axis)
      → code_up steps dimension column row ≡ code_at (column_of column rows) row
  code_up_is zero column below column_lt = absurd (omega (arith, below))
  code_up_is (suc steps) column below column_lt =
      let own = is.columns column column_lt in
      ap (λ o. get_or (column_at dimension column).codes
      (unwrap_or (option_map (λ lower. code_up steps dimension lower row) o) row) 0) (is.lowers column column_lt)
      ∙ elim (lower_of axis column) as (λ o. lower_of axis column ≡ o
      → IsColumn (column_of column rows) (option_map (λ j. column_of j rows) o) (column_at dimension column)
      → get_or (column_at dimension column).codes
      (unwrap_or (option_map (λ lower. code_up steps dimension lower row) o) row) 0
      ≡ code_at (column_of column rows) row) [
        | None ↦ λ e col. col.reads row (in_column column)
        | Some j ↦ λ e col.
            let before = lower_below axis column j e in
            ap (λ n. get_or (column_at dimension column).codes n 0)
            (code_up_is steps j (omega (arith, before, below)) (omega (arith, before, column_lt)))
            ∙ col.reads row (in_column column)
      ] refl own

  pub text_up_is : (column : ℕ) → column < 4 → column < length (lowers_of axis)
      → text_up dimension column row ≡ text_in column (get_or rows row no_row)
  text_up_is column few column_lt =
      ap (λ n. get_or (column_at dimension column).texts.texts n []) (code_up_is 4 column few column_lt)
      ∙ ap (λ l. get_or l (code_at (column_of column rows) row) []) (is.columns column column_lt).texts_are
      ∙ code_at-text (column_of column rows) row (in_column column) ∙ get_or-map (text_in column) rows row no_row [] lt

  pub key_is : get_or dimension.keys row 0 ≡ (get_or rows row no_row).key
  key_is = ap (λ l. get_or l row 0) is.keys ∙ get_or-map (λ r. r.key) rows row no_row 0 lt

each_row_is : {Row : Type 0} (rows : List Row) (row : ℕ → Row)
    → ((k : ℕ) → k < length rows → row k ≡ get_or rows k (row k)) → each_row row (length rows) ≡ rows
each_row_is [] row same = refl
each_row_is (first ∷ rows) row same =
    λ i. same 0 (omega arith) i ∷ each_row_is rows (λ k. row (suc k)) (λ k lt. same (suc k) (omega (arith, lt))) i

keys_count : (axis : Axis) (rows : List TextRow) (dimension : Dimension) → StoresRows axis rows dimension
    → length dimension.keys ≡ length rows
keys_count axis rows dimension is = ap length is.keys ∙ length-map rows (λ r. r.key)

customers_shown : (rows : List CustomerRow) (dimension : Dimension)
    → StoresRows Customer (map row_of_customer rows) dimension
    → each_row (shown_customer dimension) (length dimension.keys) ≡ rows
customers_shown rows dimension is =
    ap (each_row (shown_customer dimension)) (keys_count Customer (map row_of_customer rows) dimension is
    ∙ length-map rows row_of_customer)
    ∙ each_row_is rows (shown_customer dimension) (λ k lt.
    let lt' : k < length (map row_of_customer rows) = omega (arith, lt, length-map rows row_of_customer) in
    let at = get_or-map row_of_customer rows k (shown_customer dimension k) no_row lt in
    λ i. record {
      key = (key_is Customer (map row_of_customer rows) dimension is k lt' ∙ ap (λ r. r.key) at) i;
      city = (text_up_is Customer (map row_of_customer rows) dimension is k lt' 0 (omega arith) (omega arith)
          ∙ ap (text_in 0) at) i;
      nation = (text_up_is Customer (map row_of_customer rows) dimension is k lt' 1 (omega arith) (omega arith)
          ∙ ap (text_in 1) at) i;
      region = (text_up_is Customer (map row_of_customer rows) dimension is k lt' 2 (omega arith) (omega arith)
          ∙ ap (text_in 2) at) i;
    })

suppliers_shown : (rows : List SupplierRow) (dimension : Dimension)
    → StoresRows Supplier (map row_of_supplier rows) dimension
    → each_row (shown_supplier dimension) (length dimension.keys) ≡ rows
suppliers_shown rows dimension is =
    ap (each_row (shown_supplier dimension)) (keys_count Supplier (map row_of_supplier rows) dimension is
    ∙ length-map rows row_of_supplier)
    ∙ each_row_is rows (shown_supplier dimension) (λ k lt.
    let lt' : k < length (map row_of_supplier rows) = omega (arith, lt, length-map rows row_of_supplier) in
    let at = get_or-map row_of_supplier rows k (shown_supplier dimension k) no_row lt in
    λ i. record {
      key = (key_is Supplier (map row_of_supplier rows) dimension is k lt' ∙ ap (λ r. r.key) at) i;
      city = (text_up_is Supplier (map row_of_supplier rows) dimension is k lt' 0 (omega arith) (omega arith)
          ∙ ap (text_in 0) at) i;
      nation = (text_up_is Supplier (map row_of_supplier rows) dimension is k lt' 1 (omega arith) (omega arith)
          ∙ ap (text_in 1) at) i;
      region = (text_up_is Supplier (map row_of_supplier rows) dimension is k lt' 2 (omega arith) (omega arith)
          ∙ ap (text_in 2) at) i;
    })

parts_shown : (rows : List PartRow) (dimension : Dimension) → StoresRows Part (map row_of_part rows) dimension
    → each_row (shown_part dimension) (length dimension.keys) ≡ rows
parts_shown rows dimension is =
    ap (each_row (shown_part dimension)) (keys_count Part (map row_of_part rows) dimension is
    ∙ length-map rows row_of_part)
    ∙ each_row_is rows (shown_part dimension) (λ k lt.
    let lt' : k < length (map row_of_part rows) = omega (arith, lt, length-map rows row_of_part) in
    let at = get_or-map row_of_part rows k (shown_part dimension k) no_row lt in
    λ i. record {
      key = (key_is Part (map row_of_part rows) dimension is k lt' ∙ ap (λ r. r.key) at) i;
      brand1 = (text_up_is Part (map row_of_part rows) dimension is k lt' 0 (omega arith) (omega arith)
          ∙ ap (text_in 0) at)
          i;
      category = (text_up_is Part (map row_of_part rows) dimension is k lt' 1 (omega arith) (omega arith)
          ∙ ap (text_in 1) at) i;
      mfgr = (text_up_is Part (map row_of_part rows) dimension is k lt' 2 (omega arith) (omega arith)
          ∙ ap (text_in 2) at)
          i;
    })

dates_shown : (rows : List DateRow) (dimension : Dimension) → StoresRows Date (map row_of_date rows) dimension
    → each_row (shown_date dimension) (length dimension.keys) ≡ rows
dates_shown rows dimension is =
    ap (each_row (shown_date dimension)) (keys_count Date (map row_of_date rows) dimension is
    ∙ length-map rows row_of_date)
    ∙ each_row_is rows (shown_date dimension) (λ k lt.
    let lt' : k < length (map row_of_date rows) = omega (arith, lt, length-map rows row_of_date) in
    let at = get_or-map row_of_date rows k (shown_date dimension k) no_row lt in
    λ i. record {
      key = (key_is Date (map row_of_date rows) dimension is k lt' ∙ ap (λ r. r.key) at) i;
      year = (text_up_is Date (map row_of_date rows) dimension is k lt' 1 (omega arith) (omega arith)
          ∙ ap (text_in 1) at)
          i;
      yearmonthnum =
          (text_up_is Date (map row_of_date rows) dimension is k lt' 0 (omega arith) (omega arith) ∙ ap (text_in 0) at)
          i;
      yearmonth =
          (text_up_is Date (map row_of_date rows) dimension is k lt' 2 (omega arith) (omega arith) ∙ ap (text_in 2) at)
          i;
      weeknuminyear =
          (text_up_is Date (map row_of_date rows) dimension is k lt' 3 (omega arith) (omega arith) ∙ ap (text_in 3) at)
          i;
    })

-- ---- the causes

-- the texts of rows are refused for the causes for which the rows are
pub customer_cause : (rows : DimRows) → dimension_cause (text_rules Customer) (rows_on rows Customer)
    ≡ dimension_cause customer_rules rows.customers
customer_cause rows = sym (dimension_cause-through (text_rules Customer) row_of_customer rows.customers)

pub supplier_cause : (rows : DimRows) → dimension_cause (text_rules Supplier) (rows_on rows Supplier)
    ≡ dimension_cause supplier_rules rows.suppliers
supplier_cause rows = sym (dimension_cause-through (text_rules Supplier) row_of_supplier rows.suppliers)

pub part_cause : (rows : DimRows) → dimension_cause (text_rules Part) (rows_on rows Part)
    ≡ dimension_cause part_rules rows.parts
part_cause rows = sym (dimension_cause-through (text_rules Part) row_of_part rows.parts)

pub date_cause : (rows : DimRows) → dimension_cause (text_rules Date) (rows_on rows Date)
    ≡ dimension_cause date_rules rows.dates
date_cause rows = sym (dimension_cause-through (text_rules Date) row_of_date rows.dates)

-- a dimension's rows are refused for a cause, or when out of memory
abbrev pub Refused : Axis → DimRows → Fault → Type 0
Refused axis rows fault = (fault ≡ Memory) ⊎ (dimension_cause (text_rules axis) (rows_on rows axis) ≡ Some fault)

abbrev pub Passes : Axis → DimRows → Type 0
Passes axis rows = dimension_cause (text_rules axis) (rows_on rows axis) ≡ None

abbrev pub RefusedAtAll : DimRows → Fault → Type 0
RefusedAtAll rows fault = (fault ≡ Memory) ⊎ (invalid_cause rows ≡ Some fault)

module _ (rows : DimRows) where
  abbrev c2 : Option Fault
  c2 = dimension_cause supplier_rules rows.suppliers

  abbrev c3 : Option Fault
  c3 = dimension_cause part_rules rows.parts

  abbrev c4 : Option Fault
  c4 = dimension_cause date_rules rows.dates

  module _ (fault : Fault) where
    pub refused_customers : Refused Customer rows fault → RefusedAtAll rows fault
    refused_customers (inl memory) = inl memory
    refused_customers (inr cause) =
        inr (ap (λ c. first_cause (c ∷ c2 ∷ c3 ∷ c4 ∷ [])) (sym (customer_cause rows) ∙ cause))

    pub refused_suppliers : Passes Customer rows → Refused Supplier rows fault → RefusedAtAll rows fault
    refused_suppliers first (inl memory) = inl memory
    refused_suppliers first (inr cause) =
        inr (λ i. first_cause ((sym (customer_cause rows) ∙ first) i ∷ (sym (supplier_cause rows) ∙ cause) i ∷ c3 ∷ c4
        ∷ []))

    pub refused_parts : Passes Customer rows → Passes Supplier rows → Refused Part rows fault → RefusedAtAll rows fault
    refused_parts first second (inl memory) = inl memory
    refused_parts first second (inr cause) =
        inr (λ i. first_cause ((sym (customer_cause rows) ∙ first) i ∷ (sym (supplier_cause rows) ∙ second) i
        ∷ (sym (part_cause rows) ∙ cause) i ∷ c4 ∷ []))

    pub refused_dates : Passes Customer rows → Passes Supplier rows → Passes Part rows → Refused Date rows fault
        → RefusedAtAll rows fault
    refused_dates first second third (inl memory) = inl memory
    refused_dates first second third (inr cause) =
        inr (λ i. first_cause ((sym (customer_cause rows) ∙ first) i ∷ (sym (supplier_cause rows) ∙ second) i
        ∷ (sym (part_cause rows) ∙ third) i ∷ (sym (date_cause rows) ∙ cause) i ∷ []))

  pub accepted : Passes Customer rows → Passes Supplier rows → Passes Part rows → Passes Date rows → IsValid rows
  accepted first second third fourth =
      λ i. first_cause ((sym (customer_cause rows) ∙ first) i ∷ (sym (supplier_cause rows) ∙ second) i
      ∷ (sym (part_cause rows) ∙ third) i ∷ (sym (date_cause rows) ∙ fourth) i ∷ [])

  within_limit : (b : Bool) (cause : Option Fault) → first_cause (cause_if b TooManyRows ∷ cause ∷ []) ≡ None
      → b ≡ false
  within_limit true cause e = absurd cc
  within_limit false cause e = refl

  pub few_days : Passes Date rows → length rows.dates ≤ 65535
  few_days passes =
      let within : nat_lt 65535 (length rows.dates) ≡ false =
      within_limit (nat_lt 65535 (length rows.dates)) (rows_cause date_rules [] rows.dates)
      (sym (date_cause rows) ∙ passes) in
      grind arith

-- ---- the four dimensions

module _ (rows : DimRows) (customers suppliers parts dates : Dimension)
    (c : IsDimension Customer (rows_on rows Customer) customers)
    (s : IsDimension Supplier (rows_on rows Supplier) suppliers) (p : IsDimension Part (rows_on rows Part) parts)
    (d : IsDimension Date (rows_on rows Date) dates) where
  pub shown_is : shown_rows customers suppliers parts dates ≡ rows
  unfolding shown_rows
  shown_is = λ i. record {
    customers = customers_shown rows.customers customers c.stores i;
    suppliers = suppliers_shown rows.suppliers suppliers s.stores i;
    parts = parts_shown rows.parts parts p.stores i;
    dates = dates_shown rows.dates dates d.stores i;
  }

  pub keys_fit : (axis : Axis) → KeysFit (rows_on rows axis)
  keys_fit Customer = c.stores.fit
  keys_fit Supplier = s.stores.fit
  keys_fit Part = p.stores.fit
  keys_fit Date = d.stores.fit

  pub are_dimensions : (days : List (List ℕ)) → days ≡ map (λ row. decimal row.key) rows.dates → IsValid rows
      → HaveShortTexts rows
      → AreDimensions (shown_rows customers suppliers parts dates) customers suppliers parts dates days
  are_dimensions days days_are valid short =
      subst (λ r. AreDimensions r customers suppliers parts dates days) (sym shown_is) (record {
        customers_are = c;
        suppliers_are = s;
        parts_are = p;
        dates_are = d;
        days_are = days_are;
        valid = valid;
        short = short;
      })
