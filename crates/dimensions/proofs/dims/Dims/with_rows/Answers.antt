use Rattle.std.proofs.Common.{◌∙◌, ap, sym, arith, length, map, subst}
use Rattle.std.specs.Fmt.{decimal}
use Rattle.std.proofs.lemmas.List.{length-map}
use Rattle.std.proofs.lemmas.Result.{err_from_is_err_and}
use Rattle.cube_model.specs.declared.attr.Axis.TheVariants.{Customer, Supplier, Part, Date}
use Rattle.cube_model.specs.declared.rows.DimRows.{DimRows}
use Rattle.dimensions.specs.Added.{joined}
use Rattle.dimensions.specs.KeptCodes.{KeepCodes}
use Rattle.dimensions.specs.Shown.{AreDimensions, rows_on}
use Rattle.dimensions.specs.TextRows.{row_of_customer, row_of_supplier, row_of_part, row_of_date}
use Rattle.dimensions.proofs.DimsLemmas.{added_customers, added_suppliers, added_parts, added_dates, extends_err}
use Rattle.dimensions.proofs.DimsLemmas.{extends_ok, joined_short, passes_valid, keep_codes}
use Rattle.dimensions.proofs.MadeLaws.{days_of}
use Rattle.dimensions.proofs.ShownLaws.{accepted, few_days, shown_is, are_dimensions, keys_fit}
use Rattle.dimensions.proofs.dims.Dims.with_rows.Goals as goal

pub with_rows-requires-clause-sound : goal.with_rows-requires-clause-sound
with_rows-requires-clause-sound c =
    let old : DimRows = c.args.self.now in
    let are : AreDimensions old c.self.inside.customers c.self.inside.suppliers c.self.inside.parts c.self.inside.dates
    c.self.inside.days =
    subst (λ (rows : DimRows). AreDimensions rows c.self.inside.customers c.self.inside.suppliers c.self.inside.parts
    c.self.inside.dates c.self.inside.days) c.self.view_is c.self.invariant in
    (rows_on old Customer, (are.customers_are.stores, passes_valid old Customer are.valid))

pub with_rows-requires-2-clause-sound : goal.with_rows-requires-2-clause-sound
with_rows-requires-2-clause-sound c =
    let old : DimRows = c.args.self.now in
    let are : AreDimensions old c.self.inside.customers c.self.inside.suppliers c.self.inside.parts c.self.inside.dates
    c.self.inside.days =
    subst (λ (rows : DimRows). AreDimensions rows c.self.inside.customers c.self.inside.suppliers c.self.inside.parts
    c.self.inside.dates c.self.inside.days) c.self.view_is c.self.invariant in
    (rows_on old Supplier, (are.suppliers_are.stores, passes_valid old Supplier are.valid))

pub with_rows-requires-3-clause-sound : goal.with_rows-requires-3-clause-sound
with_rows-requires-3-clause-sound c =
    let old : DimRows = c.args.self.now in
    let are : AreDimensions old c.self.inside.customers c.self.inside.suppliers c.self.inside.parts c.self.inside.dates
    c.self.inside.days =
    subst (λ (rows : DimRows). AreDimensions rows c.self.inside.customers c.self.inside.suppliers c.self.inside.parts
    c.self.inside.dates c.self.inside.days) c.self.view_is c.self.invariant in
    (rows_on old Part, (are.parts_are.stores, passes_valid old Part are.valid))

pub with_rows-requires-4-clause-sound : goal.with_rows-requires-4-clause-sound
with_rows-requires-4-clause-sound c =
    let old : DimRows = c.args.self.now in
    let are : AreDimensions old c.self.inside.customers c.self.inside.suppliers c.self.inside.parts c.self.inside.dates
    c.self.inside.days =
    subst (λ (rows : DimRows). AreDimensions rows c.self.inside.customers c.self.inside.suppliers c.self.inside.parts
    c.self.inside.dates c.self.inside.days) c.self.view_is c.self.invariant in
    (rows_on old Date, (are.dates_are.stores, passes_valid old Date are.valid))

pub returns-in_err-customers-clause-err : goal.returns-in_err-customers-clause-err
returns-in_err-customers-clause-err c =
    let old : DimRows = c.args.self.now in
    let are : AreDimensions old c.self.inside.customers c.self.inside.suppliers c.self.inside.parts c.self.inside.dates
    c.self.inside.days =
    subst (λ (rows : DimRows). AreDimensions rows c.self.inside.customers c.self.inside.suppliers c.self.inside.parts
    c.self.inside.dates c.self.inside.days) c.self.view_is c.self.invariant in
    let p = err_from_is_err_and c.from_residual.result c.from_residual.ensures.1 in
    let customers =
    extends_err old c.args.rows.now Customer c.self.inside.customers (map row_of_customer c.as_slice.result.now)
    (ap (map row_of_customer) c.as_slice.ensures) are.valid are.customers_are c.in_err-customers.field-0.0
    c.in_err-customers.ensures in
    rw (p.1, p.2) (added_customers old c.args.rows.now c.in_err-customers.field-0.0 customers)

pub returns-in_err-suppliers-clause-err : goal.returns-in_err-suppliers-clause-err
returns-in_err-suppliers-clause-err c =
    let old : DimRows = c.args.self.now in
    let are : AreDimensions old c.self.inside.customers c.self.inside.suppliers c.self.inside.parts c.self.inside.dates
    c.self.inside.days =
    subst (λ (rows : DimRows). AreDimensions rows c.self.inside.customers c.self.inside.suppliers c.self.inside.parts
    c.self.inside.dates c.self.inside.days) c.self.view_is c.self.invariant in
    let customers =
    extends_ok old c.args.rows.now Customer c.self.inside.customers (map row_of_customer c.as_slice.result.now)
    (ap (map row_of_customer) c.as_slice.ensures) are.valid are.customers_are c.in_ok-customers.customers
    c.in_ok-customers.ensures in
    let p = err_from_is_err_and c.from_residual-in_err-suppliers.result c.from_residual-in_err-suppliers.ensures.1 in
    let suppliers =
    extends_err old c.args.rows.now Supplier c.self.inside.suppliers (map row_of_supplier c.as_slice-2.result.now)
    (ap (map row_of_supplier) c.as_slice-2.ensures) are.valid are.suppliers_are c.in_err-suppliers.field-0.0
    c.in_err-suppliers.ensures in
    rw (p.1, p.2) (added_suppliers old c.args.rows.now c.in_err-suppliers.field-0.0 customers.1 suppliers)

pub returns-in_err-parts-clause-err : goal.returns-in_err-parts-clause-err
returns-in_err-parts-clause-err c =
    let old : DimRows = c.args.self.now in
    let are : AreDimensions old c.self.inside.customers c.self.inside.suppliers c.self.inside.parts c.self.inside.dates
    c.self.inside.days =
    subst (λ (rows : DimRows). AreDimensions rows c.self.inside.customers c.self.inside.suppliers c.self.inside.parts
    c.self.inside.dates c.self.inside.days) c.self.view_is c.self.invariant in
    let customers =
    extends_ok old c.args.rows.now Customer c.self.inside.customers (map row_of_customer c.as_slice.result.now)
    (ap (map row_of_customer) c.as_slice.ensures) are.valid are.customers_are c.in_ok-customers.customers
    c.in_ok-customers.ensures in
    let suppliers =
    extends_ok old c.args.rows.now Supplier c.self.inside.suppliers (map row_of_supplier c.as_slice-2.result.now)
    (ap (map row_of_supplier) c.as_slice-2.ensures) are.valid are.suppliers_are c.in_ok-suppliers.suppliers
    c.in_ok-suppliers.ensures in
    let p = err_from_is_err_and c.from_residual-in_err-parts.result c.from_residual-in_err-parts.ensures.1 in
    let parts = extends_err old c.args.rows.now Part c.self.inside.parts (map row_of_part c.as_slice-3.result.now)
    (ap (map row_of_part) c.as_slice-3.ensures) are.valid are.parts_are c.in_err-parts.field-0.0
    c.in_err-parts.ensures in
    rw (p.1, p.2) (added_parts old c.args.rows.now c.in_err-parts.field-0.0 customers.1 suppliers.1 parts)

pub returns-in_err-dates-clause-err : goal.returns-in_err-dates-clause-err
returns-in_err-dates-clause-err c =
    let old : DimRows = c.args.self.now in
    let are : AreDimensions old c.self.inside.customers c.self.inside.suppliers c.self.inside.parts c.self.inside.dates
    c.self.inside.days =
    subst (λ (rows : DimRows). AreDimensions rows c.self.inside.customers c.self.inside.suppliers c.self.inside.parts
    c.self.inside.dates c.self.inside.days) c.self.view_is c.self.invariant in
    let customers =
    extends_ok old c.args.rows.now Customer c.self.inside.customers (map row_of_customer c.as_slice.result.now)
    (ap (map row_of_customer) c.as_slice.ensures) are.valid are.customers_are c.in_ok-customers.customers
    c.in_ok-customers.ensures in
    let suppliers =
    extends_ok old c.args.rows.now Supplier c.self.inside.suppliers (map row_of_supplier c.as_slice-2.result.now)
    (ap (map row_of_supplier) c.as_slice-2.ensures) are.valid are.suppliers_are c.in_ok-suppliers.suppliers
    c.in_ok-suppliers.ensures in
    let parts = extends_ok old c.args.rows.now Part c.self.inside.parts (map row_of_part c.as_slice-3.result.now)
    (ap (map row_of_part) c.as_slice-3.ensures) are.valid are.parts_are c.in_ok-parts.parts c.in_ok-parts.ensures in
    let p = err_from_is_err_and c.from_residual-in_err-dates.result c.from_residual-in_err-dates.ensures.1 in
    let dates = extends_err old c.args.rows.now Date c.self.inside.dates (map row_of_date c.as_slice-4.result.now)
    (ap (map row_of_date) c.as_slice-4.ensures) are.valid are.dates_are c.in_err-dates.field-0.0
    c.in_err-dates.ensures in
    rw (p.1, p.2) (added_dates old c.args.rows.now c.in_err-dates.field-0.0 customers.1 suppliers.1 parts.1 dates)

pub of_days-requires : goal.of_days-requires
of_days-requires c =
    let old : DimRows = c.args.self.now in
    let are : AreDimensions old c.self.inside.customers c.self.inside.suppliers c.self.inside.parts c.self.inside.dates
    c.self.inside.days =
    subst (λ (rows : DimRows). AreDimensions rows c.self.inside.customers c.self.inside.suppliers c.self.inside.parts
    c.self.inside.dates c.self.inside.days) c.self.view_is c.self.invariant in
    let dates = extends_ok old c.args.rows.now Date c.self.inside.dates (map row_of_date c.as_slice-4.result.now)
    (ap (map row_of_date) c.as_slice-4.ensures) are.valid are.dates_are c.in_ok-dates.dates c.in_ok-dates.ensures in
    omega (
      arith,
      ap length c.keys.ensures.keys,
      ap length dates.0.stores.keys,
      length-map (rows_on (joined old c.args.rows.now) Date) (λ row. row.key),
      length-map (joined old c.args.rows.now).dates row_of_date,
      few_days (joined old c.args.rows.now) dates.1,
    )

pub invariant_of-result : goal.invariant_of-result
invariant_of-result c =
    let old : DimRows = c.args.self.now in
    let are : AreDimensions old c.self.inside.customers c.self.inside.suppliers c.self.inside.parts c.self.inside.dates
    c.self.inside.days =
    subst (λ (rows : DimRows). AreDimensions rows c.self.inside.customers c.self.inside.suppliers c.self.inside.parts
    c.self.inside.dates c.self.inside.days) c.self.view_is c.self.invariant in
    let customers =
    extends_ok old c.args.rows.now Customer c.self.inside.customers (map row_of_customer c.as_slice.result.now)
    (ap (map row_of_customer) c.as_slice.ensures) are.valid are.customers_are c.in_ok-customers.customers
    c.in_ok-customers.ensures in
    let suppliers =
    extends_ok old c.args.rows.now Supplier c.self.inside.suppliers (map row_of_supplier c.as_slice-2.result.now)
    (ap (map row_of_supplier) c.as_slice-2.ensures) are.valid are.suppliers_are c.in_ok-suppliers.suppliers
    c.in_ok-suppliers.ensures in
    let parts = extends_ok old c.args.rows.now Part c.self.inside.parts (map row_of_part c.as_slice-3.result.now)
    (ap (map row_of_part) c.as_slice-3.ensures) are.valid are.parts_are c.in_ok-parts.parts c.in_ok-parts.ensures in
    let dates = extends_ok old c.args.rows.now Date c.self.inside.dates (map row_of_date c.as_slice-4.result.now)
    (ap (map row_of_date) c.as_slice-4.ensures) are.valid are.dates_are c.in_ok-dates.dates c.in_ok-dates.ensures in
    are_dimensions (joined old c.args.rows.now) c.in_ok-customers.customers c.in_ok-suppliers.suppliers
    c.in_ok-parts.parts c.in_ok-dates.dates customers.0 suppliers.0 parts.0 dates.0
    c.in_ok-days.days (c.in_ok-days.ensures.ok ∙ ap (map decimal) c.keys.ensures.keys
    ∙ days_of (joined old c.args.rows.now).dates c.in_ok-dates.dates dates.0.stores)
    (accepted (joined old c.args.rows.now) customers.1 suppliers.1 parts.1 dates.1)
    (joined_short old c.args.rows.now are.short c.requires.short)

pub returns-clause-ok : goal.returns-clause-ok
returns-clause-ok c =
    let old : DimRows = c.args.self.now in
    let are : AreDimensions old c.self.inside.customers c.self.inside.suppliers c.self.inside.parts c.self.inside.dates
    c.self.inside.days =
    subst (λ (rows : DimRows). AreDimensions rows c.self.inside.customers c.self.inside.suppliers c.self.inside.parts
    c.self.inside.dates c.self.inside.days) c.self.view_is c.self.invariant in
    let customers =
    extends_ok old c.args.rows.now Customer c.self.inside.customers (map row_of_customer c.as_slice.result.now)
    (ap (map row_of_customer) c.as_slice.ensures) are.valid are.customers_are c.in_ok-customers.customers
    c.in_ok-customers.ensures in
    let suppliers =
    extends_ok old c.args.rows.now Supplier c.self.inside.suppliers (map row_of_supplier c.as_slice-2.result.now)
    (ap (map row_of_supplier) c.as_slice-2.ensures) are.valid are.suppliers_are c.in_ok-suppliers.suppliers
    c.in_ok-suppliers.ensures in
    let parts = extends_ok old c.args.rows.now Part c.self.inside.parts (map row_of_part c.as_slice-3.result.now)
    (ap (map row_of_part) c.as_slice-3.ensures) are.valid are.parts_are c.in_ok-parts.parts c.in_ok-parts.ensures in
    let dates = extends_ok old c.args.rows.now Date c.self.inside.dates (map row_of_date c.as_slice-4.result.now)
    (ap (map row_of_date) c.as_slice-4.ensures) are.valid are.dates_are c.in_ok-dates.dates c.in_ok-dates.ensures in
    shown_is (joined old c.args.rows.now) c.in_ok-customers.customers c.in_ok-suppliers.suppliers c.in_ok-parts.parts
    c.in_ok-dates.dates customers.0 suppliers.0 parts.0 dates.0

pub returns-clause-storable : goal.returns-clause-storable
returns-clause-storable c =
    let old : DimRows = c.args.self.now in
    let are : AreDimensions old c.self.inside.customers c.self.inside.suppliers c.self.inside.parts c.self.inside.dates
    c.self.inside.days =
    subst (λ (rows : DimRows). AreDimensions rows c.self.inside.customers c.self.inside.suppliers c.self.inside.parts
    c.self.inside.dates c.self.inside.days) c.self.view_is c.self.invariant in
    let customers =
    extends_ok old c.args.rows.now Customer c.self.inside.customers (map row_of_customer c.as_slice.result.now)
    (ap (map row_of_customer) c.as_slice.ensures) are.valid are.customers_are c.in_ok-customers.customers
    c.in_ok-customers.ensures in
    let suppliers =
    extends_ok old c.args.rows.now Supplier c.self.inside.suppliers (map row_of_supplier c.as_slice-2.result.now)
    (ap (map row_of_supplier) c.as_slice-2.ensures) are.valid are.suppliers_are c.in_ok-suppliers.suppliers
    c.in_ok-suppliers.ensures in
    let parts = extends_ok old c.args.rows.now Part c.self.inside.parts (map row_of_part c.as_slice-3.result.now)
    (ap (map row_of_part) c.as_slice-3.ensures) are.valid are.parts_are c.in_ok-parts.parts c.in_ok-parts.ensures in
    let dates = extends_ok old c.args.rows.now Date c.self.inside.dates (map row_of_date c.as_slice-4.result.now)
    (ap (map row_of_date) c.as_slice-4.ensures) are.valid are.dates_are c.in_ok-dates.dates c.in_ok-dates.ensures in
    record {
      valid = accepted (joined old c.args.rows.now) customers.1 suppliers.1 parts.1 dates.1;
      short = joined_short old c.args.rows.now are.short c.requires.short;
      keys = keys_fit (joined old c.args.rows.now) c.in_ok-customers.customers c.in_ok-suppliers.suppliers
          c.in_ok-parts.parts c.in_ok-dates.dates customers.0 suppliers.0 parts.0 dates.0;
    }

pub returns-clause-codes : goal.returns-clause-codes
returns-clause-codes c =
    let old : DimRows = c.args.self.now in
    let are : AreDimensions old c.self.inside.customers c.self.inside.suppliers c.self.inside.parts c.self.inside.dates
    c.self.inside.days =
    subst (λ (rows : DimRows). AreDimensions rows c.self.inside.customers c.self.inside.suppliers c.self.inside.parts
    c.self.inside.dates c.self.inside.days) c.self.view_is c.self.invariant in
    let customers =
    extends_ok old c.args.rows.now Customer c.self.inside.customers (map row_of_customer c.as_slice.result.now)
    (ap (map row_of_customer) c.as_slice.ensures) are.valid are.customers_are c.in_ok-customers.customers
    c.in_ok-customers.ensures in
    let suppliers =
    extends_ok old c.args.rows.now Supplier c.self.inside.suppliers (map row_of_supplier c.as_slice-2.result.now)
    (ap (map row_of_supplier) c.as_slice-2.ensures) are.valid are.suppliers_are c.in_ok-suppliers.suppliers
    c.in_ok-suppliers.ensures in
    let parts = extends_ok old c.args.rows.now Part c.self.inside.parts (map row_of_part c.as_slice-3.result.now)
    (ap (map row_of_part) c.as_slice-3.ensures) are.valid are.parts_are c.in_ok-parts.parts c.in_ok-parts.ensures in
    let dates = extends_ok old c.args.rows.now Date c.self.inside.dates (map row_of_date c.as_slice-4.result.now)
    (ap (map row_of_date) c.as_slice-4.ensures) are.valid are.dates_are c.in_ok-dates.dates c.in_ok-dates.ensures in
    subst (KeepCodes old)
    (sym (shown_is (joined old c.args.rows.now) c.in_ok-customers.customers c.in_ok-suppliers.suppliers
    c.in_ok-parts.parts c.in_ok-dates.dates customers.0 suppliers.0 parts.0 dates.0))
    (keep_codes old c.args.rows.now)
