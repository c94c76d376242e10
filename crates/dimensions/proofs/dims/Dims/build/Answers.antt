use Rattle.std.proofs.Common.{◌∙◌, ap, arith, length, map, subst, Ok, Err}
use Rattle.std.specs.Fmt.{decimal}
use Rattle.std.proofs.lemmas.List.{length-map}
use Rattle.std.proofs.lemmas.Result.{err_from_is_err_and}
use Rattle.cube_model.specs.declared.attr.Axis.TheVariants.{Customer, Supplier, Part, Date}
use Rattle.dimensions.specs.TextRows.{row_of_customer, row_of_supplier, row_of_part, row_of_date}
use Rattle.dimensions.specs.Dimensions.{BuildsDimension}
use Rattle.dimensions.proofs.MadeLaws.{days_of}
use Rattle.dimensions.proofs.ShownLaws.{refused_customers, refused_suppliers, refused_parts, refused_dates, accepted}
use Rattle.dimensions.proofs.ShownLaws.{few_days, shown_is, are_dimensions}
use Rattle.dimensions.proofs.dims.Dims.build.Goals as goal

pub returns-in_err-customers-clause-err : goal.returns-in_err-customers-clause-err
returns-in_err-customers-clause-err c =
    let p = err_from_is_err_and c.from_residual.result c.from_residual.ensures.1 in
    let customers = subst (λ l. BuildsDimension Customer (map row_of_customer l) (Err c.in_err-customers.field-0.0))
    c.as_slice.ensures c.in_err-customers.ensures in
    rw (p.1, p.2) (refused_customers c.args.rows.now c.in_err-customers.field-0.0 customers)

pub returns-in_err-suppliers-clause-err : goal.returns-in_err-suppliers-clause-err
returns-in_err-suppliers-clause-err c =
    let p = err_from_is_err_and c.from_residual-in_err-suppliers.result c.from_residual-in_err-suppliers.ensures.1 in
    let customers = subst (λ l. BuildsDimension Customer (map row_of_customer l) (Ok c.in_ok-customers.customers))
    c.as_slice.ensures c.in_ok-customers.ensures in
    let suppliers = subst (λ l. BuildsDimension Supplier (map row_of_supplier l) (Err c.in_err-suppliers.field-0.0))
    c.as_slice-2.ensures c.in_err-suppliers.ensures in
    rw (p.1, p.2) (refused_suppliers c.args.rows.now c.in_err-suppliers.field-0.0 customers.1 suppliers)

pub returns-in_err-parts-clause-err : goal.returns-in_err-parts-clause-err
returns-in_err-parts-clause-err c =
    let p = err_from_is_err_and c.from_residual-in_err-parts.result c.from_residual-in_err-parts.ensures.1 in
    let customers = subst (λ l. BuildsDimension Customer (map row_of_customer l) (Ok c.in_ok-customers.customers))
    c.as_slice.ensures c.in_ok-customers.ensures in
    let suppliers = subst (λ l. BuildsDimension Supplier (map row_of_supplier l) (Ok c.in_ok-suppliers.suppliers))
    c.as_slice-2.ensures c.in_ok-suppliers.ensures in
    let parts = subst (λ l. BuildsDimension Part (map row_of_part l) (Err c.in_err-parts.field-0.0))
    c.as_slice-3.ensures c.in_err-parts.ensures in
    rw (p.1, p.2) (refused_parts c.args.rows.now c.in_err-parts.field-0.0 customers.1 suppliers.1 parts)

pub returns-in_err-dates-clause-err : goal.returns-in_err-dates-clause-err
returns-in_err-dates-clause-err c =
    let p = err_from_is_err_and c.from_residual-in_err-dates.result c.from_residual-in_err-dates.ensures.1 in
    let customers = subst (λ l. BuildsDimension Customer (map row_of_customer l) (Ok c.in_ok-customers.customers))
    c.as_slice.ensures c.in_ok-customers.ensures in
    let suppliers = subst (λ l. BuildsDimension Supplier (map row_of_supplier l) (Ok c.in_ok-suppliers.suppliers))
    c.as_slice-2.ensures c.in_ok-suppliers.ensures in
    let parts = subst (λ l. BuildsDimension Part (map row_of_part l) (Ok c.in_ok-parts.parts)) c.as_slice-3.ensures
    c.in_ok-parts.ensures in
    let dates = subst (λ l. BuildsDimension Date (map row_of_date l) (Err c.in_err-dates.field-0.0))
    c.as_slice-4.ensures c.in_err-dates.ensures in
    rw (p.1, p.2) (refused_dates c.args.rows.now c.in_err-dates.field-0.0 customers.1 suppliers.1 parts.1 dates)

pub of_days-requires : goal.of_days-requires
of_days-requires c =
    let dates = subst (λ l. BuildsDimension Date (map row_of_date l) (Ok c.in_ok-dates.dates)) c.as_slice-4.ensures
    c.in_ok-dates.ensures in
    omega (
      arith,
      ap length c.keys.ensures.keys,
      ap length dates.0.stores.keys,
      length-map (map row_of_date c.args.rows.now.dates) (λ row. row.key),
      length-map c.args.rows.now.dates row_of_date,
      few_days c.args.rows.now dates.1,
    )

pub invariant_of-result : goal.invariant_of-result
invariant_of-result c =
    let customers = subst (λ l. BuildsDimension Customer (map row_of_customer l) (Ok c.in_ok-customers.customers))
    c.as_slice.ensures c.in_ok-customers.ensures in
    let suppliers = subst (λ l. BuildsDimension Supplier (map row_of_supplier l) (Ok c.in_ok-suppliers.suppliers))
    c.as_slice-2.ensures c.in_ok-suppliers.ensures in
    let parts = subst (λ l. BuildsDimension Part (map row_of_part l) (Ok c.in_ok-parts.parts)) c.as_slice-3.ensures
    c.in_ok-parts.ensures in
    let dates = subst (λ l. BuildsDimension Date (map row_of_date l) (Ok c.in_ok-dates.dates)) c.as_slice-4.ensures
    c.in_ok-dates.ensures in
    are_dimensions c.args.rows.now c.in_ok-customers.customers c.in_ok-suppliers.suppliers c.in_ok-parts.parts
    c.in_ok-dates.dates customers.0 suppliers.0 parts.0 dates.0
    c.in_ok-days.days (c.in_ok-days.ensures.ok ∙ ap (map decimal) c.keys.ensures.keys
    ∙ days_of c.args.rows.now.dates c.in_ok-dates.dates dates.0.stores)
    (accepted c.args.rows.now customers.1 suppliers.1 parts.1 dates.1) c.requires.short

pub returns-clause-ok : goal.returns-clause-ok
returns-clause-ok c =
    let customers = subst (λ l. BuildsDimension Customer (map row_of_customer l) (Ok c.in_ok-customers.customers))
    c.as_slice.ensures c.in_ok-customers.ensures in
    let suppliers = subst (λ l. BuildsDimension Supplier (map row_of_supplier l) (Ok c.in_ok-suppliers.suppliers))
    c.as_slice-2.ensures c.in_ok-suppliers.ensures in
    let parts = subst (λ l. BuildsDimension Part (map row_of_part l) (Ok c.in_ok-parts.parts)) c.as_slice-3.ensures
    c.in_ok-parts.ensures in
    let dates = subst (λ l. BuildsDimension Date (map row_of_date l) (Ok c.in_ok-dates.dates)) c.as_slice-4.ensures
    c.in_ok-dates.ensures in
    shown_is c.args.rows.now c.in_ok-customers.customers c.in_ok-suppliers.suppliers c.in_ok-parts.parts
    c.in_ok-dates.dates customers.0 suppliers.0 parts.0 dates.0

pub returns-clause-valid : goal.returns-clause-valid
returns-clause-valid c =
    let customers = subst (λ l. BuildsDimension Customer (map row_of_customer l) (Ok c.in_ok-customers.customers))
    c.as_slice.ensures c.in_ok-customers.ensures in
    let suppliers = subst (λ l. BuildsDimension Supplier (map row_of_supplier l) (Ok c.in_ok-suppliers.suppliers))
    c.as_slice-2.ensures c.in_ok-suppliers.ensures in
    let parts = subst (λ l. BuildsDimension Part (map row_of_part l) (Ok c.in_ok-parts.parts)) c.as_slice-3.ensures
    c.in_ok-parts.ensures in
    let dates = subst (λ l. BuildsDimension Date (map row_of_date l) (Ok c.in_ok-dates.dates)) c.as_slice-4.ensures
    c.in_ok-dates.ensures in
    accepted c.args.rows.now customers.1 suppliers.1 parts.1 dates.1
