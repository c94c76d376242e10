use Rattle.std.proofs.lemmas.Result.{err_from_is_err_and}
use Rattle.dimension_objects.proofs.DecodingLemmas.{all_objects, none_customers, none_dates, none_parts, none_suppliers}
use Rattle.dimension_objects.proofs.DecodingLemmas.{no_objects}
use Rattle.dimension_objects.proofs.Refused.{err_so, ok_so, refused_so}
use Rattle.cube_model.proofs.LawsLemmas.{valid_rows_keep_the_rules}
use Rattle.dimension_objects.proofs.decoding.decode.Goals as goal

pub returns-in_err-customers-clause-refused : goal.returns-in_err-customers-clause-refused
returns-in_err-customers-clause-refused c =
    let p = err_from_is_err_and c.from_residual.result c.from_residual.ensures.1 in
    rw (p.1, p.2)
    (refused_so c.in_err-customers.field-0.0
    (none_customers c.args.customers.now c.args.suppliers.now c.args.parts.now
    c.args.dates.now) c.in_err-customers.ensures.refused)

pub returns-in_err-suppliers-clause-refused : goal.returns-in_err-suppliers-clause-refused
returns-in_err-suppliers-clause-refused c =
    let p = err_from_is_err_and c.from_residual-in_err-suppliers.result c.from_residual-in_err-suppliers.ensures.1 in
    rw (p.1, p.2)
    (refused_so c.in_err-suppliers.field-0.0
    (none_suppliers c.args.customers.now c.args.suppliers.now c.args.parts.now
    c.args.dates.now) c.in_err-suppliers.ensures.refused)

pub returns-in_err-parts-clause-refused : goal.returns-in_err-parts-clause-refused
returns-in_err-parts-clause-refused c =
    let p = err_from_is_err_and c.from_residual-in_err-parts.result c.from_residual-in_err-parts.ensures.1 in
    rw (p.1, p.2)
    (refused_so c.in_err-parts.field-0.0
    (none_parts c.args.customers.now c.args.suppliers.now c.args.parts.now
    c.args.dates.now) c.in_err-parts.ensures.refused)

pub returns-in_err-dates-clause-refused : goal.returns-in_err-dates-clause-refused
returns-in_err-dates-clause-refused c =
    let p = err_from_is_err_and c.from_residual-in_err-dates.result c.from_residual-in_err-dates.ensures.1 in
    rw (p.1, p.2)
    (refused_so c.in_err-dates.field-0.0
    (none_dates c.args.customers.now c.args.suppliers.now c.args.parts.now
    c.args.dates.now) c.in_err-dates.ensures.refused)

pub returns-clause-ok : goal.returns-clause-ok
returns-clause-ok c =
    ok_so _ _ _ c.of_coded.result
    (λ rows are storable.
    all_objects c.args.customers.now c.args.suppliers.now c.args.parts.now c.args.dates.now
    (record {
      customers = c.in_ok-customers.customers;
      suppliers = c.in_ok-suppliers.suppliers;
      parts = c.in_ok-parts.parts;
      dates = c.in_ok-dates.dates;
    })
    c.in_ok-customers.ensures.ok c.in_ok-suppliers.ensures.ok c.in_ok-parts.ensures.ok c.in_ok-dates.ensures.ok rows are
    storable)
    c.of_coded.ensures.ok c.of_coded.ensures.storable

pub returns-clause-refused : goal.returns-clause-refused
returns-clause-refused c =
    err_so _ _ c.of_coded.result (λ fault. refused_so fault
    (no_objects c.args.customers.now c.args.suppliers.now c.args.parts.now
    c.args.dates.now
    (record {
      customers = c.in_ok-customers.customers;
      suppliers = c.in_ok-suppliers.suppliers;
      parts = c.in_ok-parts.parts;
      dates = c.in_ok-dates.dates;
    })
    c.in_ok-customers.ensures.ok c.in_ok-suppliers.ensures.ok c.in_ok-parts.ensures.ok c.in_ok-dates.ensures.ok))
    c.of_coded.ensures.err
