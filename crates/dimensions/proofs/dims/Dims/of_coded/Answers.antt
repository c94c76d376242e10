use Rattle.std.proofs.Common.{◌∙◌, ap, map}
use Rattle.std.specs.Fmt.{decimal}
use Rattle.std.proofs.lemmas.Result.{err_from_is_err_and}
use Rattle.dimensions.specs.Shown.{shown_rows}
use Rattle.dimensions.proofs.MadeLaws.{coded_all, dimensions_shown, few_coded_days, keep_shown, keys_shown, short_shown}
use Rattle.dimensions.proofs.MadeLaws.{refused_places, refused_parts_or_dates}
use Rattle.cube_model.proofs.LawsLemmas.{valid_rows_keep_the_rules}
use Rattle.dimensions.proofs.dims.Dims.of_coded.Goals as goal

pub returns-in_err-customers-clause-err : goal.returns-in_err-customers-clause-err
returns-in_err-customers-clause-err c =
    let p = err_from_is_err_and c.from_residual.result c.from_residual.ensures.1 in
    rw (p.1, p.2)
    (refused_places c.args.coded c.in_err-customers.field-0.0
    c.in_err-customers.ensures.refused)

pub returns-in_err-parts-clause-err : goal.returns-in_err-parts-clause-err
returns-in_err-parts-clause-err c =
    let p = err_from_is_err_and c.from_residual-in_err-parts.result c.from_residual-in_err-parts.ensures.1 in
    rw (p.1, p.2)
    (refused_parts_or_dates c.args.coded c.in_err-parts.field-0.0
    c.in_err-parts.ensures.refused)

pub of_days-requires : goal.of_days-requires
of_days-requires c = few_coded_days c.args.coded.dates c.in_ok-parts.dates c.in_ok-parts.ensures.ok.1 c.keys.result.now
    c.keys.ensures.keys

pub invariant_of-result : goal.invariant_of-result
invariant_of-result c =
    let customers = c.in_ok-customers.customers in
    let suppliers = c.in_ok-customers.suppliers in
    let parts = c.in_ok-parts.parts in
    let dates = c.in_ok-parts.dates in
    let places = c.in_ok-customers.ensures.ok in
    let others = c.in_ok-parts.ensures.ok in
    dimensions_shown customers suppliers parts dates c.args.coded places.0 places.1 others.0 others.1
    c.in_ok-days.days (c.in_ok-days.ensures.ok ∙ ap (map decimal) c.keys.ensures.keys)
    ((valid_rows_keep_the_rules (shown_rows customers suppliers parts dates)).1
    (keep_shown customers suppliers parts dates c.args.coded places.0 places.1 others.0 others.1))

pub returns-clause-ok : goal.returns-clause-ok
returns-clause-ok c =
    let places = c.in_ok-customers.ensures.ok in
    let others = c.in_ok-parts.ensures.ok in
    coded_all c.in_ok-customers.customers c.in_ok-customers.suppliers c.in_ok-parts.parts c.in_ok-parts.dates
    c.args.coded places.0 places.1 others.0 others.1

pub returns-clause-storable : goal.returns-clause-storable
returns-clause-storable c =
    let customers = c.in_ok-customers.customers in
    let suppliers = c.in_ok-customers.suppliers in
    let parts = c.in_ok-parts.parts in
    let dates = c.in_ok-parts.dates in
    let places = c.in_ok-customers.ensures.ok in
    let others = c.in_ok-parts.ensures.ok in
    record {
      valid = (valid_rows_keep_the_rules (shown_rows customers suppliers parts dates)).1
          (keep_shown customers suppliers parts dates c.args.coded places.0 places.1 others.0 others.1);
      short = short_shown customers suppliers parts dates c.args.coded places.0 places.1 others.0 others.1;
      keys = keys_shown customers suppliers parts dates c.args.coded places.0 places.1 others.0 others.1;
    }
