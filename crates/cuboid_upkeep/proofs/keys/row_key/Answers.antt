use Rattle.group_numbers.specs.Rows.{row_at}
use Rattle.cube_model.specs.declared.attr.Axis.TheVariants.{Customer, Supplier, Part, Date}
use Rattle.cuboid_upkeep.proofs.Rows.{is_row_key}
use Rattle.cuboid_upkeep.proofs.OwnModes.{fifth_code}
use Rattle.cuboid_upkeep.proofs.Members.{when_none}
use Rattle.cuboid_upkeep.proofs.keys.row_key.Goals as goal

pub returns-clause-some : goal.returns-clause-some
returns-clause-some g c modes own =
    let rows = g.F.FactRows.rows c.args.rows.now in
    record {
      is = is_row_key c.args.dims.now modes c.args.view (row_at rows c.args.place) _
          (record {
            is = c.in_ok-customer.ensures.some;
            at = c.in_ok-customer.ensures.apart;
            known = c.in_ok-customer.ensures.known;
          })
          (record {
            is = c.in_ok-supplier.ensures.some;
            at = c.in_ok-supplier.ensures.apart;
            known = c.in_ok-supplier.ensures.known;
          })
          (record {
            is = c.in_ok-part.ensures.some;
            at = c.in_ok-part.ensures.apart;
            known = c.in_ok-part.ensures.known;
          })
          (record {
            is = c.in_ok-date.ensures.some;
            at = c.in_ok-date.ensures.apart;
            known = c.in_ok-date.ensures.known;
          })
          own.is (fifth_code modes c.args.view (row_at rows c.args.place) c.args.mode own) own.among
          (record {
            customer = c.in_ok-customer.ensures.fits;
            supplier = c.in_ok-supplier.ensures.fits;
            part = c.in_ok-part.ensures.fits;
            date = c.in_ok-date.ensures.fits;
            ship_mode = c.ranges.mode.fits;
          });
      lies = record {
        customer = c.in_ok-customer.ensures.low;
        supplier = c.in_ok-supplier.ensures.low;
        part = c.in_ok-part.ensures.low;
        date = c.in_ok-date.ensures.low;
      };
    }

pub returns-in_err-customer-clause-none : goal.returns-in_err-customer-clause-none
returns-in_err-customer-clause-none g c =
    when_none c.from_residual.result _
    (λ modes members. c.in_err-customer.ensures.none.1 (members.axes Customer c.in_err-customer.ensures.none.0))

pub returns-in_err-supplier-clause-none : goal.returns-in_err-supplier-clause-none
returns-in_err-supplier-clause-none g c =
    when_none c.from_residual-in_err-supplier.result _
    (λ modes members. c.in_err-supplier.ensures.none.1 (members.axes Supplier c.in_err-supplier.ensures.none.0))

pub returns-in_err-part-clause-none : goal.returns-in_err-part-clause-none
returns-in_err-part-clause-none g c =
    when_none c.from_residual-in_err-part.result _
    (λ modes members. c.in_err-part.ensures.none.1 (members.axes Part c.in_err-part.ensures.none.0))

pub returns-in_err-date-clause-none : goal.returns-in_err-date-clause-none
returns-in_err-date-clause-none g c =
    when_none c.from_residual-in_err-date.result _
    (λ modes members. c.in_err-date.ensures.none.1 (members.axes Date c.in_err-date.ensures.none.0))
