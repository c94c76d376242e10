use Rattle.std.proofs.Common.{◌∙◌, subst, arith, ◌<◌, ◌^◌}
use Rattle.group_numbers.specs.Numbers.{Asked, group_count}
use Rattle.group_numbers.proofs.Outcomes.{no_customer, no_supplier, no_part, no_date, number_by_parts}
use Rattle.group_numbers.proofs.over.GroupNumbersOver.number_by.Goals as goal

pub returns-in_default : goal.returns-in_default
returns-in_default c = λ row known holds first second third fourth.
    no_customer c.args.self.now.dimensions c.args.self.now.query row holds (first ∙ c.in_default.is)

pub returns-in_default-supplier : goal.returns-in_default-supplier
returns-in_default-supplier c = λ row known holds first second third fourth.
    no_supplier c.args.self.now.dimensions c.args.self.now.query row c.in-Some.customer holds (first ∙ c.in-Some.is)
    (second ∙ c.in_default-supplier.is)

pub returns-in_default-part : goal.returns-in_default-part
returns-in_default-part c = λ row known holds first second third fourth.
    no_part c.args.self.now.dimensions c.args.self.now.query row c.in-Some.customer c.in-Some-supplier.supplier holds
    (first ∙ c.in-Some.is) (second ∙ c.in-Some-supplier.is) (third ∙ c.in_default-part.is)

pub returns-in_default-date : goal.returns-in_default-date
returns-in_default-date c = λ row known holds first second third fourth.
    no_date c.args.self.now.dimensions c.args.self.now.query row c.in-Some.customer c.in-Some-supplier.supplier
    c.in-Some-part.part holds (first ∙ c.in-Some.is) (second ∙ c.in-Some-supplier.is) (third ∙ c.in-Some-part.is)
    (fourth ∙ c.in_default-date.is)

pub returns : goal.returns
returns c = λ row known holds first second third fourth.
    let fits : group_count c.args.self.now.dimensions c.args.self.now.query.columns < 2 ^ 128 =
    subst (λ (asked : Asked). group_count asked.dimensions asked.query.columns < 2 ^ 128) c.self.view_is
    (omega (arith, c.self.invariant.counted, c.self.invariant.fits)) in
    number_by_parts c.args.self.now.dimensions c.args.self.now.query row known fits holds c.in-Some.customer
    c.in-Some-supplier.supplier c.in-Some-part.part c.in-Some-date.date
    (first ∙ c.in-Some.is) (second ∙ c.in-Some-supplier.is) (third ∙ c.in-Some-part.is) (fourth ∙ c.in-Some-date.is) _
    (λ low. omega arith)
