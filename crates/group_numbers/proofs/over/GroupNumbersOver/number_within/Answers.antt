use Rattle.std.proofs.Common.{◌≡◌, ◌∙◌, sym, ap, subst, arith, ◌<◌, true}
use Rattle.std.specs.List.{list_all}
use Rattle.cube_model.specs.declared.attr.Axis.TheVariants.{Customer, Supplier, Part, Date}
use Rattle.group_numbers.specs.Numbers.{group_count, group_key_at}
use Rattle.group_numbers.specs.Parts.{IsKnownFor, holds_in}
use Rattle.group_numbers.specs.Rows.{row_at}
use Rattle.group_numbers.proofs.Numbers.{known_in_columns, number_is}
use Rattle.group_numbers.proofs.Outcomes.{no_customer, no_supplier, no_part, no_date, numbered}
use Rattle.group_numbers.proofs.over.GroupNumbersOver.number_within.Goals as goal

pub returns-in-Ok-None-clause-ok : goal.returns-in-Ok-None-clause-ok
returns-in-Ok-None-clause-ok g c =
    let dims = c.args.self.now.dimensions in
    let query = c.args.self.now.query in
    let row = row_at (g.F.FactRows.rows c.args.rows.now) c.args.place in
    let inside : list_all (holds_in row) query.conditions ≡ true = c.requires.within in
    (no_customer dims query row inside (sym c.in-Ok-None.ensures.ok ∙ c.in-Ok-None.field-0-is))

pub returns-in-Ok-None-given-clause-ok : goal.returns-in-Ok-None-given-clause-ok
returns-in-Ok-None-given-clause-ok g c =
    let dims = c.args.self.now.dimensions in
    let query = c.args.self.now.query in
    let row = row_at (g.F.FactRows.rows c.args.rows.now) c.args.place in
    let inside : list_all (holds_in row) query.conditions ≡ true = c.requires.within in
    let customer = sym c.in-Ok-Some.ensures.ok ∙ c.in-Ok-Some.field-0-is in
    (no_supplier dims query row c.in-Ok-Some.customer inside customer
    (sym c.in-Ok-None-given.ensures.ok ∙ c.in-Ok-None-given.field-0-is))

pub returns-in-Ok-None-given-2-clause-ok : goal.returns-in-Ok-None-given-2-clause-ok
returns-in-Ok-None-given-2-clause-ok g c =
    let dims = c.args.self.now.dimensions in
    let query = c.args.self.now.query in
    let row = row_at (g.F.FactRows.rows c.args.rows.now) c.args.place in
    let inside : list_all (holds_in row) query.conditions ≡ true = c.requires.within in
    let customer = sym c.in-Ok-Some.ensures.ok ∙ c.in-Ok-Some.field-0-is in
    let supplier = sym c.in-Ok-Some-given.ensures.ok ∙ c.in-Ok-Some-given.field-0-is in
    (no_part dims query row c.in-Ok-Some.customer c.in-Ok-Some-given.supplier inside customer supplier
    (sym c.in-Ok-None-given-2.ensures.ok ∙ c.in-Ok-None-given-2.field-0-is))

pub returns-in-Ok-None-given-3-clause-ok : goal.returns-in-Ok-None-given-3-clause-ok
returns-in-Ok-None-given-3-clause-ok g c =
    let dims = c.args.self.now.dimensions in
    let query = c.args.self.now.query in
    let row = row_at (g.F.FactRows.rows c.args.rows.now) c.args.place in
    let inside : list_all (holds_in row) query.conditions ≡ true = c.requires.within in
    let customer = sym c.in-Ok-Some.ensures.ok ∙ c.in-Ok-Some.field-0-is in
    let supplier = sym c.in-Ok-Some-given.ensures.ok ∙ c.in-Ok-Some-given.field-0-is in
    let part = sym c.in-Ok-Some-given-2.ensures.ok ∙ c.in-Ok-Some-given-2.field-0-is in
    (no_date dims query row c.in-Ok-Some.customer c.in-Ok-Some-given.supplier c.in-Ok-Some-given-2.part inside customer
    supplier part (sym c.in-Ok-None-given-3.ensures.ok ∙ c.in-Ok-None-given-3.field-0-is))

pub returns-in-Err-given-clause-unknown : goal.returns-in-Err-given-clause-unknown
returns-in-Err-given-clause-unknown g c = λ known. c.in-Err-given.ensures.unknown (known Supplier)

pub returns-in-Err-given-2-clause-unknown : goal.returns-in-Err-given-2-clause-unknown
returns-in-Err-given-2-clause-unknown g c = λ known. c.in-Err-given-2.ensures.unknown (known Part)

pub returns-in-Err-given-3-clause-unknown : goal.returns-in-Err-given-3-clause-unknown
returns-in-Err-given-3-clause-unknown g c = λ known. c.in-Err-given-3.ensures.unknown (known Date)

pub sum_of-requires : goal.sum_of-requires
sum_of-requires g c =
    let dims = c.args.self.now.dimensions in
    let query = c.args.self.now.query in
    let row = row_at (g.F.FactRows.rows c.args.rows.now) c.args.place in
    let inside : list_all (holds_in row) query.conditions ≡ true = c.requires.within in
    let customer = sym c.in-Ok-Some.ensures.ok ∙ c.in-Ok-Some.field-0-is in
    let supplier = sym c.in-Ok-Some-given.ensures.ok ∙ c.in-Ok-Some-given.field-0-is in
    let part = sym c.in-Ok-Some-given-2.ensures.ok ∙ c.in-Ok-Some-given-2.field-0-is in
    let date = sym c.in-Ok-Some-given-3.ensures.ok ∙ c.in-Ok-Some-given-3.field-0-is in
    let known : IsKnownFor dims query row = elim [
      | Customer ↦ c.in-Ok-Some.ensures.known
      | Supplier ↦ c.in-Ok-Some-given.ensures.known
      | Part ↦ c.in-Ok-Some-given-2.ensures.known
      | Date ↦ c.in-Ok-Some-given-3.ensures.known
    ] in
    let found = numbered dims query row c.in-Ok-Some.customer c.in-Ok-Some-given.supplier c.in-Ok-Some-given-2.part
    c.in-Ok-Some-given-3.date inside customer supplier part date in
    let is = number_is dims row query.columns (known_in_columns dims query row known) in
    omega (arith, found.1, is.0, c.requires.fits)

pub returns-clause-ok : goal.returns-clause-ok
returns-clause-ok g c =
    let dims = c.args.self.now.dimensions in
    let query = c.args.self.now.query in
    let row = row_at (g.F.FactRows.rows c.args.rows.now) c.args.place in
    let inside : list_all (holds_in row) query.conditions ≡ true = c.requires.within in
    let customer = sym c.in-Ok-Some.ensures.ok ∙ c.in-Ok-Some.field-0-is in
    let supplier = sym c.in-Ok-Some-given.ensures.ok ∙ c.in-Ok-Some-given.field-0-is in
    let part = sym c.in-Ok-Some-given-2.ensures.ok ∙ c.in-Ok-Some-given-2.field-0-is in
    let date = sym c.in-Ok-Some-given-3.ensures.ok ∙ c.in-Ok-Some-given-3.field-0-is in
    let known : IsKnownFor dims query row = elim [
      | Customer ↦ c.in-Ok-Some.ensures.known
      | Supplier ↦ c.in-Ok-Some-given.ensures.known
      | Part ↦ c.in-Ok-Some-given-2.ensures.known
      | Date ↦ c.in-Ok-Some-given-3.ensures.known
    ] in
    let found = numbered dims query row c.in-Ok-Some.customer c.in-Ok-Some-given.supplier c.in-Ok-Some-given-2.part
    c.in-Ok-Some-given-3.date inside customer supplier part date in
    let is = number_is dims row query.columns (known_in_columns dims query row known) in
    let sum = c.sum_of.ensures ∙ found.1 in (
      found.0,
      subst (λ n. n < group_count dims query.columns) (sym sum) is.0,
      ap (group_key_at dims query.columns) sum
          ∙ is.1,
    )
