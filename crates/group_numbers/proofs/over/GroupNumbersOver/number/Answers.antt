use Rattle.std.proofs.Common.{◌≡◌, ◌<◌, ◌^◌, ◌∙◌, ℕ, sym, subst, false, true}
use Rattle.std.specs.List.{list_all}
use Rattle.group_numbers.specs.Parts.{holds_in}
use Rattle.group_numbers.specs.Rows.{row_at}
use Rattle.group_numbers.proofs.Outcomes.{within_bounds, out_of_bounds}
use Rattle.group_numbers.proofs.over.GroupNumbersOver.number.Goals as goal

pub returns-then-not-hold-clause-ok : goal.returns-then-not-hold-clause-ok
returns-then-not-hold-clause-ok g c =
    let dims = c.self.inside.dims.now in
    let query = c.self.inside.grouping.now.query in
    let row = row_at (g.F.FactRows.rows c.args.rows.now) c.args.place in
    let inside : list_all (holds_in row) query.conditions ≡ false =
    within_bounds query row c.self.inside.grouping.now.bounds c.self.invariant.within c.quantity-quantity.result
    c.discount-discount.result c.quantity-quantity.ensures c.discount-discount.ensures c.hold.ensures.quantity
    c.hold.ensures.discount ∙ sym c.hold.ensures.value ∙ c.if-not-hold.true in
    rw (← c.self.view_is) (out_of_bounds dims query row inside)

pub number_within-requires-clause-within : goal.number_within-requires-clause-within
number_within-requires-clause-within g c =
    let query = c.self.inside.grouping.now.query in
    let row = row_at (g.F.FactRows.rows c.args.rows.now) c.args.place in
    let inside : list_all (holds_in row) query.conditions ≡ true =
    within_bounds query row c.self.inside.grouping.now.bounds c.self.invariant.within c.quantity-quantity.result
    c.discount-discount.result c.quantity-quantity.ensures c.discount-discount.ensures c.hold.ensures.quantity
    c.hold.ensures.discount ∙ sym c.hold.ensures.value ∙ c.if-not-hold.false in
    rw (← c.self.view_is) inside

pub number_within-requires-clause-fits : goal.number_within-requires-clause-fits
number_within-requires-clause-fits g c =
    rw (← c.self.view_is) (subst (λ (n : ℕ). n < 2 ^ 128) c.self.invariant.counted c.self.invariant.fits)
