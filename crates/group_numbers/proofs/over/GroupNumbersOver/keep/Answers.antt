use Rattle.std.proofs.Common.{sym, subst, arith, length}
use Rattle.group_numbers.specs.Filters.{IsFilter}
use Rattle.group_numbers.proofs.Filtering.{keep_all, keep_some}
use Rattle.group_numbers.proofs.over.GroupNumbersOver.keep.Goals as goal

pub returns-then-is_open-clause-kept : goal.returns-then-is_open-clause-kept
returns-then-is_open-clause-kept g c =
    rw (← c.self.view_is)
    (keep_all c.self.inside.dims.now c.self.inside.grouping.now.query (g.F.FactRows.rows c.args.rows.now)
    c.args.places.now (length c.args.places.now) (omega arith))

pub returns-clause-kept : goal.returns-clause-kept
returns-clause-kept g c =
    let dims = c.self.inside.dims.now in
    let query = c.self.inside.grouping.now.query in
    let axis = c.args.axis in
    let is = subst (λ made. IsFilter dims query axis made) (sym c.on-filter.ensures) (c.self.invariant.filters axis) in
    rw (← c.self.view_is)
    (keep_some dims query axis c.on-filter.result.now (g.F.FactRows.rows c.args.rows.now) c.args.places.now _ is
    c.keep.ensures.kept)
