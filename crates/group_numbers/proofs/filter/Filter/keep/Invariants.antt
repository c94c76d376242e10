use Rattle.std.proofs.lemmas.List.Filters.{FiltersInPlace}
use Rattle.cube_model.specs.Attributes.{key_on}
use Rattle.group_numbers.specs.Filters.{passes}
use Rattle.group_numbers.specs.Rows.{row_at}
use Rattle.group_numbers.proofs.filter.Filter.keep.Given as goal

abbrev pub invariant-loop-i : goal.invariant-loop-i
invariant-loop-i g l = FiltersInPlace (λ place. passes l.self (key_on l.axis (row_at (g.F.FactRows.rows l.rows) place)))
    l.initial.places l.places l.kept l.i
