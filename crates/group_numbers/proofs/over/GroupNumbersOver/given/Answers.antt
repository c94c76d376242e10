use Rattle.std.proofs.Common.{◌≡◌, ◌∙◌, sym, ap, arith, false}
use Rattle.std.proofs.lemmas.Result.{on_err_weaker}
use Rattle.cube_model.specs.Attributes.{key_on}
use Rattle.cube_model.specs.Places.{row_index_of}
use Rattle.group_numbers.specs.Kinds.{kind_at}
use Rattle.group_numbers.specs.Parts.{given_at, is_used}
use Rattle.group_numbers.specs.GroupNumbers.{gives}
use Rattle.group_numbers.specs.Rows.{row_at}
use Rattle.group_numbers.proofs.Outcomes.{given_is, given_unused}
use Rattle.group_numbers.proofs.Numbers.{not_true, not_used, used_else}
use Rattle.group_numbers.proofs.over.GroupNumbersOver.given.Goals as goal

pub returns-then-is_unused-clause-ok : goal.returns-then-is_unused-clause-ok
returns-then-is_unused-clause-ok g c =
    let dims = c.self.inside.dims.now in
    let query = c.self.inside.grouping.now.query in
    let axis = c.args.axis in
    let row = row_at (g.F.FactRows.rows c.args.rows.now) c.args.place in
    let unused = c.is_unused.ensures.0 c.if-is_unused.true in
    let off : is_used query axis ≡ false = c.self.invariant.sides.unused axis (sym c.side-side.ensures ∙ unused) in
    rw (← c.self.view_is) (sym (given_unused dims axis (row_index_of dims axis (key_on axis row)) query off))

pub returns-then-is_unused-clause-known : goal.returns-then-is_unused-clause-known
returns-then-is_unused-clause-known g c =
    let query = c.self.inside.grouping.now.query in
    let unused = c.is_unused.ensures.0 c.if-is_unused.true in
    let off : is_used query c.args.axis ≡ false =
    c.self.invariant.sides.unused c.args.axis (sym c.side-side.ensures ∙ unused) in
    rw (← c.self.view_is) (not_used query c.args.axis off)

pub returns-clause-ok : goal.returns-clause-ok
returns-clause-ok g c =
    let dims = c.self.inside.dims.now in
    let axis = c.args.axis in
    let row = row_at (g.F.FactRows.rows c.args.rows.now) c.args.place in
    let key = ap (row_index_of dims axis) c.key-key.ensures in
    rw (← c.self.view_is)
    (given_is c.given.result _ _ _ c.given.ensures.ok c.given.ensures.known (λ known.
    ap (λ side. gives side (kind_at dims axis (row_index_of dims axis c.key-key.result))) c.side-side.ensures
    ∙ c.self.invariant.sides.each axis _ known
    ∙ ap (given_at dims c.self.inside.grouping.now.query axis) key))

pub returns-clause-unknown : goal.returns-clause-unknown
returns-clause-unknown g c =
    let dims = c.self.inside.dims.now in
    let query = c.self.inside.grouping.now.query in
    let axis = c.args.axis in
    let key = ap (row_index_of dims axis) c.key-key.ensures in
    let used = used_else query axis
    (λ off. not_true _ (c.is_unused.ensures.1 (c.side-side.ensures ∙ c.self.invariant.sides.used axis off))
    c.if-is_unused.false) in
    rw (← c.self.view_is)
    (on_err_weaker c.given.result (λ past known. let low = known used in absurd (omega (arith, past, low, key)))
    c.given.ensures.unknown)
