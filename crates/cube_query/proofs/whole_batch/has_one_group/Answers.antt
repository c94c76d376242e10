use Rattle.std.proofs.Common.{◌≡◌, ◌∙◌, ◌==◌, ◌&&◌, Bool, true, length, sym, ap, arith}
use Rattle.std.specs.List.{list_all}
use Rattle.std.proofs.lemmas.Bool.Decides.{nat_tests}
use Rattle.cube_query.specs.WholeBatch.{is_on_row}
use Rattle.cube_query.proofs.whole_batch.has_one_group.Goals as goal

pub returns-then-is_empty : goal.returns-then-is_empty
returns-then-is_empty c =
    let query = c.args.query.now in
    let none : (length query.columns == 0) ≡ true = grind (arith, nat_tests, c.if-is_empty.ensures) in
    c.are_on_rows.ensures ∙ ap (list_all is_on_row) c.as_slice.ensures
    ∙ sym (ap (λ (b : Bool). b && list_all is_on_row query.conditions) none)
