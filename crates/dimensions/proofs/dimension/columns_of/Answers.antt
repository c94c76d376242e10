use Rattle.std.proofs.Common.{◌≡◌, ◌+◌, ◌∙◌, ◌++◌, ◌∷◌, [], ap, arith, length, rules}
use Rattle.std.proofs.lemmas.Grind.{common_steps}
use Rattle.std.proofs.lemmas.Iterator.Adapters.{YieldsList-from_vec}
use Rattle.std.proofs.lemmas.Iterator.Consumers.{YieldsList-turn}
use Rattle.dimensions.specs.Shapes.{lower_of}
use Rattle.dimensions.specs.Columns.{column_of_coded}
use Rattle.dimensions.proofs.MadeLaws.{columns_from-length, columns_from-push, few_coded}
use Rattle.dimensions.proofs.dimension.columns_of.Goals as goal

pub of_coded-requires : goal.of_coded-requires
of_coded-requires c =
    let gives = c.into_iter-column-iterator.ensures.into_iter_gives in
    let turn = YieldsList-turn
    (YieldsList-from_vec {s = c.into_iter-column-iterator.result} c.args.coded.items gives.0
    (first_of (omega (arith, gives.1), cc, search rules, grind (arith, common_steps)))) c.loop-column.yielded
    c.loop-column.column-iterator c.loop-column.yielded_by c.next.result c.next.new.self c.in-Some.column c.in-Some.is
    c.next.ensures.steps in
    few_coded c.args.coded.items (length c.loop-column.yielded) c.in-Some.column c.requires turn.0 turn.1

pub loop-column-preserved : goal.loop-column-preserved
loop-column-preserved c =
    let many : length c.loop-column.columns.items ≡ length c.loop-column.yielded = ap length c.loop-column.invariant
    ∙ columns_from-length c.args.axis 0 c.loop-column.yielded in
    let count : c.len-in-loop-column.result ≡ 0 + length c.loop-column.yielded =
    omega (arith, many, c.len-in-loop-column.ensures, c.loop-column.columns.ok.0) in
    c.in_ok-push.ensures.items ∙ ap (λ l. l ++ c.in_ok-of_coded.field-0 ∷ []) c.loop-column.invariant
    ∙ columns_from-push c.args.axis 0 c.loop-column.yielded c.in-Some.column c.in_ok-of_coded.field-0
    (c.in_ok-of_coded.ensures.ok ∙ ap (λ l. column_of_coded l c.in-Some.column)
    (c.lower_column-lower.ensures ∙ ap (lower_of c.args.axis) count))
