use Rattle.std.proofs.Common.{◌≡◌, ◌<◌, ◌++◌, ◌∷◌, [], List, cond, get_or, length, take, sym, ap, ◌∙◌, arith}
use Rattle.std.specs.List.{filter}
use Rattle.std.proofs.lemmas.List.Elements.{filter_more}
use Rattle.column_segment.specs.declared.columns.FactColumn.{FactColumn}
use Rattle.column_segment.specs.declared.columns.FactColumn.TheVariants.{OrderKey}
use Rattle.cube_query.specs.Asked.{fact_columns, is_asked}
use Rattle.cube_query.proofs.asked.asked_columns.Goals as goal

pub loop-column-preserved : goal.loop-column-preserved
loop-column-preserved c =
    let at = c.loop-column.column-index in
    let asks = is_asked c.args.query.now in
    let column : FactColumn = get_or fact_columns at OrderKey in
    let lt : at < length fact_columns = omega (arith, c.loop-column-test.true) in
    c.in_ok-push_if_asked.ensures
    ∙ ap (λ (l : List FactColumn). l ++ cond (asks column) (column ∷ []) []) c.loop-column.invariant
    ∙ sym (filter_more asks fact_columns at OrderKey lt)

pub returns : goal.returns
returns c =
    let ends : c.loop-column.column-index ≡ 13 =
    omega (arith, c.loop-column-test.false, c.loop-column.auto.column-index-end) in
    c.loop-column.invariant ∙ ap (λ n. filter (is_asked c.args.query.now) (take n fact_columns)) ends
