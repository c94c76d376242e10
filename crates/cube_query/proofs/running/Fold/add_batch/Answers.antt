use Rattle.std.proofs.Common.{◌≡◌, ◌∙◌, List, sym, ap, subst}
use Rattle.cube_model.specs.declared.rows.LineOrder.{LineOrder}
use Rattle.column_kernels.specs.Masks.{selected_by}
use Rattle.group_numbers.specs.GroupNumbers.{query_of}
use Rattle.cube_query.specs.Asked.{AreSame, is_asked}
use Rattle.cube_query.specs.Groups.{FoldState}
use Rattle.cube_query.specs.WholeBatch.{has_one_group}
use Rattle.cube_query.proofs.RunningLemmas.{masked_same}
use Rattle.cube_query.proofs.Choosing.{can_take_marked, keep_over, takes_all}
use Rattle.cube_query.proofs.running.Fold.add_batch.Goals as goal

pub add_whole-requires-clause-one_group : goal.add_whole-requires-clause-one_group
add_whole-requires-clause-one_group c =
    ap (λ (state : FoldState). has_one_group state.query) (sym c.self.view_is) ∙ ap has_one_group (sym c.query.ensures)
    ∙ sym c.has_one_group.ensures ∙ c.if-has_one_group.true

pub returns-clause-ok : goal.returns-clause-ok
returns-clause-ok c =
    let own : (query_of c.self.inside.grouping).conditions ≡ c.args.self.now.query.conditions =
    ap (λ f. f.query.conditions) c.self.view_is in
    let keep = keep_over c.over.result c.args.dims.now (query_of c.self.inside.grouping) c.args.self.now.query _ _
    c.over.ensures own c.in_ok-rows.ensures.ok in
    takes_all c.add-2.result c.args.dims.now c.args.self.now _ c.args.batch c.add-2.new.self keep c.add-2.ensures.ok

pub returns-clause-refused : goal.returns-clause-refused
returns-clause-refused c = λ err others same can.
    let own : (query_of c.self.inside.grouping).conditions ≡ c.args.self.now.query.conditions =
    ap (λ f. f.query.conditions) c.self.view_is in
    let keep = keep_over c.over.result c.args.dims.now (query_of c.self.inside.grouping) c.args.self.now.query _ _
    c.over.ensures own c.in_ok-rows.ensures.ok in
    let asks = is_asked c.args.self.now.query in
    let marks = keep.part.0 in
    c.add-2.ensures.refused err (selected_by marks others)
    (subst (λ (rows : List LineOrder). AreSame asks rows (selected_by marks others)) (sym keep.part.1)
    (masked_same asks marks c.args.batch others same))
    (can_take_marked c.args.dims.now c.args.self.now marks others can)
