use Rattle.std.proofs.Common.{◌≡◌, ◌∙◌, true, map, sym, ap, subst}
use Rattle.std.specs.List.{list_all}
use Rattle.cube_model.specs.Selection.{is_selected}
use Rattle.group_numbers.specs.GroupNumbers.{query_of}
use Rattle.cube_query.specs.Groups.{FoldState}
use Rattle.cube_query.specs.WholeBatch.{has_one_group, is_on_row}
use Rattle.cube_query.proofs.WholeBatches.{conditions_on_rows}
use Rattle.cube_query.proofs.running.Fold.add_whole.Goals as goal

pub selected_rows-requires : goal.selected_rows-requires
selected_rows-requires c =
    let one = subst (λ (state : FoldState). has_one_group state.query ≡ true) (sym c.self.view_is)
    c.requires.one_group in
    ap (λ asked. list_all is_on_row asked.query.conditions) c.over.ensures
    ∙ conditions_on_rows (query_of c.self.inside.grouping) one

pub add_masked-requires-clause-mask : goal.add_masked-requires-clause-mask
add_masked-requires-clause-mask c =
    let rows = c.args.batch.now in
    c.in_ok-mask.ensures.ok
    ∙ ap (λ asked. map (is_selected asked.dimensions asked.query.conditions) rows) c.over.ensures
    ∙ ap (λ (state : FoldState). map (is_selected c.args.dims.now state.query.conditions) rows) c.self.view_is
