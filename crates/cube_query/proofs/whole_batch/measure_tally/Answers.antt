use Rattle.std.proofs.Common.{◌≡◌, ◌∙◌, List, ℤ, Some, map, of_z, rules, sym, to_z}
use Rattle.std.proofs.lemmas.List.{length-map}
use Rattle.std.specs.Int.{w128}
use Rattle.cube_model.specs.Measures.{measure_of}
use Rattle.cube_model.specs.declared.rows.LineOrder.{LineOrder}
use Rattle.column_kernels.specs.Masks.{selected_by}
use Rattle.column_kernels.proofs.CallerLemmas.{count_selected}
use Rattle.group_tallies.specs.Tallies.{tally_of}
use Rattle.cube_query.proofs.WholeBatchLemmas.{err_from, greatest_fits, least_fits, ok_same, sum_fits, tally_none}
use Rattle.cube_query.proofs.WholeBatchLemmas.{tally_some}
use Rattle.cube_query.proofs.whole_batch.measure_tally.Goals as goal

pub returns-in-None-clause-ok : goal.returns-in-None-clause-ok
returns-in-None-clause-ok c =
    let rows : List LineOrder = selected_by c.args.mask.now c.args.batch.now in
    c.none.ensures ∙ tally_none (map (measure_of c.args.measure) rows) c.in-None.ensures

pub returns-in-Some-clause-ok : goal.returns-in-Some-clause-ok
returns-in-Some-clause-ok c =
    let measure = c.args.measure in
    let rows : List LineOrder = selected_by c.args.mask.now c.args.batch.now in
    let numbers : List ℤ = map (measure_of measure) rows in
    let ends = c.in-Some.ends in
    let sum : to_z w128 (of_z w128 c.selected_sum-sum.result) ≡ c.selected_sum-sum.result = search rules in
    let low : to_z w128 (of_z w128 ends.0) ≡ ends.0 = search rules in
    let high : to_z w128 (of_z w128 ends.1) ≡ ends.1 = search rules in
    let count = c.count_of.ensures ∙ count_selected c.args.mask.now c.args.batch.now c.requires
    ∙ sym (length-map rows (measure_of measure)) in
    ok_same c.tally_by_parts.result _ (tally_of numbers)
    (tally_some numbers c.count_of.result (to_z w128 (of_z w128 c.selected_sum-sum.result))
    (to_z w128 (of_z w128 ends.0)) (to_z w128 (of_z w128 ends.1)) count (sum ∙ c.selected_sum-sum.ensures)
    ((λ i. Some (low i, high i)) ∙ c.in-Some.ensures)) c.tally_by_parts.ensures.ok

pub returns-in-Some-clause-err : goal.returns-in-Some-clause-err
returns-in-Some-clause-err c =
    let measure = c.args.measure in
    let rows : List LineOrder = selected_by c.args.mask.now c.args.batch.now in
    let ends = c.in-Some.ends in
    let sum : to_z w128 (of_z w128 c.selected_sum-sum.result) ≡ c.selected_sum-sum.result = search rules in
    let low : to_z w128 (of_z w128 ends.0) ≡ ends.0 = search rules in
    let high : to_z w128 (of_z w128 ends.1) ≡ ends.1 = search rules in
    let both = (λ i. Some (low i, high i)) ∙ c.in-Some.ensures in
    err_from c.tally_by_parts.result _ _
    (λ unfit small. unfit
    (sum_fits measure rows small (to_z w128 (of_z w128 c.selected_sum-sum.result))
    (sum ∙ c.selected_sum-sum.ensures))
    (least_fits measure rows small (to_z w128 (of_z w128 ends.0)) (to_z w128 (of_z w128 ends.1)) both)
    (greatest_fits measure rows small (to_z w128 (of_z w128 ends.0)) (to_z w128 (of_z w128 ends.1)) both))
    c.tally_by_parts.ensures.err
