-- From the tallies of each key to the groups, and from the groups to the answer.
use Rattle.std.proofs.Common.{◌≡◌, ◌∙◌, sym, ap, refl, Bool, true, false, cond, List, [], ◌∷◌, map, Some, None, ◌||◌}
use Rattle.std.proofs.Common.{pos}
use Rattle.std.specs.List.{list_any, filter, flat_map}
use Rattle.std.specs.List.Sorted.{IsStrictlySortedBy}
use Rattle.std.specs.Ordering.{eq_by_cmp}
use Rattle.std.specs.Map.{lookup}
use Rattle.std.specs.BTreeMap.{is_at}
use Rattle.std.proofs.lemmas.List.{length-map}
use Rattle.std.proofs.lemmas.List.Folds.{list_any-append}
use Rattle.cube_model.specs.declared.answer.Member.{Member}
use Rattle.group_tallies.specs.declared.tally.Tally.{Tally}
use Rattle.cube_model.specs.declared.answer.Value.TheVariants.{Whole, Ratio}
use Rattle.cube_model.specs.declared.measure.Agg.{Agg}
use Rattle.cube_model.specs.declared.measure.Agg.TheVariants.{Count, Sum, Min, Max, Avg}
use Rattle.cube_model.specs.declared.query.Query.{Query}
use Rattle.cube_model.specs.declared.rows.LineOrder.{LineOrder}
use Rattle.cube_model.specs.Aggregates.{aggregate, total}
use Rattle.cube_model.specs.Fractions.{fraction_of}
use Rattle.cube_model.specs.Measures.{measure_of}
use Rattle.cube_model.specs.Orders.{in_order}
use Rattle.cube_model.proofs.Ascending.{list_any-ascending}
use Rattle.group_tallies.specs.Groups.{groups_of}
use Rattle.cube_model.specs.Answers.{answer, keys_among, rows_of_key, line_of}
use Rattle.cube_model.specs.declared.rows.DimRows.{DimRows}
use Rattle.cube_model.specs.Keys.{key_cmp, keys_of}
use Rattle.cube_model.proofs.KeyOrder.{key_cmp_total, key_cmp-IsAntisymmetric}
use Rattle.cube_model.specs.Selection.{selected}
use Rattle.group_tallies.specs.Tallies.{tally_of, tallies_of, tallies_if_any, aggregated, value_of, values_of}
use Rattle.group_tallies.specs.Columns.{line_with}
use Rattle.cube_model.proofs.Entries.{entries_are, find-lookup, find-map}

-- what an aggregate takes of the tally of some rows is the aggregate over them
pub value_of-tally_of : (agg : Agg) (rows : List LineOrder) → value_of agg (tally_of (map (aggregated agg) rows))
    ≡ aggregate agg rows
value_of-tally_of Count rows = ap (λ n. Whole (pos n)) (length-map rows (aggregated Count))
value_of-tally_of (Sum measure) rows = refl
value_of-tally_of (Min measure) rows = refl
value_of-tally_of (Max measure) rows = refl
value_of-tally_of (Avg measure) rows =
    ap (λ n. Ratio (fraction_of (total (map (measure_of measure) rows)) n)) (length-map rows (measure_of measure))

pub values_of-tallies_of : (aggs : List Agg) (rows : List LineOrder)
    → values_of aggs (tallies_of aggs rows) ≡ map (λ agg. aggregate agg rows) aggs
values_of-tallies_of [] rows = refl
values_of-tallies_of (agg ∷ aggs) rows = λ i. value_of-tally_of agg rows i ∷ values_of-tallies_of aggs rows i

-- some row has a key exactly if the key is among those of all rows
pub list_any-flat_map : {X Y : Type 0} (t : Y → Bool) (f : X → List Y) (xs : List X)
    → list_any t (flat_map f xs) ≡ list_any (λ x. list_any t (f x)) xs
list_any-flat_map t f [] = refl
list_any-flat_map t f (x ∷ xs) = list_any-append t (f x) (flat_map f xs)
    ∙ ap (λ b. list_any t (f x) || b) (list_any-flat_map t f xs)

-- there are tallies of the rows that pass exactly if one passes
pub tallies_if_any-filter : (aggs : List Agg) (p : LineOrder → Bool) (rows : List LineOrder)
    → tallies_if_any aggs (filter p rows) ≡ cond (list_any p rows) (Some (tallies_of aggs (filter p rows))) None
tallies_if_any-filter aggs p [] = refl
tallies_if_any-filter aggs p (row ∷ rows) =
    elim (p row) as
    (λ b. tallies_if_any aggs (cond b (row ∷ filter p rows) (filter p rows))
    ≡ cond (b || list_any p rows) (Some (tallies_of aggs (cond b (row ∷ filter p rows) (filter p rows)))) None) [
      | true ↦ refl
      | false ↦ tallies_if_any-filter aggs p rows
    ]

map-map_pair : {K X Y : Type 0} (h : K × X → Y) (g : K → X) (f : K → Y) → ((k : K) → h (k, g k) ≡ f k) → (ks : List K)
    → map h (map (λ k. (k, g k)) ks) ≡ map f ks
map-map_pair h g f each [] = refl
map-map_pair h g f each (k ∷ ks) = λ i. each k i ∷ map-map_pair h g f each ks i

-- a map that has the tallies of the selected rows of each key has the groups of the rows
pub groups_are : (dimensions : DimRows) (query : Query) (rows : List LineOrder) (es : List (List Member × List Tally))
    → IsStrictlySortedBy key_cmp (map (λ e. e.0) es)
    → ((key : List Member)
    → lookup (is_at (key_cmp key)) es
    ≡ tallies_if_any query.aggregates
    (rows_of_key dimensions query key (selected dimensions query.conditions rows)))
    → es ≡ groups_of dimensions query rows
groups_are dimensions query rows es sorted each =
    let chosen = selected dimensions query.conditions rows in
    let tallies = λ (key : List Member). tallies_of query.aggregates (rows_of_key dimensions query key chosen) in
    entries_are key_cmp key_cmp_total key_cmp-IsAntisymmetric es sorted (flat_map (keys_of dimensions query) chosen)
    tallies
    (λ key. each key
    ∙ tallies_if_any-filter query.aggregates
    (λ row. list_any (eq_by_cmp key_cmp key) (keys_of dimensions query row)) chosen
    ∙ ap (λ b. cond b (Some (tallies key)) None)
    (sym (list_any-flat_map (eq_by_cmp key_cmp key) (keys_of dimensions query) chosen)))

-- and the other way round: the groups have the tallies of the selected rows of each key
pub groups_have : (dimensions : DimRows) (query : Query) (rows : List LineOrder) (key : List Member)
    → lookup (is_at (key_cmp key)) (groups_of dimensions query rows)
    ≡ tallies_if_any query.aggregates (rows_of_key dimensions query key (selected dimensions query.conditions rows))
groups_have dimensions query rows key =
    let chosen = selected dimensions query.conditions rows in
    let tallies = λ (key : List Member). tallies_of query.aggregates (rows_of_key dimensions query key chosen) in
    sym (find-lookup key_cmp key_cmp_total key_cmp-IsAntisymmetric key (groups_of dimensions query rows))
    ∙ find-map key_cmp key_cmp_total key_cmp-IsAntisymmetric tallies key (keys_among dimensions query chosen)
    ∙ ap (λ b. cond b (Some (tallies key)) None)
    (list_any-ascending key_cmp key_cmp_total key_cmp-IsAntisymmetric key
    (flat_map (keys_of dimensions query) chosen)
    ∙ list_any-flat_map (eq_by_cmp key_cmp key) (keys_of dimensions query) chosen)
    ∙ sym (tallies_if_any-filter query.aggregates
    (λ row. list_any (eq_by_cmp key_cmp key) (keys_of dimensions query row)) chosen)

-- the lines of the groups are those of the keys
pub unordered_lines : (dimensions : DimRows) (query : Query) (rows : List LineOrder)
    → map (line_with query.aggregates) (groups_of dimensions query rows)
    ≡ map (line_of dimensions query (selected dimensions query.conditions rows))
    (keys_among dimensions query (selected dimensions query.conditions rows))
unordered_lines dimensions query rows =
    let chosen = selected dimensions query.conditions rows in
    let tallies = λ (key : List Member). tallies_of query.aggregates (rows_of_key dimensions query key chosen) in
    map-map_pair (line_with query.aggregates) tallies (line_of dimensions query chosen)
    (λ key i. record {
      key = key;
      values = values_of-tallies_of query.aggregates (rows_of_key dimensions query key chosen) i;
    })
    (keys_among dimensions query chosen)

-- and those of the answer, where no order is asked for
pub lines_are : (dimensions : DimRows) (query : Query) (rows : List LineOrder) → query.order ≡ None
    → map (line_with query.aggregates) (groups_of dimensions query rows) ≡ (answer query dimensions rows).lines
lines_are dimensions query rows unordered =
    let chosen = selected dimensions query.conditions rows in
    unordered_lines dimensions query rows
    ∙ ap (λ order. in_order order (map (line_of dimensions query chosen) (keys_among dimensions query chosen)))
    (sym unordered)
