use Rattle.std.proofs.Common.{◌≡◌, ◌∙◌, ℕ, List, sym, ap, subst, length, map, take}
use Rattle.std.proofs.lemmas.List.{with_items_is}
use Rattle.cube_model.specs.declared.rows.LineOrder.{LineOrder}
use Rattle.group_numbers.specs.Kept.{KeepPlaces}
use Rattle.group_numbers.specs.Rows.{row_at}
use Rattle.cube_query.specs.Chosen.{KeepSelected}
use Rattle.cube_query.proofs.Choosing.{kept_below, kept_places}
use Rattle.cube_query.proofs.chosen_rows.ChosenRows.without.Goals as goal

pub invariant_of-result : goal.invariant_of-result
invariant_of-result c =
    let dims = c.args.grouping.now.dimensions in
    let conditions = c.args.grouping.now.query.conditions in
    let rows = c.self.inside.rows in
    let long : length c.keep-kept.new.places ≡ c.self.inside.places.len = c.keep-kept.ensures.length
    ∙ c.as_mut_slice.ensures.len in
    let left : c.truncate.new.self.items ≡ take c.keep-kept.result c.keep-kept.new.places
    = c.truncate.ensures.items
    ∙ ap (take c.keep-kept.result) (with_items_is c.self.inside.places c.keep-kept.new.places long) in
    let keep : KeepPlaces dims conditions rows c.self.inside.places.items c.truncate.new.self.items
    = subst (λ (l : List ℕ). KeepPlaces dims conditions rows l c.truncate.new.self.items) c.as_mut_slice.ensures.value
    (subst (λ (l : List ℕ). KeepPlaces dims conditions rows c.as_mut_slice.result.now l) (sym left)
    c.keep-kept.ensures.kept) in
    kept_below dims conditions rows _ _ keep c.self.invariant

pub returns : goal.returns
returns c =
    let dims = c.args.grouping.now.dimensions in
    let conditions = c.args.grouping.now.query.conditions in
    let rows = c.self.inside.rows in
    let long : length c.keep-kept.new.places ≡ c.self.inside.places.len = c.keep-kept.ensures.length
    ∙ c.as_mut_slice.ensures.len in
    let left : c.truncate.new.self.items ≡ take c.keep-kept.result c.keep-kept.new.places
    = c.truncate.ensures.items
    ∙ ap (take c.keep-kept.result) (with_items_is c.self.inside.places c.keep-kept.new.places long) in
    let keep : KeepPlaces dims conditions rows c.self.inside.places.items c.truncate.new.self.items
    = subst (λ (l : List ℕ). KeepPlaces dims conditions rows l c.truncate.new.self.items) c.as_mut_slice.ensures.value
    (subst (λ (l : List ℕ). KeepPlaces dims conditions rows c.as_mut_slice.result.now l) (sym left)
    c.keep-kept.ensures.kept) in
    subst (λ (all : List LineOrder). KeepSelected dims conditions (map (row_at rows) c.truncate.new.self.items) all)
    c.self.view_is (kept_places dims conditions rows _ _ keep)
