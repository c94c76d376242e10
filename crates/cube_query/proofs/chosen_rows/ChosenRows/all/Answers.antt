use Rattle.std.proofs.Common.{◌≡◌, ◌∙◌, ◌<◌, sym, ap, subst, length}
use Rattle.std.specs.List.{All}
use Rattle.cube_query.proofs.Choosing.{all_places_below, all_rows}
use Rattle.cube_query.proofs.chosen_rows.ChosenRows.all.Goals as goal

pub invariant_of-result : goal.invariant_of-result
invariant_of-result c =
    let many : c.len.result ≡ length c.of.result = c.len.ensures.count ∙ ap length (sym c.of.ensures) in
    subst (λ n. All (λ place. place < n) c.in_ok-places.places.items) many (all_places_below _ _ c.in_ok-places.ensures)

pub returns-clause-ok : goal.returns-clause-ok
returns-clause-ok c = all_rows c.args.batch _ _ _ c.of.ensures c.len.ensures.count c.in_ok-places.ensures
