use Rattle.std.proofs.Common.{◌∙◌, ◌<◌, ◌++◌, ◌∷◌, [], ℕ, List, sym, ap, arith, length}
use Rattle.std.proofs.lemmas.List.{length-set, take_more_set}
use Rattle.cube_query.proofs.Choosing.{range_next}
use Rattle.cube_query.proofs.chosen_rows.all_places.Goals as goal

pub loop-place-preserved : goal.loop-place-preserved
loop-place-preserved c =
    let place = c.loop-place.place in
    let places = c.loop-place.places.items in
    let room : place < length places = omega (arith, c.loop-place-test.true, c.loop-place.invariant.long) in
    record {
      long = length-set places place place ∙ c.loop-place.invariant.long;
      front = take_more_set places place place room ∙ ap (λ (l : List ℕ). l ++ place ∷ []) c.loop-place.invariant.front
          ∙ sym (range_next place);
    }
