use Rattle.std.proofs.Common.{◌≡◌, ◌∙◌, ap, arith, ◌<◌, false, length, slice_get}
use Rattle.std.specs.Prelude.{unwrap_or}
use Rattle.std.proofs.lemmas.List.{length-set}
use Rattle.cube_query.proofs.Choosing.{bit_small, one_more}
use Rattle.cube_query.proofs.chosen_rows.chosen_places.Goals as goal

pub loop-place-preserved : goal.loop-place-preserved
loop-place-preserved c =
    let place = c.loop-place.place in
    let marks = c.args.mask.now in
    let places = c.loop-place.places.items in
    let within : place < length marks = omega (arith, c.loop-place-test.true, c.requires.count) in
    let room : c.loop-place.kept < length places =
    omega (arith, c.loop-place-test.true, c.loop-place.invariant.few, c.loop-place.invariant.long) in
    let mark : c.unwrap_or.result ≡ unwrap_or (slice_get marks place) false = c.unwrap_or.ensures
    ∙ ap (λ m. unwrap_or m false) c.get.ensures in
    record {
      few = omega
          (arith, c.loop-place.invariant.few, bit_small c.unwrap_or.result c.from-kept.result c.from-kept.ensures);
      long = length-set places c.loop-place.kept place ∙ c.loop-place.invariant.long;
      chosen = one_more marks places c.loop-place.kept place c.from-kept.result c.unwrap_or.result _ room within mark
          c.from-kept.ensures c.loop-place.invariant.chosen;
    }
