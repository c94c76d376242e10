use Rattle.std.proofs.Common.{◌∙◌, ◌<◌, ap, subst, sym, ◌^◌, arith, map}
use Rattle.std.specs.Prelude.{◌&&◌}
use Rattle.cube_model.specs.Places.{row_count_of}
use Rattle.table_texts.specs.Places.{is_spellable_before}
use Rattle.table_texts.proofs.DimensionLemmas.{spellable-next}
use Rattle.table_texts.proofs.dimension.is_spellable.Goals as goal
use Rattle.table_texts.proofs.dimension.is_spellable.Goals.{then-is_spellable_at, else-is_spellable_at}
use Rattle.std.proofs.lemmas.List.Elements.{All-from_recursion}
use Rattle.std.proofs.lemmas.List.{length-map}
use Rattle.dimensions.specs.Shown.{rows_on}
use Rattle.dimensions.proofs.AttributeLaws.{count_on}
use Rattle.dimensions.proofs.ShortLaws.{all_map}

pub is_spellable_at-requires-clause-key : goal.is_spellable_at-requires-clause-key
is_spellable_at-requires-clause-key c =
    let dims = c.args.dims.now in
    let axis = c.args.axis in
    let rows = rows_on dims axis in
    let count = c.row_count-place-end.ensures.count in
    All-from_recursion (λ key. key < 2 ^ 32) (map (λ row. row.key) rows)
    (all_map (λ key. key < 2 ^ 32) (λ row. row.key) rows (c.row_count-place-end.ensures.storable.keys axis))
    c.loop-place.place 0
    (omega (arith, c.loop-place-test.true, count, count_on dims axis, length-map rows (λ row. row.key)))

pub loop-place-preserved : goal.loop-place-preserved
loop-place-preserved c =
    let within : c.loop-place.place < row_count_of c.args.dims.now c.args.axis =
    subst (λ count. c.loop-place.place < count) c.row_count-place-end.ensures.count c.loop-place-test.true in
    let before = is_spellable_before c.args.dims.now c.args.axis c.loop-place.place in
    let next = spellable-next c.args.dims.now c.args.axis c.loop-place.place within in
    elim c.if-is_spellable_at.branch [
      | then-is_spellable_at w ↦
          w.all-is ∙ c.loop-place.invariant
          ∙ sym (next ∙ ap (λ b. b && before) (sym c.is_spellable_at.ensures ∙ w.if-is_spellable_at.true))
      | else-is_spellable_at w ↦ w.all-is ∙ w.if-is_spellable_at.false
          ∙ sym (next ∙ ap (λ b. b && before) (sym c.is_spellable_at.ensures ∙ w.if-is_spellable_at.false))
    ]
