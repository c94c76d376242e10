use Rattle.std.proofs.Common.{take, get_or, arith}
use Rattle.std.proofs.lemmas.Bool.Decides.{not_from_Decides}
use Rattle.std.specs.Prelude.{Contains}
use Rattle.cube_model.specs.declared.attr.Attr.TheVariants.{CustomerCity}
use Rattle.query_words.specs.declared.known.Column.TheVariants.{Attribute}
use Rattle.query_words.proofs.Limited.{free_next, has_same, occurs_twice}
use Rattle.query_words.proofs.limits.repeated.Goals as goal

pub returns-then-contains : goal.returns-then-contains
returns-then-contains c =
    let again : Contains (take c.loop-place.place c.args.columns.now)
    (get_or c.args.columns.now c.loop-place.place (Attribute CustomerCity)) =
    (has_same _ _ c.contains.result c.contains.ensures.cases).0 c.if-contains.true in
    occurs_twice c.args.columns.now c.loop-place.place (Attribute CustomerCity) (omega arith) again

pub loop-place-preserved : goal.loop-place-preserved
loop-place-preserved c =
    let new : Contains (take c.loop-place.place c.args.columns.now)
    (get_or c.args.columns.now c.loop-place.place (Attribute CustomerCity))
    → ⊥ = not_from_Decides c.contains.result (has_same _ _ c.contains.result c.contains.ensures.cases)
    c.if-contains.false in
    free_next c.args.columns.now c.loop-place.place (Attribute CustomerCity) (omega arith) c.loop-place.invariant new
