use Rattle.std.proofs.Common.{◌++◌, [], ◌∷◌, List, sym, ap, ◌∙◌}
use Rattle.warehouse_root.specs.declared.cuboid.StoredCuboid.{StoredCuboid}
use Rattle.warehouse_objects.specs.Represents.{said_below}
use Rattle.warehouse_objects.proofs.CallerLemmas.{said_more, said_none, said_same}
use Rattle.stored_cuboids.proofs.viewing.said_below.Goals.{then-is_among+in_ok-push, else-is_among}
use Rattle.stored_cuboids.proofs.viewing.said_below.Goals as goal

pub loop-number-init : goal.loop-number-init
loop-number-init c = c.new-said.ensures.items ∙ sym (said_none c.args.views.now c.args.cuboids.now 0)

pub loop-number-preserved : goal.loop-number-preserved
loop-number-preserved c = elim c.if-is_among.branch [
  | then-is_among+in_ok-push w ↦
      rw w.said-is
      (w.in_ok-push.ensures.items
      ∙ ap (λ (said : List StoredCuboid). said ++ w.said_or_new.result ∷ []) c.loop-number.invariant
      ∙ ap (λ (one : StoredCuboid). said_below c.loop-number.number c.args.views.now c.args.cuboids.now ++ one ∷ [])
      w.said_or_new.ensures
      ∙ sym (said_more c.args.views.now c.args.cuboids.now c.loop-number.number
      (sym c.is_among.ensures ∙ w.if-is_among.true)))
  | else-is_among w ↦
      rw w.said-is
      (c.loop-number.invariant
      ∙ sym (said_same c.args.views.now c.args.cuboids.now c.loop-number.number
      (sym c.is_among.ensures ∙ w.if-is_among.false)))
]
