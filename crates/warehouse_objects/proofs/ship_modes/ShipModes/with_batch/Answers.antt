use Rattle.std.proofs.Common.{arith, ◌≡◌, ◌≤◌, ℕ, List, length, ap, sym, ◌∙◌}
use Rattle.cube_model.specs.Limits.{most_members}
use Rattle.batch_admission.specs.ShipModes.{texts_by}
use Rattle.dictionary.specs.Dictionary.{Texts}
use Rattle.warehouse_objects.proofs.KeptModes.{firsts-once, modes_after, none_then}
use Rattle.warehouse_objects.proofs.ship_modes.ShipModes.with_batch.Goals as goal

pub invariant_of-result : goal.invariant_of-result
invariant_of-result c =
    let known : List (List ℕ) = c.self.inside.texts.texts in
    let are = c.self.invariant.0 in
    let limit : c.add_modes.new.known.limit ≡ most_members =
    c.add_modes.ensures.limit ∙ ap (λ (t : Texts). t.limit) c.in_ok-texts.ensures.ok ∙ c.self.invariant.1 in
    let few : length c.add_modes.new.known.texts ≤ most_members = c.add_modes.ensures.few
    (omega (arith, are.proper.most, ap (λ (t : Texts). length t.texts) c.in_ok-texts.ensures.ok)) in
    let same = ap (λ (t : Texts). t.texts) c.in_ok-texts.ensures.ok ∙ sym (firsts-once known are.proper.each_once) in (
      modes_after known (texts_by c.args.modes.now.texts c.args.codes.now) c.add_modes.new.known.texts are
          c.requires.short (sym c.in_default.is ∙ c.reserved_row.ensures)
          (none_then c.in_ok-row.field-0 c.in_default-2.is c.in_ok-row.ensures.fit known same) few,
      limit,
    )
