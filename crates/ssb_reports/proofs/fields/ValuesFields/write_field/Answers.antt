use Rattle.std.proofs.Common.{◌≡◌, ◌∙◌, ◌<◌, [], pos, sym, ap, subst, get_or, map, length}
use Rattle.std.proofs.lemmas.List.{get_or-map, length-map}
use Rattle.cube_model.specs.declared.answer.Value.TheVariants.{Whole}
use Rattle.ssb_reports.specs.Report.{value_text}
use Rattle.ssb_reports.proofs.fields.ValuesFields.write_field.Goals as goal

pub returns : goal.returns
returns g c =
    let values = c.args.self.now.0.now.values in
    let within : c.args.place < length values =
    subst (λ n. c.args.place < n) (length-map values value_text) c.requires in
    let is : get_or (map value_text values) c.args.place [] ≡ value_text c.value.result =
    get_or-map value_text values c.args.place (Whole (pos 0)) [] within ∙ ap value_text (sym c.value.ensures) in
    rw is c.write_to.ensures
