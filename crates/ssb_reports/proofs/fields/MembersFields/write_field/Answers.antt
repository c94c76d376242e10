use Rattle.std.proofs.Common.{◌≡◌, ◌∙◌, ◌<◌, [], codes, ap, subst, get_or, map, length}
use Rattle.std.proofs.lemmas.List.{get_or-map, length-map}
use Rattle.cube_model.specs.declared.answer.Member.TheVariants.{All}
use Rattle.ssb_reports.specs.Report.{member_text}
use Rattle.ssb_reports.proofs.fields.MembersFields.write_field.Goals as goal

pub returns-in-Some : goal.returns-in-Some
returns-in-Some g c =
    let key = c.args.self.now.0.now.key in
    let within : c.args.place < length key = subst (λ n. c.args.place < n) (length-map key member_text) c.requires in
    let is : get_or (map member_text key) c.args.place [] ≡ c.in-Some.text.now =
    get_or-map member_text key c.args.place All [] within ∙ ap member_text c.in-Some.ensures.text in
    rw is c.write_bytes.ensures

pub returns-in-None : goal.returns-in-None
returns-in-None g c =
    let key = c.args.self.now.0.now.key in
    let within : c.args.place < length key = subst (λ n. c.args.place < n) (length-map key member_text) c.requires in
    let is : get_or (map member_text key) c.args.place [] ≡ codes "ALL" =
    get_or-map member_text key c.args.place All [] within ∙ ap member_text c.in-None.ensures.all in
    rw is c.write_bytes-in-None.ensures
