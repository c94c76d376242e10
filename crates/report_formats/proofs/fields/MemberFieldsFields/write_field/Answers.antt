use Rattle.std.proofs.Common.{◌≡◌, ◌∙◌, [], ap, get_or, option_map}
use Rattle.cube_model.specs.declared.answer.Member.TheVariants.{All}
use Rattle.group_tallies.specs.GroupLines.{line_at}
use Rattle.mode_queries.specs.Names.{column_names}
use Rattle.mode_queries.specs.Joining.{member_of}
use Rattle.report_formats.specs.Fields.{member_field, member_fields}
use Rattle.report_formats.proofs.FieldsLemmas.{member_found, get_or-paired, in_first, in_second}
use Rattle.report_formats.proofs.fields.MemberFieldsFields.write_field.Goals as goal

pub column_name-column-requires : goal.column_name-column-requires
column_name-column-requires g c =
    let line = line_at (g.L.Lines.lines c.args.self.now.lines.now) c.args.self.now.place in
    in_first (member_field c.args.self.now.asked.now.layout.format) (column_names c.args.self.now.asked.now.query)
    line.key c.args.place c.requires

pub text-text-requires-clause-column : goal.text-text-requires-clause-column
text-text-requires-clause-column g c =
    let line = line_at (g.L.Lines.lines c.args.self.now.lines.now) c.args.self.now.place in
    in_second (member_field c.args.self.now.asked.now.layout.format) (column_names c.args.self.now.asked.now.query)
    line.key c.args.place c.requires

pub returns : goal.returns
returns g c =
    let asked = c.args.self.now.asked.now in
    let columns = column_names asked.query in
    let line = line_at (g.L.Lines.lines c.args.self.now.lines.now) c.args.self.now.place in
    let field = member_field asked.layout.format in
    let is : get_or (member_fields asked line) c.args.place []
    ≡ field (get_or columns c.args.place [], member_of (option_map (λ one. one.now) c.text-text.result)) =
    get_or-paired field columns line.key c.args.place [] All []
    (in_first field columns line.key c.args.place c.requires)
    (in_second field columns line.key c.args.place c.requires)
    ∙ ap (λ member. field (get_or columns c.args.place [], member))
    (member_found (λ one. one.now) c.text-text.result _ c.text-text.ensures.text c.text-text.ensures.all) in
    rw is (rw c.column_name-column.ensures at c.write_member_field.ensures)
