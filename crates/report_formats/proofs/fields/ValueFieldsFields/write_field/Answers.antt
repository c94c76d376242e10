use Rattle.std.proofs.Common.{◌≡◌, ◌<◌, [], get_or, length, pos, rules}
use Rattle.cube_model.specs.declared.answer.Value.TheVariants.{Whole}
use Rattle.cube_model.specs.declared.measure.Agg.TheVariants.{Count}
use Rattle.group_tallies.specs.GroupLines.{line_at}
use Rattle.report_formats.specs.Fields.{count_in, value_field, value_fields}
use Rattle.report_formats.proofs.FieldsLemmas.{get_or-paired, in_first, in_second}
use Rattle.report_formats.proofs.fields.ValueFieldsFields.write_field.Goals as goal

pub offset_bounds-as_slice-place : goal.offset_bounds-as_slice-place
offset_bounds-as_slice-place g c =
    let line = line_at (g.L.Lines.lines c.args.self.now.lines.now) c.args.self.now.place in
    let within : c.args.place < length c.as_slice.result.now =
    rw c.as_slice.ensures
    (in_first (value_field c.args.self.now.asked.now.layout (count_in c.args.self.now.asked.now line))
    c.args.self.now.asked.now.aggregates line.values c.args.place c.requires) in
    search rules

pub bounds-as_slice-place : goal.bounds-as_slice-place
bounds-as_slice-place g c =
    let line = line_at (g.L.Lines.lines c.args.self.now.lines.now) c.args.self.now.place in
    rw c.as_slice.ensures
    (in_first (value_field c.args.self.now.asked.now.layout (count_in c.args.self.now.asked.now line))
    c.args.self.now.asked.now.aggregates line.values c.args.place c.requires)

pub value-value-requires-clause-aggregate : goal.value-value-requires-clause-aggregate
value-value-requires-clause-aggregate g c =
    let line = line_at (g.L.Lines.lines c.args.self.now.lines.now) c.args.self.now.place in
    in_second (value_field c.args.self.now.asked.now.layout (count_in c.args.self.now.asked.now line))
    c.args.self.now.asked.now.aggregates line.values c.args.place c.requires

pub returns : goal.returns
returns g c =
    let asked = c.args.self.now.asked.now in
    let line = line_at (g.L.Lines.lines c.args.self.now.lines.now) c.args.self.now.place in
    let field = value_field asked.layout (count_in asked line) in
    let is : get_or (value_fields asked line) c.args.place []
    ≡ field (get_or asked.aggregates c.args.place Count, get_or line.values c.args.place (Whole (pos 0))) =
    get_or-paired field asked.aggregates line.values c.args.place Count (Whole (pos 0)) []
    (in_first field asked.aggregates line.values c.args.place c.requires)
    (in_second field asked.aggregates line.values c.args.place c.requires) in
    rw is (rw (c.as_slice.ensures, c.value-value.ensures, c.count_value.ensures) at c.write_value_field.ensures)
