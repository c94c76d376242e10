use Rattle.std.proofs.Common.{◌≡◌, List, length, map}
use Rattle.std.specs.List.{AllByRecursion}
use Rattle.std.specs.Option.{option_map}
use Rattle.cube_model.specs.declared.answer.Value.{Value}
use Rattle.partial_reports.specs.Readable.{IsWholeNumber}
use Rattle.ssb_reports.specs.Report.{value_text}
use Rattle.partial_reports.specs.Reading.{FieldsAreLeft}
use Rattle.partial_reports.proofs.FieldsLemmas.{ValuesLeft}
use Rattle.partial_reports.proofs.fields.parse_values.Given as goal

abbrev pub invariant-loop-aggregate : goal.invariant-loop-aggregate
invariant-loop-aggregate l =
    (values : List Value) → length values ≡ l.aggregates → AllByRecursion IsWholeNumber values
    → FieldsAreLeft (option_map (λ text. text.now) l.fn.fields.left) (map value_text values)
    → ValuesLeft values l.values l.aggregates l._aggregate (option_map (λ text. text.now) l.fields.left)
