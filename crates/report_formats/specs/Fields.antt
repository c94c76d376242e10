-- The fields of a report's lines, and the whole report. Our own.
use Rattle.std.specs.Prelude.{ℕ, pos, ◌&&◌, if◌then◌else◌, List, [], ◌++◌, length, map, slice_index_or, min, codes}
use Rattle.std.specs.Prelude.{Bool, Option, None, Some}
use Rattle.std.specs.List.{flat_map, zip}
use Rattle.std.specs.Option.{is_none}
use Rattle.cube_model.specs.declared.answer.Answer.{Answer}
use Rattle.cube_model.specs.declared.answer.Line.{Line}
use Rattle.cube_model.specs.declared.answer.Member.{Member}
use Rattle.cube_model.specs.declared.answer.Member.TheVariants.{All, Text}
use Rattle.cube_model.specs.declared.answer.Value.{Value}
use Rattle.cube_model.specs.declared.answer.Value.TheVariants.{Whole, Ratio}
use Rattle.cube_model.specs.declared.measure.Agg.{Agg}
use Rattle.cube_model.specs.Names.{agg_name}
use Rattle.cube_model.specs.Proper.{is_average}
use Rattle.ssb_reports.specs.Report.{count_text, report_of, value_text}
use Rattle.report_formats.specs.Arranging.{arranged}
use Rattle.mode_queries.specs.Names.{column_names}
use Rattle.report_formats.specs.declared.asked.Asked.{Asked}
use Rattle.report_formats.specs.declared.layout.Format.{Format}
use Rattle.report_formats.specs.declared.layout.Format.TheVariants.{Bars, Csv, Tsv, Json}
use Rattle.report_formats.specs.declared.layout.Layout.{Layout}
use Rattle.report_formats.specs.Arrangements.{arrangement_in}
use Rattle.report_formats.specs.Decimals.{decimal_text}
use Rattle.report_formats.specs.Escapes.{csv_text, tsv_text, json_text}
use Rattle.report_formats.specs.Rows.{counts_averages, is_plain, formatted_row}

-- a text of a column
abbrev pub formatted_text : Format → List ℕ → List ℕ
formatted_text Bars text = text
formatted_text Csv text = csv_text text
formatted_text Tsv text = tsv_text text
formatted_text Json text = json_text text

-- ALL in a column
abbrev pub all_in : Format → List ℕ
all_in Bars = codes "ALL"
all_in Csv = []
all_in Tsv = []
all_in Json = codes "null"

abbrev pub formatted_member : Format → Member → List ℕ
formatted_member format (Text text) = formatted_text format text
formatted_member format All = all_in format

-- the name of a field, which json has in each line. No name has a character that json writes in another way
abbrev pub name_text : Format → List ℕ → List ℕ
name_text Json name = codes "\"" ++ (name ++ codes "\":")
name_text Bars name = []
name_text Csv name = []
name_text Tsv name = []

-- a member with the name of its column
abbrev pub member_field : Format → List ℕ × Member → List ℕ
member_field format field = name_text format field.0 ++ formatted_member format field.1

-- a whole number, and an average as a fraction or as a decimal with at most 18 digits after the point
abbrev pub number_text : Option ℕ → Value → List ℕ
number_text None value = value_text value
number_text (Some digits) (Whole number) = value_text (Whole number)
number_text (Some digits) (Ratio fraction) = decimal_text (min digits 18) fraction

-- an average by its sum and its count
abbrev pub average_text : Value → Value → List ℕ
average_text sum count = (codes "{\"sum\":" ++ value_text sum)
    ++ ((codes ",\"count\":" ++ value_text count) ++ codes "}")

abbrev pub counted_text : Layout → Value → Agg × Value → List ℕ
counted_text layout count field =
    if counts_averages layout && is_average field.0 then average_text field.1 count else number_text layout.decimals
    field.1

abbrev pub value_field : Layout → Value → Agg × Value → List ℕ
value_field layout count field = name_text layout.format (agg_name field.0) ++ counted_text layout count field

-- the count of a line's rows, where the query asks for it after all aggregates of the report
abbrev pub count_in : Asked → Line → Value
count_in asked line = slice_index_or line.values (length asked.aggregates) (Whole (pos 0))

abbrev pub member_fields : Asked → Line → List (List ℕ)
member_fields asked line = map (member_field asked.layout.format) (zip (column_names asked.query) line.key)

abbrev pub value_fields : Asked → Line → List (List ℕ)
value_fields asked line = map (value_field asked.layout (count_in asked line)) (zip asked.aggregates line.values)

abbrev pub formatted_line : Asked → Line → List ℕ
formatted_line asked line = formatted_row asked.layout.format (member_fields asked line ++ value_fields asked line)

-- the names of columns and aggregates, but in json
abbrev pub names_text : Format → List (List ℕ) → List ℕ
names_text Json names = []
names_text Bars names = formatted_row Bars names
names_text Csv names = formatted_row Csv names
names_text Tsv names = formatted_row Tsv names

abbrev pub formatted_header : Asked → List ℕ
formatted_header asked = names_text asked.layout.format (column_names asked.query ++ map agg_name asked.aggregates)

-- the number of lines, with bars alone
abbrev pub footer_text : Format → ℕ → List ℕ
footer_text Bars count = count_text count
footer_text Csv count = []
footer_text Tsv count = []
footer_text Json count = []

abbrev pub laid_out : Asked → Answer → List ℕ
laid_out asked answer =
    formatted_header asked
    ++ (flat_map (formatted_line asked) answer.lines ++ footer_text asked.layout.format (length answer.lines))

-- the report is that of a query of the dimensions alone: with bars, averages as fractions, and no column of ship modes
abbrev pub is_plain_report : Asked → Bool
is_plain_report asked = is_plain asked.layout && is_none asked.query.place

-- a report of the lines of an answer as they come
abbrev pub unarranged : Asked → Answer → List ℕ
unarranged asked answer =
    if is_plain_report asked then report_of asked.query.query answer else laid_out asked answer

-- the report of the answer to the query that is asked: its lines arranged
abbrev pub formatted : Asked → Answer → List ℕ
formatted asked answer = unarranged asked (record { lines = arranged (arrangement_in asked) answer.lines })
