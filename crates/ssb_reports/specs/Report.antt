-- The text of an answer: a header, a line for each line of the answer, and their number. Our own.
use Rattle.std.specs.Prelude.{ℕ, List, [], ◌∷◌, ◌++◌, map, length, codes}
use Rattle.std.specs.Fmt.{decimal, signed_decimal}
use Rattle.std.specs.List.{flat_map, join_with_byte}
use Rattle.cube_model.specs.declared.answer.Answer.{Answer}
use Rattle.cube_model.specs.declared.answer.Line.{Line}
use Rattle.cube_model.specs.declared.answer.Member.{Member}
use Rattle.cube_model.specs.declared.answer.Member.TheVariants.{All, Text}
use Rattle.cube_model.specs.declared.answer.Value.{Value}
use Rattle.cube_model.specs.declared.answer.Value.TheVariants.{Whole, Ratio}
use Rattle.cube_model.specs.declared.query.Query.{Query}
use Rattle.cube_model.specs.Names.{attr_name, agg_name}

-- a member, and ALL where a column is not grouped
abbrev pub member_text : Member → List ℕ
member_text (Text text) = text
member_text All = codes "ALL"

-- a whole number in decimal, an average as p/q
abbrev pub value_text : Value → List ℕ
value_text (Whole number) = signed_decimal number
value_text (Ratio fraction) = signed_decimal fraction.numerator ++ (codes "/" ++ decimal fraction.denominator)

-- fields separated by bars, and a line feed
abbrev pub row_text : List (List ℕ) → List ℕ
row_text fields = join_with_byte 124 fields ++ 10 ∷ []

-- the names of columns and aggregates
abbrev pub header_text : Query → List ℕ
header_text query = row_text (map attr_name query.columns ++ map agg_name query.aggregates)

-- the members and values of a line
abbrev pub line_text : Line → List ℕ
line_text line = row_text (map member_text line.key ++ map value_text line.values)

-- the number of lines
abbrev pub count_text : ℕ → List ℕ
count_text count = codes "rows " ++ (decimal count ++ 10 ∷ [])

-- the report of a query's answer
abbrev pub report_of : Query → Answer → List ℕ
report_of query answer = header_text query ++ (flat_map line_text answer.lines ++ count_text (length answer.lines))
