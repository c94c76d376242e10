-- Answers over two lists of fact rows as the answer over both. Our own.
use Rattle.std.specs.Prelude.{ℤ, ◌+ℤ◌, List, [], ◌∷◌, ◌++◌, map, find, Option, Some, None}
use Rattle.std.specs.Int.{int_min, int_max}
use Rattle.std.specs.List.{filter_map, fold}
use Rattle.std.specs.Ordering.{eq_by_cmp}
use Rattle.cube_model.specs.declared.answer.Answer.{Answer}
use Rattle.cube_model.specs.declared.answer.Line.{Line}
use Rattle.cube_model.specs.declared.answer.Member.{Member}
use Rattle.cube_model.specs.declared.answer.Value.{Value}
use Rattle.cube_model.specs.declared.answer.Value.TheVariants.{Whole}
use Rattle.cube_model.specs.declared.measure.Agg.{Agg}
use Rattle.cube_model.specs.declared.measure.Agg.TheVariants.{Count, Sum, Min, Max, Avg}
use Rattle.cube_model.specs.declared.query.Query.{Query}
use Rattle.cube_model.specs.Ascending.{ascending}
use Rattle.cube_model.specs.Keys.{key_cmp}
use Rattle.partial_reports.specs.Parts.{value_number}

-- two numbers of one aggregate as one: counts and sums are added, of least and greatest one is taken. Averages are not
-- merged
abbrev pub merged_number : Agg → ℤ → ℤ → ℤ
merged_number Count one other = one +ℤ other
merged_number (Sum measure) one other = one +ℤ other
merged_number (Min measure) one other = int_min one other
merged_number (Max measure) one other = int_max one other
merged_number (Avg measure) one other = one

-- the values of two lines, one for each aggregate
abbrev pub merged_values : List Agg → List Value → List Value → List Value
merged_values [] ones others = []
merged_values (agg ∷ aggs) [] others = []
merged_values (agg ∷ aggs) (one ∷ ones) [] = []
merged_values (agg ∷ aggs) (one ∷ ones) (other ∷ others) =
    Whole (merged_number agg (value_number one) (value_number other)) ∷ merged_values aggs ones others

-- two lines of one key as one
abbrev pub merged_line : List Agg → Line → Line → Line
merged_line aggs one other = record { key = one.key; values = merged_values aggs one.values other.values }

-- the same, where either may be missing
abbrev pub merged_line_if_any : List Agg → Option Line → Option Line → Option Line
merged_line_if_any aggs None other = other
merged_line_if_any aggs (Some one) None = Some one
merged_line_if_any aggs (Some one) (Some other) = Some (merged_line aggs one other)

-- the line of a key, if there is one
abbrev pub line_of_key : List Member → List Line → Option Line
line_of_key key lines = find (λ line. eq_by_cmp key_cmp key line.key) lines

-- the keys of lines
abbrev pub keys_in : List Line → List (List Member)
keys_in lines = map (λ line. line.key) lines

-- for each key of either the merge of its lines, in the order of the keys
abbrev pub merged_lines : List Agg → List Line → List Line → List Line
merged_lines aggs ones others =
    filter_map (λ key. merged_line_if_any aggs (line_of_key key ones) (line_of_key key others))
    (ascending key_cmp (keys_in ones ++ keys_in others))

-- two answers as one
abbrev pub merged_answer : Query → Answer → Answer → Answer
merged_answer query one other = record { lines = merged_lines query.aggregates one.lines other.lines }

-- answers as one, from the first on. Of none it has no line
abbrev pub merged_all : Query → List Answer → Answer
merged_all query answers = fold (merged_answer query) (record { lines = [] }) answers
