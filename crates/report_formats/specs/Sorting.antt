-- How the lines of a report compare, where it is asked for in the order by a column or by an aggregate. Our own.
use Rattle.std.specs.Prelude.{ℕ, max, pos, ◌*ℤ◌, nat_abs, Bool, true, false, List, Option, Some, None, slice_index_or}
use Rattle.std.specs.declared.cmp.Ordering.{Ordering}
use Rattle.std.specs.Ordering.{int_cmp, ordering_reverse, ordering_then}
use Rattle.cube_model.specs.declared.answer.Fraction.{Fraction}
use Rattle.cube_model.specs.declared.answer.Line.{Line}
use Rattle.cube_model.specs.declared.answer.Member.{Member}
use Rattle.cube_model.specs.declared.answer.Member.TheVariants.{All, Text}
use Rattle.cube_model.specs.declared.answer.Value.{Value}
use Rattle.cube_model.specs.declared.answer.Value.TheVariants.{Whole, Ratio}
use Rattle.cube_model.specs.Keys.{key_cmp, member_cmp}
use Rattle.report_formats.specs.declared.arrangement.SortKey.{SortKey}
use Rattle.report_formats.specs.declared.arrangement.SortKey.TheVariants.{Column, Aggregate, Average}
use Rattle.report_formats.specs.declared.arrangement.Sorting.{Sorting}

-- a value as a fraction: a whole number is one over 1
abbrev pub fraction_in : Value → Fraction
fraction_in (Whole number) = record { numerator = number; denominator = 1 }
fraction_in (Ratio fraction) = fraction

-- the average of a sum over a count
abbrev pub quotient : Value → Value → Fraction
quotient sum count = record {
  numerator = (fraction_in sum).numerator;
  denominator = nat_abs (fraction_in count).numerator;
}

-- fractions by size, exactly: a/b and c/d as a*d and c*b. (The denominator of an average is at least 1.)
abbrev pub fraction_cmp : Fraction → Fraction → Ordering
fraction_cmp left right =
    int_cmp (left.numerator *ℤ pos (max right.denominator 1)) (right.numerator *ℤ pos (max left.denominator 1))

-- the member of a line in a column
abbrev pub line_member : Line → ℕ → Member
line_member line column = slice_index_or line.key column All

-- a member by its text, where none is ALL
abbrev pub text_member : Option (List ℕ) → Member
text_member (Some text) = Text text
text_member None = All

-- the value of a line of an aggregate
abbrev pub value_at : Line → ℕ → Value
value_at line aggregate = slice_index_or line.values aggregate (Whole (pos 0))

-- the number that a line is sorted by
abbrev pub aggregate_at : Line → ℕ → Fraction
aggregate_at line aggregate = fraction_in (value_at line aggregate)

abbrev pub average_at : Line → ℕ → ℕ → Fraction
average_at line sum count = quotient (value_at line sum) (value_at line count)

-- lines by what they are sorted by: members as in keys, ALL after every text, and values as numbers
abbrev pub sort_key_cmp : SortKey → Line → Line → Ordering
sort_key_cmp (Column column) left right = member_cmp (line_member left column) (line_member right column)
sort_key_cmp (Aggregate aggregate) left right =
    fraction_cmp (aggregate_at left aggregate) (aggregate_at right aggregate)
sort_key_cmp (Average sum count) left right = fraction_cmp (average_at left sum count) (average_at right sum count)

-- descending is the reverse
abbrev pub directed : Bool → Ordering → Ordering
directed false order = order
directed true order = ordering_reverse order

-- lines that are equal there are in the order of their keys, ascending in either direction
abbrev pub sorting_cmp : Sorting → Line → Line → Ordering
sorting_cmp sorting left right =
    ordering_then (directed sorting.descending (sort_key_cmp sorting.key left right)) (key_cmp left.key right.key)
