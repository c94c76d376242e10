-- The orders of the lines of an answer. Our own.
use Rattle.std.specs.Prelude.{pos, List, Option, Some, None, slice_index_or}
use Rattle.std.specs.declared.cmp.Ordering.{Ordering}
use Rattle.std.specs.declared.cmp.Ordering.TheVariants.{Less, Equal, Greater}
use Rattle.std.specs.Ordering.{ordering_then, int_cmp}
use Rattle.cube_model.specs.declared.answer.Line.{Line}
use Rattle.cube_model.specs.declared.answer.Member.TheVariants.{All}
use Rattle.cube_model.specs.declared.answer.Value.{Value}
use Rattle.cube_model.specs.declared.answer.Value.TheVariants.{Whole, Ratio}
use Rattle.cube_model.specs.declared.query.Order.{Order}
use Rattle.cube_model.specs.Ascending.{ascending}
use Rattle.cube_model.specs.Keys.{member_cmp, key_cmp}

-- whole values by size. A proper order names no average
abbrev pub value_cmp : Value → Value → Ordering
value_cmp (Whole left) (Whole right) = int_cmp left right
value_cmp (Whole left) (Ratio right) = Less
value_cmp (Ratio left) (Whole right) = Greater
value_cmp (Ratio left) (Ratio right) = Equal

-- by the column, then falling by the aggregate, then by the key
abbrev pub line_cmp : Order → Line → Line → Ordering
line_cmp order left right =
    ordering_then (member_cmp (slice_index_or left.key order.column All) (slice_index_or right.key order.column All))
    (ordering_then
    (value_cmp (slice_index_or right.values order.aggregate (Whole (pos 0)))
    (slice_index_or left.values order.aggregate (Whole (pos 0))))
    (key_cmp left.key right.key))

-- how lines compare in an answer: by their keys, where the query asks for no other order
abbrev pub answer_cmp : Option Order → Line → Line → Ordering
answer_cmp None left right = key_cmp left.key right.key
answer_cmp (Some order) left right = line_cmp order left right

-- lines in the order that a query asks for; they come in the order of their keys
abbrev pub in_order : Option Order → List Line → List Line
in_order None lines = lines
in_order (Some order) lines = ascending (line_cmp order) lines
