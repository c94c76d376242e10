-- What groups are sorted by, where a query asks for an order. Our own.
use Rattle.std.specs.Prelude.{◌≡◌, ℕ, ◌<◌, ℤ, pos, List, slice_index_or}
use Rattle.std.specs.declared.cmp.Ordering.{Ordering}
use Rattle.std.specs.declared.cmp.Reverse.{Reverse}
use Rattle.std.specs.Ordering.{ordering_then, nat_cmp, int_cmp}
use Rattle.cube_model.specs.declared.answer.Line.{Line}
use Rattle.cube_model.specs.declared.answer.Member.TheVariants.{All}
use Rattle.cube_model.specs.declared.answer.Value.TheVariants.{Whole}
use Rattle.cube_model.specs.declared.attr.Attr.{Attr}
use Rattle.cube_model.specs.declared.query.Order.{Order}
use Rattle.cube_model.specs.declared.rows.DimRows.{DimRows}
use Rattle.group_numbers.specs.Columns.{attr_at}
use Rattle.group_numbers.specs.Numbers.{digit_count, group_count, digit_member}

-- a group with the digit of the order's column and the order's value
abbrev pub Rank : Type 0
Rank = ℕ × Reverse ℤ × (ℕ × ℕ)

-- how they compare: by the digit, then falling by the value, then by the number
abbrev pub rank_cmp : Rank → Rank → Ordering
rank_cmp left right =
    ordering_then (ordering_then (nat_cmp left.0 right.0) (int_cmp right.1.0 left.1.0))
    (ordering_then (nat_cmp left.2.0 right.2.0) (nat_cmp left.2.1 right.2.1))

-- the digit and the value are those of the group's line
pub record IsRank (dimensions : DimRows) (columns : List Attr) (order : Order) (line : ℕ × ℕ → Line)
    (rank : Rank) : Type 0 where
  pub digit : rank.0 < digit_count dimensions (attr_at columns order.column)
  pub member : slice_index_or (line rank.2).key order.column All
      ≡ digit_member dimensions (attr_at columns order.column) rank.0
  pub value : slice_index_or (line rank.2).values order.aggregate (Whole (pos 0)) ≡ Whole rank.1.0
  pub below : rank.2.0 < group_count dimensions columns
