-- The columns of a query as group numbers keep them: where the digits of each are in the numbers of groups. Our own.
use Rattle.std.specs.Prelude.{◌≡◌, ℕ, ◌+◌, ◌-◌, ◌*◌, ◌/◌, ◌%◌, ◌<◌, List, length, drop}
use Rattle.std.specs.Prelude.{slice_index_or}
use Rattle.cube_model.specs.declared.attr.Attr.{Attr}
use Rattle.cube_model.specs.declared.attr.Attr.TheVariants.{CustomerCity}
use Rattle.cube_model.specs.declared.rows.DimRows.{DimRows}
use Rattle.group_numbers.specs.MemberRows.{HaveMembers}
use Rattle.group_numbers.specs.Numbers.{digit_count, group_count}
use Rattle.group_numbers.specs.declared.column.Column.{Column}

-- the digit of a number at a weight, one of so many
abbrev pub digit_of : ℕ → ℕ → ℕ → ℕ
digit_of digits weight number = number / weight % digits

-- the number with the highest digit there
abbrev pub with_highest : ℕ → ℕ → ℕ → ℕ
with_highest digits weight number = (number / (digits * weight) * digits + (digits - 1)) * weight + number % weight

-- the attribute of a column. Columns count from 0
abbrev pub attr_at : List Attr → ℕ → Attr
attr_at columns i = slice_index_or columns i CustomerCity

-- how many groups the columns after one can make
abbrev pub weight_at : DimRows → List Attr → ℕ → ℕ
weight_at dimensions columns i = group_count dimensions (drop (i + 1) columns)

-- the column at a place
pub record IsColumnAt (dimensions : DimRows) (columns : List Attr) (i : ℕ) (column : Column) : Type 0 where
  pub attr : column.attr ≡ attr_at columns i
  pub digits : column.digits ≡ digit_count dimensions (attr_at columns i)
  pub weight : column.weight ≡ weight_at dimensions columns i
  pub places : HaveMembers dimensions (attr_at columns i) column.places.items

-- the first of the columns of a query, so many
pub record AreColumns (dimensions : DimRows) (attrs : List Attr) (count : ℕ) (columns : List Column) : Type 0 where
  pub counted : length columns ≡ count
  pub each : (i : ℕ) → i < count → (default : Column) → IsColumnAt dimensions attrs i (slice_index_or columns i default)
