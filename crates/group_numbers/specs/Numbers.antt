-- The groups of a query by numbers. The ranks of a group's members are the digits of its number, the first column's the
-- highest. ALL is the digit after those of a column's members, so that keys rise with their numbers. Our own.
use Rattle.std.specs.Prelude.{◌≡◌, ℕ, ◌+◌, ◌*◌, ◌/◌, ◌%◌, ◌<◌, nat_lt, true, false, cond, Option, Some, None, List, []}
use Rattle.std.specs.Prelude.{◌∷◌, map, length, slice_index_or}
use Rattle.std.specs.declared.cmp.Ordering.TheVariants.{Less}
use Rattle.cube_model.specs.declared.answer.Member.{Member}
use Rattle.cube_model.specs.declared.answer.Member.TheVariants.{All, Text}
use Rattle.cube_model.specs.declared.attr.Attr.{Attr}
use Rattle.cube_model.specs.declared.attr.Axis.{Axis}
use Rattle.cube_model.specs.declared.query.Query.{Query}
use Rattle.cube_model.specs.declared.rows.DimRows.{DimRows}
use Rattle.cube_model.specs.declared.rows.LineOrder.{LineOrder}
use Rattle.cube_model.specs.Attributes.{key_on}
use Rattle.cube_model.specs.Keys.{key_cmp, key_under}
use Rattle.cube_model.specs.Places.{attr_members, row_index_of, row_count_of}
use Rattle.cube_model.specs.Selection.{is_selected}

-- how many digits a column has: one for each member, and one for ALL
abbrev pub digit_count : DimRows → Attr → ℕ
digit_count dimensions column = length (attr_members dimensions column) + 1

-- how many groups the digits of some columns can make
abbrev pub group_count : DimRows → List Attr → ℕ
group_count dimensions [] = 1
group_count dimensions (column ∷ columns) = digit_count dimensions column * group_count dimensions columns

-- what a digit of a column means
abbrev pub digit_member : DimRows → Attr → ℕ → Member
digit_member dimensions column digit =
    cond (nat_lt digit (length (attr_members dimensions column)))
    (Text (slice_index_or (attr_members dimensions column) digit [])) All

-- the key of the group with a number
abbrev pub group_key_at : DimRows → List Attr → ℕ → List Member
group_key_at dimensions [] number = []
group_key_at dimensions (column ∷ columns) number =
    digit_member dimensions column (number / group_count dimensions columns)
    ∷ group_key_at dimensions columns (number % group_count dimensions columns)

-- keys rise with their numbers
abbrev pub KeysRise : DimRows → List Attr → Type 0
KeysRise dimensions columns = (c d : ℕ) → c < d → d < group_count dimensions columns
    → key_cmp (group_key_at dimensions columns c) (group_key_at dimensions columns d) ≡ Less

-- the number of a fact row's group: none where the row is not selected
abbrev pub IsGroupNumber : DimRows → Query → LineOrder → Option ℕ → Type 0
IsGroupNumber dimensions query row None = is_selected dimensions query.conditions row ≡ false
IsGroupNumber dimensions query row (Some number) = (is_selected dimensions query.conditions row ≡ true)
    × (number < group_count dimensions query.columns)
    × (group_key_at dimensions query.columns number ≡ key_under dimensions row query.columns
    (map (λ _. true) query.columns))

-- the key of a fact row in a dimension is that of a row there
abbrev pub IsKnownOn : DimRows → LineOrder → Axis → Type 0
IsKnownOn dimensions row axis = row_index_of dimensions axis (key_on axis row) < row_count_of dimensions axis

-- each key of a fact row is
abbrev pub IsKnown : DimRows → LineOrder → Type 0
IsKnown dimensions row = (axis : Axis) → IsKnownOn dimensions row axis

-- a query and the dimensions over which it is asked
pub record Asked : Type 0 where
  pub dimensions : DimRows
  pub query : Query
