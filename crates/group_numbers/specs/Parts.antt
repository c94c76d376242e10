-- What the row at a place of a dimension says of a query: whether its conditions hold there, and what it adds to the
-- number of a group. Our own.
use Rattle.std.specs.Prelude.{◌≡◌, ℕ, ◌+◌, ◌*◌, ◌&&◌, ◌||◌, nat_le, Bool, true, false, if◌then◌else◌, Option, Some}
use Rattle.std.specs.Prelude.{None, List, [], ◌∷◌}
use Rattle.std.specs.List.{list_any, list_all, position_or_len, sum_by}
use Rattle.std.specs.Str.{bytes_eq}
use Rattle.cube_model.specs.declared.attr.Attr.{Attr}
use Rattle.cube_model.specs.declared.attr.Axis.{Axis}
use Rattle.cube_model.specs.declared.attr.Axis.TheVariants.{Customer, Supplier, Part, Date}
use Rattle.cube_model.specs.declared.query.Cond.{Cond}
use Rattle.cube_model.specs.declared.query.Cond.TheVariants.{OneOf, Between, Quantity, Discount}
use Rattle.cube_model.specs.declared.query.Query.{Query}
use Rattle.cube_model.specs.declared.rows.DimRows.{DimRows}
use Rattle.cube_model.specs.declared.rows.LineOrder.{LineOrder}
use Rattle.cube_model.specs.Attributes.{axis_of, key_on}
use Rattle.cube_model.specs.Places.{attr_members, row_index_of, text_at}
use Rattle.cube_model.specs.Selection.{text_le}
use Rattle.group_numbers.specs.Numbers.{IsKnownOn, group_count}
use Rattle.group_numbers.specs.declared.digits.Digit.{Digit}

-- two dimensions are one
abbrev pub is_same : Axis → Axis → Bool
is_same Customer Customer = true
is_same Supplier Supplier = true
is_same Part Part = true
is_same Date Date = true
is_same _ _ = false

-- a condition on a dimension holds at a place of it. Conditions on anything else say nothing there
abbrev pub holds_at : DimRows → Axis → ℕ → Cond → Bool
holds_at dimensions axis place (OneOf attr texts) =
    if is_same (axis_of attr) axis then list_any (λ text. bytes_eq text (text_at dimensions attr place)) texts else true
holds_at dimensions axis place (Between attr low high) =
    if is_same (axis_of attr) axis then text_le low (text_at dimensions attr place) && text_le
    (text_at dimensions attr place) high else true
holds_at dimensions axis place (Quantity low high) = true
holds_at dimensions axis place (Discount low high) = true

-- a condition on a number of a fact row holds. Conditions on texts say nothing here
abbrev pub holds_in : LineOrder → Cond → Bool
holds_in row (OneOf attr texts) = true
holds_in row (Between attr low high) = true
holds_in row (Quantity low high) = nat_le low row.quantity && nat_le row.quantity high
holds_in row (Discount low high) = nat_le low row.discount && nat_le row.discount high

-- the rank of the text at a place among the members of its attribute
abbrev pub rank_at : DimRows → Attr → ℕ → ℕ
rank_at dimensions attr place =
    position_or_len (λ text. bytes_eq text (text_at dimensions attr place)) (attr_members dimensions attr)

-- what a place adds to the number of a group: at each column of its dimension the rank there, at that column's digit
abbrev pub part_at : DimRows → Axis → ℕ → List Attr → ℕ
part_at dimensions axis place [] = 0
part_at dimensions axis place (column ∷ columns) =
    (if is_same (axis_of column) axis then rank_at dimensions column place * group_count dimensions columns else 0)
    + part_at dimensions axis place columns

-- the digits that a dimension has in the numbers of groups: for each of its columns, in order, what a rank there counts
abbrev pub digits_on : DimRows → Axis → List Attr → List Digit
digits_on dimensions axis [] = []
digits_on dimensions axis (column ∷ columns) =
    if is_same (axis_of column) axis
    then record { attr = column; weight = group_count dimensions columns } ∷ digits_on dimensions axis columns
    else digits_on dimensions axis columns

-- what a place adds to the number of a group by some digits: the rank there at each of them
abbrev pub part_by : DimRows → ℕ → List Digit → ℕ
part_by dimensions place digits = sum_by (λ digit. rank_at dimensions digit.attr place * digit.weight) digits

-- what a place gives: nothing where a condition does not hold
abbrev pub given_at : DimRows → Query → Axis → ℕ → Option ℕ
given_at dimensions query axis place =
    if list_all (holds_at dimensions axis place) query.conditions then Some
    (part_at dimensions axis place query.columns) else None

-- what the dimension row with the key of a fact row gives
abbrev pub given_on : DimRows → Query → LineOrder → Axis → Option ℕ
given_on dimensions query row axis = given_at dimensions query axis (row_index_of dimensions axis (key_on axis row))

-- a condition is on a dimension
abbrev pub is_on : Axis → Cond → Bool
is_on axis (OneOf attr texts) = is_same (axis_of attr) axis
is_on axis (Between attr low high) = is_same (axis_of attr) axis
is_on axis (Quantity low high) = false
is_on axis (Discount low high) = false

-- a column or a condition of a query is on a dimension
abbrev pub is_used : Query → Axis → Bool
is_used query axis = list_any (λ column. is_same (axis_of column) axis) query.columns || list_any (is_on axis)
    query.conditions

-- the keys of a fact row are known in the dimensions that a query uses
abbrev pub IsKnownFor : DimRows → Query → LineOrder → Type 0
IsKnownFor dimensions query row = (axis : Axis) → is_used query axis ≡ true → IsKnownOn dimensions row axis

-- room for the numbers of groups by some columns, at 65,536 for each
abbrev pub number_room_of : List Attr → ℕ
number_room_of [] = 1
number_room_of (column ∷ columns) = 65536 * number_room_of columns
