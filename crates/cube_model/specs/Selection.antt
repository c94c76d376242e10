use Rattle.std.specs.Prelude.{ℕ, Bool, ◌&&◌, nat_le, List}
use Rattle.std.specs.List.{filter, list_any, list_all}
use Rattle.std.specs.Str.{bytes_eq}
use Rattle.std.specs.Ordering.{is_le, nat_cmp}
use Rattle.std.specs.Cmp.Lexicographic.{slice_cmp}
use Rattle.cube_model.specs.declared.query.Cond.{Cond}
use Rattle.cube_model.specs.declared.query.Cond.TheVariants.{OneOf, Between, Quantity, Discount}
use Rattle.cube_model.specs.declared.rows.LineOrder.{LineOrder}
use Rattle.cube_model.specs.declared.rows.DimRows.{DimRows}
use Rattle.cube_model.specs.Attributes.{attribute_of}

-- a text is at or before another by bytes
abbrev pub text_le : List ℕ → List ℕ → Bool
text_le left right = is_le (slice_cmp nat_cmp left right)

-- a condition holds of a fact row
abbrev pub holds_of : DimRows → Cond → LineOrder → Bool
holds_of dimensions (OneOf attr texts) row = list_any (λ text. bytes_eq text (attribute_of dimensions attr row)) texts
holds_of dimensions (Between attr low high) row =
    text_le low (attribute_of dimensions attr row) && text_le (attribute_of dimensions attr row) high
holds_of dimensions (Quantity low high) row = nat_le low row.quantity && nat_le row.quantity high
holds_of dimensions (Discount low high) row = nat_le low row.discount && nat_le row.discount high

-- all conditions hold of a fact row
abbrev pub is_selected : DimRows → List Cond → LineOrder → Bool
is_selected dimensions conditions row = list_all (λ condition. holds_of dimensions condition row) conditions

-- the fact rows of which all conditions hold
abbrev pub selected : DimRows → List Cond → List LineOrder → List LineOrder
selected dimensions conditions rows = filter (is_selected dimensions conditions) rows
