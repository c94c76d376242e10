-- What the members of a level give to the numbers of the groups of a query, by their codes. Our own.
use Rattle.std.specs.Prelude.{◌≡◌, ℕ, ◌+◌, ◌*◌, ◌<◌, ◌≤◌, ◌==◌, cond, IfSome, Option, Some, None, slice_index_or}
use Rattle.std.specs.Option.{option_map}
use Rattle.cube_model.specs.declared.attr.Axis.{Axis}
use Rattle.cube_model.specs.declared.query.Query.{Query}
use Rattle.cube_model.specs.declared.rows.DimRows.{DimRows}
use Rattle.cube_model.specs.Places.{row_count_of, row_index_of}
use Rattle.group_numbers.specs.Parts.{given_at}
use Rattle.lattice.specs.declared.level.Level.{Level}
use Rattle.cuboid_cells.specs.Limits.{all_code}
use Rattle.cuboid_upkeep.specs.Representatives.{MemberHasCode}
use Rattle.cuboid_upkeep.specs.declared.member_parts.MemberPart.{MemberPart}
use Rattle.cuboid_upkeep.specs.declared.member_parts.MemberPart.TheVariants.{NoMember, Nothing, Part}
use Rattle.cuboid_upkeep.specs.declared.member_parts.MemberParts.{MemberParts}

-- a key, if there is one, is that of a row
abbrev pub IsOfRow : DimRows → Axis → Option ℕ → Type 0
IsOfRow dimensions axis key = IfSome key (λ own. row_index_of dimensions axis own < row_count_of dimensions axis)

-- what the row with a key gives, if there is a key
abbrev pub member_part_by : DimRows → Query → Axis → Option ℕ → Option (Option ℕ)
member_part_by dimensions query axis key =
    option_map (λ own. given_at dimensions query axis (row_index_of dimensions axis own)) key

-- what rows with a member give, if there is a member
abbrev pub given_by : MemberPart → Option (Option ℕ)
given_by NoMember = None
given_by Nothing = Some None
given_by (Part part) = Some (Some part)

-- what those with the member of a code give
abbrev pub part_in : MemberParts → ℕ → Option (Option ℕ)
part_in parts code = given_by (cond (code == all_code) parts.every (slice_index_or parts.members.items code NoMember))

-- what is at the code of a member is what a row with the member gives; there is nothing where no member has the code
abbrev pub IsPartAt : DimRows → Query → Axis → Level → ℕ → Option (Option ℕ) → Type 0
IsPartAt dimensions query axis level code None = (key : ℕ) → MemberHasCode dimensions axis level key code → ⊥
IsPartAt dimensions query axis level code (Some part) =
    (key : ℕ) × MemberHasCode dimensions axis level key code
    × (part ≡ given_at dimensions query axis (row_index_of dimensions axis key))

-- so it is at each code
abbrev pub AreParts : DimRows → Query → Axis → Level → MemberParts → Type 0
AreParts dimensions query axis level parts = (code : ℕ) → IsPartAt dimensions query axis level code (part_in parts code)

-- no rows with the member of a code are selected, if there is a member
abbrev pub IsUnselected : MemberParts → ℕ → Type 0
IsUnselected parts code = (part : ℕ) → part_in parts code ≡ Some (Some part) → ⊥

-- so it is with the codes of an axis in the keys that have numbers from one on and, if there is another, below that.
-- The codes on the axes before it make a number, and the number that those after it make is below a unit
abbrev pub AreUnselected : MemberParts → ℕ → ℕ → ℕ → Option ℕ → Type 0
AreUnselected parts before unit from to = (code rest : ℕ) → code < all_code → rest < unit
    → from ≤ (before + code) * unit + rest
    → IfSome to (λ end. (before + code) * unit + rest < end) → IsUnselected parts code
