-- The codes of the members that the rows of dimensions have at the levels of a view. Our own.
use Rattle.std.specs.Prelude.{◌≡◌, ℕ, ◌<◌, List, length, slice_index}
use Rattle.cube_model.specs.declared.attr.Axis.{Axis}
use Rattle.cube_model.specs.declared.attr.Axis.TheVariants.{Customer, Supplier, Part, Date}
use Rattle.cube_model.specs.declared.rows.DimRows.{DimRows}
use Rattle.cube_model.specs.Places.{row_count_of}
use Rattle.lattice.specs.declared.level.Level.{Level}
use Rattle.lattice.specs.declared.level.Level.TheVariants as level
use Rattle.lattice.specs.declared.view.View.{View}
use Rattle.cuboid_cells.specs.Limits.{all_code}
use Rattle.cuboid_upkeep.specs.Codes.{member_code}
use Rattle.cuboid_upkeep.specs.declared.member_codes.MemberCodes.{MemberCodes}
use Rattle.cuboid_upkeep.specs.declared.member_codes.ViewMembers.{ViewMembers}

-- at the index of a row of a dimension is the code of its member at a level, which is below that of ALL
pub record HasCodeAt (dimensions : DimRows) (axis : Axis) (grouped : Level) (codes : List ℕ) (place : ℕ) : Type 0 where
  pub within : place < length codes
  pub is : slice_index codes place ≡ member_code dimensions axis grouped place
  pub below : member_code dimensions axis grouped place < all_code

-- the same at the index of each row
abbrev pub HaveCodes : DimRows → Axis → Level → List ℕ → Type 0
HaveCodes dimensions axis grouped codes = (place : ℕ) → place < row_count_of dimensions axis
    → HasCodeAt dimensions axis grouped codes place

-- the codes of a level, if it has members, and a count that is above each of them
pub record AreCodesAt (dimensions : DimRows) (axis : Axis) (grouped : Level) (members : MemberCodes) : Type 0 where
  pub some : 0 < members.count
  pub each : (grouped ≡ level.All → ⊥) → HaveCodes dimensions axis grouped members.codes.items
  pub above : (place : ℕ) → place < length members.codes.items → slice_index members.codes.items place < members.count

-- those of the levels by which a view groups
pub record AreMembersOf (dimensions : DimRows) (view : View) (members : ViewMembers) : Type 0 where
  pub customers : AreCodesAt dimensions Customer view.customer members.customers
  pub suppliers : AreCodesAt dimensions Supplier view.supplier members.suppliers
  pub parts : AreCodesAt dimensions Part view.part members.parts
  pub dates : AreCodesAt dimensions Date view.date members.dates
