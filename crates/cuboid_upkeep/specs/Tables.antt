-- What leads from a row of a dimension to the code of its member: columns of codes that the dimensions have. Our own.
use Rattle.std.specs.Prelude.{◌≡◌, ℕ, ◌<◌, List, [], ◌∷◌, length, slice_index}
use Rattle.cube_model.specs.declared.attr.Axis.{Axis}
use Rattle.cube_model.specs.declared.rows.DimRows.{DimRows}
use Rattle.cube_model.specs.Places.{row_count_of}
use Rattle.lattice.specs.declared.level.Level.{Level}
use Rattle.lattice.specs.declared.level.Level.TheVariants as level
use Rattle.cuboid_cells.specs.Limits.{all_code}
use Rattle.cuboid_upkeep.specs.Codes.{member_code}
use Rattle.cuboid_upkeep.specs.declared.codes.LevelCodes.{LevelCodes}
use Rattle.cuboid_upkeep.specs.declared.codes.LevelCodes.TheVariants.{Places, Column, Above, Twice}

-- tables lead from a place to a code: what is at the place in the first is the place in the next
abbrev pub Leads : List (List ℕ) → ℕ → ℕ → Type 0
Leads [] place code = place ≡ code
Leads (codes ∷ tables) place code = (place < length codes) × Leads tables (slice_index codes place) code

-- the tables of codes of a level
abbrev pub code_tables : LevelCodes → List (List ℕ)
code_tables Places = []
code_tables (Column codes) = codes.now ∷ []
code_tables (Above lowers codes) = lowers.now ∷ codes.now ∷ []
code_tables (Twice lowest lowers codes) = lowest.now ∷ lowers.now ∷ codes.now ∷ []

-- from each row of a dimension they lead to the code of its member at a level, which is below that of ALL
pub record LeadToMembers (dimensions : DimRows) (axis : Axis) (grouped : Level) (tables : List (List ℕ)) : Type 0 where
  pub leads : (place : ℕ) → place < row_count_of dimensions axis
      → Leads tables place (member_code dimensions axis grouped place)
  pub below : (place : ℕ) → place < row_count_of dimensions axis → member_code dimensions axis grouped place < all_code

-- codes are those of a level of a dimension, if the level has members
abbrev pub AreLevelCodes : DimRows → Axis → Level → LevelCodes → Type 0
AreLevelCodes dimensions axis grouped codes = (grouped ≡ level.All → ⊥)
    → LeadToMembers dimensions axis grouped (code_tables codes)
