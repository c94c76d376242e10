-- The codes of members: each is the place of the member's text among those of its attribute, in the order of their
-- first use by the rows of the dimension. So a code stays when rows are added. A day's code is the place of its row.
-- The code of a ship mode is the place of its text in the list of ship modes, each in the order of its first use. Our
-- layout.
use Rattle.std.specs.Prelude.{ℕ, ◌<◌, Bool, true, false, Option, Some, None, List, [], length}
use Rattle.cube_model.specs.declared.attr.Attr.{Attr}
use Rattle.cube_model.specs.declared.attr.Axis.{Axis}
use Rattle.cube_model.specs.declared.rows.DimRows.{DimRows}
use Rattle.cube_model.specs.Places.{texts_of}
use Rattle.dictionary.specs.Columns.{place_of}
use Rattle.dictionary.specs.Dictionary.{Texts}
use Rattle.dimensions.specs.Columns.{code_at}
use Rattle.dimensions.specs.Shapes.{attr_column}
use Rattle.lattice.specs.declared.level.Level.{Level}
use Rattle.lattice.specs.Levels.{level_attribute}
use Rattle.cuboid_cells.specs.Limits.{all_code}

-- the code of an attribute at a row of its dimension, where the attribute has a column of texts and where it has none
abbrev pub code_in : Option ℕ → DimRows → Attr → ℕ → ℕ
code_in None dimensions attr place = place
code_in (Some column) dimensions attr place = code_at (texts_of dimensions attr) place

-- the code of the member of a level at a row of a dimension; ALL has one for every row
abbrev pub member_code_of : Option Attr → DimRows → ℕ → ℕ
member_code_of None dimensions place = all_code
member_code_of (Some attr) dimensions place = code_in (attr_column attr) dimensions attr place

-- the column of texts that has the members of a level: none for a day, and none for ALL
abbrev pub level_column : Option Attr → Option ℕ
level_column None = None
level_column (Some attr) = attr_column attr

abbrev pub member_code : DimRows → Axis → Level → ℕ → ℕ
member_code dimensions axis level place = member_code_of (level_attribute axis level) dimensions place

-- the code of a ship mode among the modes, where ship modes are grouped; ALL is one for every row
abbrev pub mode_code : Bool → List (List ℕ) → List ℕ → ℕ
mode_code false modes text = all_code
mode_code true modes text = place_of modes text

-- a ship mode is one of the modes, and has a code below that of ALL
pub record IsMode (modes : List (List ℕ)) (text : List ℕ) : Type 0 where
  pub among : place_of modes text < length modes
  pub below : place_of modes text < all_code

-- the modes that are given, if any
abbrev pub modes_of : Option Texts → List (List ℕ)
modes_of None = []
modes_of (Some modes) = modes.texts
