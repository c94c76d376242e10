-- The keys of fact rows, and their numbers in a view that does not group by ship mode. Our own.
use Rattle.std.specs.Prelude.{◌≡◌, ℕ, ◌<◌, true, List, [], length, slice_index, slice_index_or}
use Rattle.cube_model.specs.declared.attr.Axis.{Axis}
use Rattle.cube_model.specs.declared.rows.DimRows.{DimRows}
use Rattle.cube_model.specs.declared.rows.LineOrder.{LineOrder}
use Rattle.group_numbers.specs.Numbers.{IsKnownOn}
use Rattle.group_numbers.specs.Rows.{row_at}
use Rattle.lattice.specs.declared.level.Level.{Level}
use Rattle.lattice.specs.declared.level.Level.TheVariants as level
use Rattle.lattice.specs.declared.view.View.{View}
use Rattle.cuboid_cells.specs.declared.key.Key.{Key}
use Rattle.cuboid_cells.specs.Cells.{IsCodeAt}
use Rattle.cuboid_upkeep.specs.Codes.{IsMode, mode_code}
use Rattle.cuboid_upkeep.specs.Grouping.{code_on}
use Rattle.cuboid_upkeep.specs.Steps.{IsRowKey}
use Rattle.cuboid_upkeep.specs.declared.member_codes.ViewMembers.{ViewMembers}
use Rattle.cuboid_upkeep.specs.Numbers.{LiesIn, key_place, numbers_count}

-- the code of a fact row's member at a level, which the row has
pub record IsAxisCode (dimensions : DimRows) (axis : Axis) (grouped : Level) (row : LineOrder) (code : ℕ) : Type 0 where
  pub is : code ≡ code_on dimensions axis grouped row
  pub at : IsCodeAt grouped code
  pub known : (grouped ≡ level.All → ⊥) → IsKnownOn dimensions row axis

-- the code of a fact row's ship mode among the modes, of which it is one where the view groups by ship mode
pub record IsOwnMode (modes : List (List ℕ)) (view : View) (row : LineOrder) (code : ℕ) : Type 0 where
  pub is : code ≡ mode_code view.ship_mode modes row.shipmode
  pub among : view.ship_mode ≡ true → IsMode modes row.shipmode

-- the key of a fact row, which has its members, each of its first four codes below the count of its axis
pub record IsKeyOfRow (dimensions : DimRows) (modes : List (List ℕ)) (view : View) (members : ViewMembers)
    (row : LineOrder) (key : Key) : Type 0 where
  pub is : IsRowKey dimensions modes view row key
  pub lies : LiesIn members key

-- the keys of the first of some fact rows, so many
pub record AreRowKeys (dimensions : DimRows) (modes : List (List ℕ)) (view : View) (members : ViewMembers)
    (rows : List LineOrder) (count : ℕ) (keys : List Key) : Type 0 where
  pub many : length keys ≡ length rows
  pub each : (place : ℕ) (key : Key) → place < count → place < length keys
      → IsKeyOfRow dimensions modes view members (row_at rows place) (slice_index_or keys place key)

-- the number of the key of a fact row, which has its members
pub record IsNumberOfRow (dimensions : DimRows) (view : View) (members : ViewMembers) (row : LineOrder)
    (number : ℕ) : Type 0 where
  pub key : Key
  pub own : IsKeyOfRow dimensions [] view members row key
  pub is : number ≡ key_place members key
  pub below : number < numbers_count members

-- the numbers of the keys of the first of some fact rows, so many
pub record AreRowNumbers (dimensions : DimRows) (view : View) (members : ViewMembers) (rows : List LineOrder)
    (count : ℕ) (numbers : List ℕ) : Type 0 where
  pub many : length numbers ≡ length rows
  pub each : (place : ℕ) → place < count → place < length numbers
      → IsNumberOfRow dimensions view members (row_at rows place) (slice_index numbers place)
