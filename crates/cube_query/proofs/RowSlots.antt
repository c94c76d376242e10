-- The slot of the row that has a key.
use Rattle.std.proofs.Common.{◌≡◌, ℕ, List, Option}
use Rattle.cube_model.specs.declared.query.Query.{Query}
use Rattle.cube_model.specs.declared.rows.DimRows.{DimRows}
use Rattle.cube_model.specs.declared.rows.LineOrder.{LineOrder}
use Rattle.lattice.specs.declared.view.View.{View}
use Rattle.cuboid_cells.specs.Cells.{key_as_number}
use Rattle.cuboid_upkeep.specs.Grouping.{HasMembers, key_of}
use Rattle.group_tallies.specs.FoldInvariant.{IsGroupSlot}

-- a row that has the slot of a key
pub record HasSlot (dimensions : DimRows) (modes : List (List ℕ)) (view : View) (query : Query) (entries : List (ℕ × ℕ))
    (number : ℕ) (group_slot : Option ℕ) : Type 0 where
  pub row : LineOrder
  pub members : HasMembers dimensions modes view row
  pub number_is : key_as_number (key_of dimensions modes view row) ≡ number
  pub slot : IsGroupSlot dimensions query entries row group_slot
