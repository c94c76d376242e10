-- What is kept in memory of a content.
use Rattle.std.specs.Prelude.{◌≡◌, ℕ, List}
use Rattle.cube_model.specs.declared.rows.DimRows.{DimRows}
use Rattle.warehouse_root.specs.Layouts.{layout_number}
use Rattle.warehouse_root.specs.Modes.{AreModes}
use Rattle.warehouse_root.specs.Root.{IsRoot, PlainRoot}
use Rattle.object_store.specs.Content.{Content}
use Rattle.warehouse_objects.specs.Represents.{HasModes, HasRows}
use Rattle.dimensions.specs.Shown.{AreStorable}

-- The dimensions, the ship modes and the root that are kept are those of the content. The dimensions can be stored, and
-- the root keeps the rules.
pub record IsLoaded (c : Content) (rows : DimRows) (modes : List (List ℕ)) (root : PlainRoot) : Type 0 where
  pub layout : c.layout ≡ layout_number root.layout
  pub has_rows : HasRows c rows
  pub storable : AreStorable rows
  pub has_modes : HasModes c root.layout modes
  pub are_modes : AreModes modes
  pub is_root : IsRoot c.root root
