-- The layouts of what is stored on a device. Our layout.
use Rattle.std.specs.Prelude.{ℕ, Bool, true, false}
use Rattle.warehouse_root.specs.declared.layout.Layout.{Layout}
use Rattle.warehouse_root.specs.declared.layout.Layout.TheVariants.{First, Second}

-- the number of a layout on the device
abbrev pub layout_number : Layout → ℕ
layout_number First = 1
layout_number Second = 2

-- how many views there are: one of four levels on each axis, and from the second layout on a ship mode or none
abbrev pub view_count : Layout → ℕ
view_count First = 256
view_count Second = 512

-- ship mode is an axis: from the second layout on
abbrev pub has_modes : Layout → Bool
has_modes First = false
has_modes Second = true

-- how many objects hold dimensions: customers, suppliers, parts and days, and from the second layout on ship modes
abbrev pub dimension_object_count : Layout → ℕ
dimension_object_count First = 4
dimension_object_count Second = 5
