-- How a view is printed: its number, and the names of its levels. In the lattice with ship mode a fifth name tells
-- whether it groups by ship mode. Our own.
use Rattle.std.specs.Prelude.{ℕ, Bool, true, false, List, ◌++◌, codes}
use Rattle.std.specs.Fmt.{decimal}
use Rattle.cube_model.specs.declared.attr.Axis.TheVariants.{Customer, Supplier, Part, Date}
use Rattle.lattice.specs.declared.view.View.{View}
use Rattle.lattice.specs.Levels.{level_name}
use Rattle.lattice.specs.Views.{index_of}

-- the name of the fifth axis in a view
abbrev pub mode_name : Bool → List ℕ
mode_name true = codes "shipmode"
mode_name false = codes "ALL"

-- the fifth part, in the lattice that has it
abbrev pub fifth_part : Bool → View → List ℕ
fifth_part true view = codes "|" ++ mode_name view.ship_mode
fifth_part false view = codes ""

-- a view as it is printed, such as: view 59 city|ALL|mfgr|ALL
abbrev pub view_text : Bool → View → List ℕ
view_text ship_modes view =
    codes "view " ++ (decimal (index_of view) ++ (codes " " ++ (level_name Customer view.customer ++ (codes "|"
    ++ (level_name Supplier view.supplier ++ (codes "|" ++ (level_name Part view.part ++ (codes "|"
    ++ (level_name Date view.date ++ fifth_part ship_modes view)))))))))
