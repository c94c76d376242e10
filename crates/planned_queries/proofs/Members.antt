-- Cells over the members of a warehouse.
use Rattle.std.proofs.Common.{◌≡◌, ◌∙◌, ℕ, List, [], arith, refl, sym, subst}
use Rattle.cube_model.specs.declared.rows.DimRows.{DimRows}
use Rattle.cube_model.specs.declared.rows.LineOrder.{LineOrder}
use Rattle.cuboid_cells.specs.Cells.{PlainCells}
use Rattle.cuboid_upkeep.specs.Grouping.{RepresentRows}
use Rattle.lattice.specs.declared.view.View.{View}
use Rattle.warehouse_objects.specs.Represents.{AreItsMembers}
use Rattle.warehouse_objects.specs.Warehouse.{Warehouse, ship_modes_of}

-- no cells represent no rows
pub none_represent : (dimensions : DimRows) (modes : List (List ℕ)) (view : View) (cells : PlainCells)
    → cells ≡ record { view = view; cells = [] } → RepresentRows dimensions modes [] cells
none_represent dimensions modes view cells empty =
    subst (λ (plain : PlainCells). RepresentRows dimensions modes [] plain) (sym empty) (record {
      known = λ k row lt. absurd (omega (arith, lt));
      ascending = λ i j cell before lt. absurd (omega (arith, lt));
      group = λ number. refl;
    })

-- cells over the members of a warehouse, by other names of these
pub by_members : (w : Warehouse) (dimensions : DimRows) (modes texts : List (List ℕ)) (rows : List LineOrder)
    (cells : PlainCells) → AreItsMembers w dimensions modes → texts ≡ modes
    → RepresentRows w.rows (ship_modes_of w) rows cells → RepresentRows dimensions texts rows cells
by_members w dimensions modes texts rows cells are same represent =
    subst (λ (m : List (List ℕ)). RepresentRows dimensions m rows cells) (sym (same ∙ are.modes))
    (subst (λ (d : DimRows). RepresentRows d (ship_modes_of w) rows cells) (sym are.rows) represent)
