-- What a warehouse is, apart from how it is stored. Our own.
use Rattle.std.specs.Prelude.{◌≡◌, ℕ, ◌+◌, ◌==◌, if◌then◌else◌, Bool, not, Option, None, Some, List, [], ◌∷◌}
use Rattle.std.specs.Prelude.{◌++◌, length, map, take, slice_get}
use Rattle.std.specs.List.{filter, find, flat_map, list_any, range_with_len, sum_by}
use Rattle.cube_model.specs.declared.rows.DimRows.{DimRows}
use Rattle.cube_model.specs.declared.rows.LineOrder.{LineOrder}
use Rattle.cube_model.specs.Admission.{IsAdmissible, all_rows}
use Rattle.column_segment.specs.Segment.{FitColumns}
use Rattle.lattice.specs.declared.view.View.{View}
use Rattle.lattice.specs.Views.{index_of, lattice}
use Rattle.cuboid_cells.specs.declared.cell.Cell.{Cell}
use Rattle.cuboid_cells.specs.declared.span.Span.{Span}
use Rattle.warehouse_root.specs.declared.layout.Layout.{Layout}
use Rattle.warehouse_root.specs.declared.layout.Layout.TheVariants.{First, Second}
use Rattle.warehouse_root.specs.Layouts.{has_modes}
use Rattle.warehouse_root.specs.Modes.{kept_modes}
use Rattle.warehouse_root.specs.Objects.{run_id}

-- a run of cells of a stored cuboid, over some batches one after the other
pub record StoredRun : Type 0 where
  pub span : Span
  pub cells : List Cell

-- a stored cuboid: cells of a view, in runs of which each goes on where the one before ends
pub record Cuboid : Type 0 where
  pub view : View
  -- how many of the first batches its runs hold together
  pub mark : ℕ
  pub runs : List StoredRun

pub record Warehouse : Type 0 where
  pub layout : Layout
  -- the rows of the four dimensions
  pub rows : DimRows
  -- the rows of each batch, the first batch first
  pub batches : List (List LineOrder)
  -- how many of the first batches each stored cuboid is to hold
  pub target : ℕ
  -- how often rows were added to dimensions
  pub additions : ℕ
  -- by ascending view
  pub cuboids : List Cuboid

-- the ship modes that a warehouse keeps: from the second layout on those of its batches, in the order of first use.
-- Their places are the fifth codes of cells
abbrev pub ship_modes_of : Warehouse → List (List ℕ)
ship_modes_of w = kept_modes w.layout (all_rows w.batches)

-- how many cells runs have together
abbrev pub cell_count : List StoredRun → ℕ
cell_count runs = sum_by (λ run. length run.cells) runs

-- a warehouse of no batch in a layout
abbrev pub fresh_in : Layout → DimRows → Warehouse
fresh_in layout rows =
    record { layout = layout; rows = rows; batches = []; target = 0; additions = 0; cuboids = [] }

-- the same in the first layout
abbrev pub fresh : DimRows → Warehouse
fresh rows = fresh_in First rows

-- with one batch more
abbrev pub loaded : Warehouse → List LineOrder → Warehouse
loaded w batch = record w { batches = w.batches ++ batch ∷ [] }

-- in the second layout
abbrev pub migrated : Warehouse → Warehouse
migrated w = record w { layout = Second }

-- each stored cuboid is to hold all batches
abbrev pub aimed : Warehouse → Warehouse
aimed w = record w { target = length w.batches }

-- a cuboid in the place of that of its view
abbrev pub put_cuboid : Cuboid → List Cuboid → List Cuboid
put_cuboid cuboid cuboids = map (λ other. if index_of other.view == index_of cuboid.view then cuboid else other) cuboids

abbrev pub kept : Warehouse → Cuboid → Warehouse
kept w cuboid = record w { cuboids = put_cuboid cuboid w.cuboids }

-- the stored cuboid of the view of a number
abbrev pub cuboid_at : ℕ → List Cuboid → Option Cuboid
cuboid_at number cuboids = find (λ cuboid. index_of cuboid.view == number) cuboids

-- whether the view of a number is among some
abbrev pub is_among : List View → ℕ → Bool
is_among views number = list_any (λ view. index_of view == number) views

-- the views of a layout that are among some, each once, by their numbers
unfoldable pub views_in_order : Layout → List View → List View
views_in_order layout views = filter (λ view. is_among views (index_of view)) (lattice (has_modes layout))

-- a stored cuboid of a view as it is, or one that holds no batch
abbrev pub kept_of : View → Option Cuboid → Cuboid
kept_of view None = record { view = view; mark = 0; runs = [] }
kept_of view (Some cuboid) = cuboid

-- with the cuboids of some views, and no others: one that is stored stays as it is, another one holds no batch
abbrev pub with_views : Warehouse → List View → Warehouse
with_views w views = record w {
  target = 0;
  cuboids = map (λ view. kept_of view (cuboid_at (index_of view) w.cuboids)) (views_in_order w.layout views);
}

-- the ids of the runs that go then: those of the stored cuboids of other views
abbrev pub dropped_ids : Warehouse → List View → List ℕ
dropped_ids w views =
    flat_map (λ cuboid. range_with_len (run_id (index_of cuboid.view) 0) (length cuboid.runs))
    (filter (λ cuboid. not (is_among views (index_of cuboid.view))) w.cuboids)

-- a batch that may follow others: it is admissible after them, and its numbers fit their columns
pub record IsNext (rows : DimRows) (batches : List (List LineOrder)) (batch : List LineOrder) : Type 0 where
  pub admissible : IsAdmissible rows batches (length batches + 1) batch
  pub fits : FitColumns batch

-- each batch may follow those before it
abbrev pub AreInOrder : DimRows → List (List LineOrder) → Type 0
AreInOrder rows batches = (before : ℕ) (batch : List LineOrder) → slice_get batches before ≡ Some batch
    → IsNext rows (take before batches) batch
