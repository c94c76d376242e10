-- What the content of a store represents. The ids of objects and what they hold are our layout.
use Rattle.std.specs.Prelude.{◌≡◌, ◌<◌, ◌≤◌, ℕ, ◌+◌, ◌-◌, ◌/◌, ◌%◌, ◌==◌, nat_lt, if◌then◌else◌, Option, Some, None}
use Rattle.std.specs.Prelude.{is_some, IsTrue, List, [], ◌∷◌, length, map, slice_get, take, drop, All}
use Rattle.std.specs.List.{AllPairs, filter, find, range_with_len}
use Rattle.std.specs.Option.{option_map}
use Rattle.cube_model.specs.declared.attr.Axis.{Axis}
use Rattle.cube_model.specs.declared.attr.Axis.TheVariants.{Customer, Supplier, Part, Date}
use Rattle.cube_model.specs.declared.rows.DimRows.{DimRows}
use Rattle.cube_model.specs.declared.rows.LineOrder.{LineOrder}
use Rattle.cube_model.specs.Admission.{all_rows}
use Rattle.object_store.specs.Content.{Content, bytes_of}
use Rattle.column_segment.specs.Segment.{segment_of}
use Rattle.dimensions.specs.Shown.{rows_on}
use Rattle.dimension_objects.specs.Spelled.{dimension_spelling}
use Rattle.batch_admission.specs.Totals.{totals_of}
use Rattle.lattice.specs.declared.view.View.{View}
use Rattle.lattice.specs.Views.{index_of}
use Rattle.cuboid_cells.specs.declared.span.Span.{Span}
use Rattle.cuboid_cells.specs.Cells.{AreProperCells}
use Rattle.cuboid_cells.specs.Spelled.{IsSpan, run_of}
use Rattle.cuboid_cells.specs.Steps.{cells_of}
use Rattle.cuboid_upkeep.specs.Grouping.{RepresentRows}
use Rattle.warehouse_root.specs.declared.cuboid.StoredCuboid.{StoredCuboid}
use Rattle.warehouse_root.specs.declared.layout.Layout.{Layout}
use Rattle.warehouse_root.specs.declared.layout.Layout.TheVariants.{First, Second}
use Rattle.warehouse_root.specs.Layouts.{layout_number, view_count}
use Rattle.warehouse_root.specs.Modes.{AreModes, modes_id, modes_spelling}
use Rattle.warehouse_root.specs.Objects.{object_ids, run_id, segment_id}
use Rattle.warehouse_root.specs.Root.{IsRoot, PlainRoot}
use Rattle.dimensions.specs.Shown.{AreStorable}
use Rattle.warehouse_objects.specs.Warehouse.{Warehouse, AreInOrder, Cuboid, StoredRun, cell_count}
use Rattle.warehouse_objects.specs.Warehouse.{cuboid_at, is_among, ship_modes_of}

-- the bytes of the rows of a dimension
abbrev pub dimension_of : DimRows → Axis → List ℕ
dimension_of rows axis = dimension_spelling axis (rows_on rows axis)

-- the bytes of the batch that has so many before it: batches count from 1
abbrev pub segment_after : ℕ → List (List LineOrder) → Option (List ℕ)
segment_after before batches = option_map (segment_of (before + 1)) (slice_get batches before)

-- the bytes of a run of a cuboid
abbrev pub run_bytes : Cuboid → StoredRun → List ℕ
run_bytes cuboid run = run_of run.span (cells_of cuboid.view run.cells)

-- the bytes of the run of a number
abbrev pub run_in : Option Cuboid → ℕ → Option (List ℕ)
run_in None run = None
run_in (Some cuboid) run = option_map (run_bytes cuboid) (slice_get cuboid.runs run)

-- the run that is so far after the first one of view 0: each view has sixteen places
abbrev pub run_after : ℕ → List Cuboid → Option (List ℕ)
run_after place cuboids = run_in (cuboid_at (place / 16) cuboids) (place % 16)

-- the object of ship modes, which the first layout lacks
abbrev pub modes_object : Layout → List (List ℕ) → Option (List ℕ)
modes_object First modes = None
modes_object Second modes = Some (modes_spelling modes)

-- The object that a warehouse has at an id: 1 to 4 are the dimensions, 5 the ship modes, 65,536 + b is the segment of
-- batch b, and 131,072 + 16 v + r run r of the cuboid of view v.
abbrev pub object_of : Warehouse → ℕ → Option (List ℕ)
object_of w id =
    if id == 1 then Some (dimension_of w.rows Customer)
    else (if id == 2 then Some (dimension_of w.rows Supplier)
    else (if id == 3 then Some (dimension_of w.rows Part)
    else (if id == 4 then Some (dimension_of w.rows Date)
    else (if id == modes_id then modes_object w.layout (ship_modes_of w)
    else (if nat_lt id (segment_id 1) then None
    else (if nat_lt id (run_id 0 0) then segment_after (id - segment_id 1) w.batches else run_after (id - run_id 0 0)
    w.cuboids))))))

-- what the root says of a cuboid
abbrev pub said_of : Cuboid → StoredCuboid
said_of cuboid =
    record {
      view = index_of cuboid.view;
      runs = length cuboid.runs;
      mark = cuboid.mark;
      cells = cell_count cuboid.runs;
    }

-- what the root says of a warehouse
abbrev pub root_of : Warehouse → PlainRoot
root_of w = record {
  layout = w.layout;
  batches = map length w.batches;
  target = w.target;
  additions = w.additions;
  totals = totals_of (all_rows w.batches);
  cuboids = map said_of w.cuboids;
}

-- the numbers below a count of which there is a view among some
unfoldable pub numbers_among : List View → ℕ → List ℕ
numbers_among views count = filter (is_among views) (range_with_len 0 count)

-- what a root says of the cuboid of a number: what it said before, or that it holds no batch
abbrev pub said_or_new : ℕ → Option StoredCuboid → StoredCuboid
said_or_new number None = record { view = number; runs = 0; mark = 0; cells = 0 }
said_or_new number (Some cuboid) = cuboid

-- what a root says of the cuboids of the views below a count that are among some, by what it said before
abbrev pub said_below : ℕ → List View → List StoredCuboid → List StoredCuboid
said_below count views cuboids = map (λ number. said_or_new number (find (λ cuboid. cuboid.view == number) cuboids))
    (numbers_among views count)

-- the same of all views of a layout
abbrev pub said_with : Layout → List View → List StoredCuboid → List StoredCuboid
said_with layout views cuboids = said_below (view_count layout) views cuboids

-- the fact rows of the batches of a span
abbrev pub rows_in : List (List LineOrder) → Span → List LineOrder
rows_in batches span = all_rows (drop span.from (take span.to batches))

-- runs follow each other from one batch to another
abbrev pub Follow : ℕ → List StoredRun → ℕ → Type 0
Follow from [] mark = mark ≡ from
Follow from (run ∷ runs) mark = (run.span.from ≡ from) × Follow run.span.to runs mark

-- a cuboid is laid out by the rules, whatever its cells are
pub record IsLaid (w : Warehouse) (cuboid : Cuboid) : Type 0 where
  pub follow : Follow 0 cuboid.runs cuboid.mark
  pub spans : All (λ run. IsSpan run.span) cuboid.runs
  pub proper : All (λ run. AreProperCells (cells_of cuboid.view run.cells)) cuboid.runs

-- and each of its runs is the grouping of its batches by the view
pub record HoldsGroupings (w : Warehouse) (cuboid : Cuboid) : Type 0 where
  pub laid : IsLaid w cuboid
  pub groupings : All
      (λ run. RepresentRows w.rows (ship_modes_of w) (rows_in w.batches run.span) (cells_of cuboid.view run.cells))
      cuboid.runs

-- The content is that of the warehouse, whose stored cuboids keep something.
pub record RepresentsWith (Keeps : Warehouse → Cuboid → Type 0) (c : Content) (w : Warehouse) : Type 0 where
  -- each object is as the warehouse has it
  pub objects : (id : ℕ) → bytes_of c id ≡ object_of w id
  -- and none is there twice
  pub once : AllPairs (λ one other. one.0 < other.0) c.objects
  pub layout : c.layout ≡ layout_number w.layout
  -- the root says what the warehouse is, and keeps the rules of roots
  pub root : IsRoot c.root (root_of w)
  pub rows : AreStorable w.rows
  pub batches : AreInOrder w.rows w.batches
  pub modes : AreModes (ship_modes_of w)
  pub cuboids : All (Keeps w) w.cuboids

-- the content represents the warehouse
abbrev pub Represents : Content → Warehouse → Type 0
Represents = RepresentsWith HoldsGroupings

-- the same, whatever the cells of its cuboids are
abbrev pub IsLaidOut : Content → Warehouse → Type 0
IsLaidOut = RepresentsWith IsLaid

-- objects 1 to 4 of a content are the dimensions
pub record HasRows (c : Content) (rows : DimRows) : Type 0 where
  pub customers : bytes_of c 1 ≡ Some (dimension_of rows Customer)
  pub suppliers : bytes_of c 2 ≡ Some (dimension_of rows Supplier)
  pub parts : bytes_of c 3 ≡ Some (dimension_of rows Part)
  pub dates : bytes_of c 4 ≡ Some (dimension_of rows Date)

-- the object of ship modes of a content in a layout
abbrev pub HasModes : Content → Layout → List (List ℕ) → Type 0
HasModes c First modes = modes ≡ []
HasModes c Second modes = bytes_of c modes_id ≡ Some (modes_spelling modes)

-- dimension rows and ship modes are those of a warehouse
pub record AreItsMembers (w : Warehouse) (dimensions : DimRows) (ship_modes : List (List ℕ)) : Type 0 where
  pub rows : dimensions ≡ w.rows
  pub modes : ship_modes ≡ ship_modes_of w

-- the content has just the objects that a root asks for: each of them, and no more than these
pub record HasItsObjects (c : Content) (root : PlainRoot) : Type 0 where
  pub each : All (λ id. IsTrue (is_some (bytes_of c id))) (object_ids root)
  pub few : length c.objects ≤ length (object_ids root)
