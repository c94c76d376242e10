-- What the definitions mean. Each is proved as the contract of a function of its name.
use Rattle.std.specs.Prelude.{◌≡◌, ◌≤◌, ℕ, ◌-◌, ◌==◌, if◌then◌else◌, Some, List, [], ◌∷◌, ◌++◌, length}
use Rattle.std.specs.List.{range_with_len}
use Rattle.cube_model.specs.declared.attr.Axis.TheVariants.{Customer, Supplier, Part, Date}
use Rattle.cube_model.specs.declared.rows.DimRows.{DimRows}
use Rattle.cube_model.specs.declared.rows.LineOrder.{LineOrder}
use Rattle.object_store.specs.Content.{Content}
use Rattle.object_store.specs.Commit.{ArePuts, committed, created}
use Rattle.column_segment.specs.Segment.{FitColumns, segment_of}
use Rattle.warehouse_root.specs.declared.layout.Layout.{Layout}
use Rattle.warehouse_root.specs.declared.layout.Layout.TheVariants.{First, Second}
use Rattle.lattice.specs.declared.view.View.{View}
use Rattle.lattice.specs.Views.{index_of}
use Rattle.cuboid_cells.specs.Limits.{most_cells}
use Rattle.warehouse_root.specs.Limits.{most_cuboids, most_runs}
use Rattle.warehouse_root.specs.Layouts.{layout_number}
use Rattle.warehouse_root.specs.Modes.{AreModes, modes_id, modes_spelling}
use Rattle.warehouse_root.specs.Objects.{run_id, segment_id}
use Rattle.warehouse_root.specs.Root as roots
use Rattle.warehouse_objects.specs.Facts.{AdmitsBatch}
use Rattle.dimensions.specs.Shown.{AreStorable}
use Rattle.warehouse_objects.specs.Warehouse.{Warehouse, Cuboid, StoredRun, aimed, cell_count, cuboid_at}
use Rattle.warehouse_objects.specs.Warehouse.{dropped_ids, fresh_in, kept, loaded, ship_modes_of, with_views}
use Rattle.warehouse_objects.specs.Represents.{HasModes, HasRows, HoldsGroupings, Represents, dimension_of, root_of}
use Rattle.warehouse_objects.specs.Represents.{run_bytes}

-- the four objects of dimensions, in the order in which a warehouse is made of them
abbrev pub dimension_puts : DimRows → List (ℕ × List ℕ)
dimension_puts rows =
    (1, dimension_of rows Customer) ∷ (2, dimension_of rows Supplier) ∷ (3, dimension_of rows Part)
    ∷ (4, dimension_of rows Date) ∷ []

-- the object that a batch is put as
abbrev pub batch_put : ℕ → List LineOrder → List (ℕ × List ℕ)
batch_put number batch = (segment_id number, segment_of number batch) ∷ []

-- the object of ship modes, as it is put in a layout
abbrev pub modes_put : Layout → List (List ℕ) → List (ℕ × List ℕ)
modes_put First modes = []
modes_put Second modes = (modes_id, modes_spelling modes) ∷ []

-- all that a warehouse of no batch is made of
abbrev pub beginning_puts : Layout → DimRows → List (ℕ × List ℕ)
beginning_puts layout rows = dimension_puts rows ++ modes_put layout []

-- the object of ship modes, where a batch has some that are new
abbrev pub new_modes_put : Warehouse → List LineOrder → List (ℕ × List ℕ)
new_modes_put w batch =
    if length (ship_modes_of (loaded w batch)) == length (ship_modes_of w) then []
    else modes_put w.layout (ship_modes_of (loaded w batch))

-- all that a submit of a batch puts
abbrev pub loading_puts : Warehouse → ℕ → List LineOrder → List (ℕ × List ℕ)
loading_puts w number batch = batch_put number batch ++ new_modes_put w batch

-- a content that was made of storable rows and the first root represents the warehouse of no batch
abbrev pub CreatingRepresents : Type 0
CreatingRepresents = (layout : Layout) (rows : DimRows) → AreStorable rows
    → Represents
    (created (beginning_puts layout rows) (roots.root_spelling (roots.first_root layout)) (layout_number layout))
    (fresh_in layout rows)

-- a commit of an admissible batch and of the root with it makes a content that represents one batch more
abbrev pub LoadingRepresents : Type 0
LoadingRepresents = (c : Content) (w : Warehouse) (number : ℕ) (batch : List LineOrder)
    → Represents c w → AdmitsBatch w number batch → FitColumns batch
    → Represents
    (committed (loading_puts w number batch) [] (roots.root_spelling (root_of (loaded w batch)))
    (layout_number w.layout) c)
    (loaded w batch)

-- a commit of the root with another target makes a content whose cuboids are to hold all batches
abbrev pub AimingRepresents : Type 0
AimingRepresents = (c : Content) (w : Warehouse) → Represents c w
    → Represents (committed [] [] (roots.root_spelling (root_of (aimed w))) (layout_number w.layout) c) (aimed w)

-- the object of a run of a cuboid
abbrev pub run_put : Cuboid → ℕ → StoredRun → List (ℕ × List ℕ)
run_put cuboid number run = (run_id (index_of cuboid.view) number, run_bytes cuboid run) ∷ []

-- the objects of the runs after the first
abbrev pub later_runs : Cuboid → List ℕ
later_runs cuboid = range_with_len (run_id (index_of cuboid.view) 1) (length cuboid.runs - 1)

-- A cuboid of a warehouse may take the place of that of its view: it holds the groupings of its batches, within the
-- limits.
pub record MayReplace (w : Warehouse) (old new : Cuboid) : Type 0 where
  pub stored : cuboid_at (index_of old.view) w.cuboids ≡ Some old
  pub view : new.view ≡ old.view
  pub holds : HoldsGroupings w new
  pub some : 1 ≤ new.mark
  pub within : new.mark ≤ length w.batches
  pub few : length new.runs ≤ most_runs
  pub cells : cell_count new.runs ≤ most_cells

-- a commit of one run more, after those of its cuboid, or in the place of all of them
abbrev pub AppendingRepresents : Type 0
AppendingRepresents = (c : Content) (w : Warehouse) (old new : Cuboid) (run : StoredRun) → Represents c w
    → MayReplace w old new
    → new.runs ≡ old.runs ++ run ∷ []
    → Represents
    (committed (run_put new (length old.runs) run) [] (roots.root_spelling (root_of (kept w new)))
    (layout_number w.layout) c)
    (kept w new)

abbrev pub MergingRepresents : Type 0
MergingRepresents = (c : Content) (w : Warehouse) (old new : Cuboid) (run : StoredRun) → Represents c w
    → MayReplace w old new
    → new.runs ≡ run ∷ []
    → Represents
    (committed (run_put new 0 run) (later_runs old) (roots.root_spelling (root_of (kept w new)))
    (layout_number w.layout) c)
    (kept w new)

-- a commit of the root with the cuboids of some views, that drops the runs of the others
abbrev pub ChoosingRepresents : Type 0
ChoosingRepresents = (c : Content) (w : Warehouse) (views : List View) → Represents c w → length views ≤ most_cuboids
    → Represents
    (committed [] (dropped_ids w views) (roots.root_spelling (root_of (with_views w views))) (layout_number w.layout) c)
    (with_views w views)

-- the objects of storable rows, and those of an admissible batch, are such as a store takes
abbrev pub ObjectsAreStorable : Type 0
ObjectsAreStorable = ((rows : DimRows) → AreStorable rows
    → ArePuts (dimension_puts rows) × ((layout : Layout) → ArePuts (beginning_puts layout rows)))
    × ((c : Content) (w : Warehouse) (number : ℕ) (batch : List LineOrder) → Represents c w → AdmitsBatch w number batch
    → ArePuts (loading_puts w number batch))

-- objects 1 to 4 are the dimensions of one list of rows at most
abbrev pub RowsAreOne : Type 0
RowsAreOne = (c : Content) (rows others : DimRows) → AreStorable rows → AreStorable others → HasRows c rows
    → HasRows c others → rows ≡ others

-- object 5 has the ship modes of the warehouse that a content represents
abbrev pub ModesAreOne : Type 0
ModesAreOne = (c : Content) (w : Warehouse) (modes : List (List ℕ)) → Represents c w → HasModes c w.layout modes
    → AreModes modes → modes ≡ ship_modes_of w

-- a content represents one warehouse at most
abbrev pub ContentIsOneWarehouse : Type 0
ContentIsOneWarehouse = (c : Content) (w v : Warehouse) → Represents c w → Represents c v → w ≡ v
