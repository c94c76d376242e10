-- What a submit puts, made ready. Our own.
use Rattle.std.specs.Prelude.{◌≡◌, ◌≢◌, ◌⊎◌, ℕ, ◌+◌, ◌≤◌, Option, None, Some, Ok, Err, Result, List, [], ◌∷◌, ◌++◌}
use Rattle.std.specs.Prelude.{length, IfSome}
use Rattle.cube_model.specs.declared.fault.Fault.{Fault}
use Rattle.cube_model.specs.declared.fault.Fault.TheVariants.{Memory}
use Rattle.cube_model.specs.declared.fault.MemberPlace.TheVariants.{InBatch}
use Rattle.cube_model.specs.declared.rows.LineOrder.{LineOrder}
use Rattle.cube_model.specs.Admission.{IsAdmissible, all_rows, refusal}
use Rattle.cube_model.specs.Limits.{most_batches}
use Rattle.cube_model.specs.ShipModes.{modes_cause, modes_in}
use Rattle.column_segment.specs.Segment.{FitColumns, IsBatch, segment_of}
use Rattle.batch_admission.specs.Totals.{totals_of}
use Rattle.warehouse_root.specs.declared.layout.Layout.{Layout}
use Rattle.warehouse_root.specs.declared.layout.Layout.TheVariants.{First, Second}
use Rattle.cube_model.specs.declared.totals.Totals.{Totals}
use Rattle.warehouse_root.specs.Modes.{AreModes, kept_modes, modes_id, modes_spelling}
use Rattle.warehouse_root.specs.Objects.{segment_id}
use Rattle.warehouse_root.specs.Root.{IsRoot, PlainRoot}
use Rattle.warehouse_objects.specs.Represents.{root_of}
use Rattle.warehouse_objects.specs.Facts.{AdmitsBatch, PassesChecks, refusal_of}
use Rattle.warehouse_objects.specs.Warehouse.{Warehouse, loaded, ship_modes_of}
use Rattle.warehouse.specs.declared.prepared.MoreModes.{MoreModes}
use Rattle.warehouse.specs.declared.prepared.Prepared.{Prepared}

-- rows with a number may be put as a segment after so many batches
pub record MayFollow (batches number : ℕ) (rows : List LineOrder) : Type 0 where
  pub next : number ≡ batches + 1
  pub few : number ≤ most_batches
  pub batch : IsBatch rows

-- ship modes that can be put: only the second layout does, and they have these bytes
pub record CanBePut (layout : Layout) (more : MoreModes) : Type 0 where
  pub second : layout ≡ Second
  pub are : AreModes more.modes
  pub bytes : more.bytes.items ≡ modes_spelling more.modes

-- the object of ship modes, where there are more
abbrev pub more_put : Option MoreModes → List (ℕ × List ℕ)
more_put None = []
more_put (Some more) = (modes_id, more.bytes.items) ∷ []

-- all that a submit puts
abbrev pub prepared_puts : ℕ → Prepared → List (ℕ × List ℕ)
prepared_puts number p = (segment_id number, p.segment.items) ∷ more_put p.more

-- the segment of a batch, and a root of the layout of another, with its bytes
pub record IsPrepared (root : PlainRoot) (number : ℕ) (rows : List LineOrder) (p : Prepared) : Type 0 where
  pub follows : MayFollow (length root.batches) number rows
  pub fits : FitColumns rows
  pub segment : p.segment.items ≡ segment_of number rows
  pub more : IfSome p.more (CanBePut root.layout)
  pub of_layout : p.root.layout ≡ root.layout
  pub spelled : IsRoot p.root_bytes.items p.root

-- Of a batch that may follow those of a warehouse, whatever its ship modes are, the totals with it are answered, and
-- else the first cause to refuse it.
abbrev pub Admitted : Warehouse → ℕ → List LineOrder → Result Totals Fault → Type 0
Admitted w number rows (Ok totals) =
    IsAdmissible w.rows w.batches number rows × (totals ≡ totals_of (all_rows (w.batches ++ rows ∷ [])))
Admitted w number rows (Err fault) = refusal w.rows w.batches number rows ≡ Some fault

-- the ship modes of a warehouse with those of a batch, where there are more
abbrev pub AreMore : Warehouse → List LineOrder → Option MoreModes → Type 0
AreMore w rows None = length (ship_modes_of (loaded w rows)) ≡ length (ship_modes_of w)
AreMore w rows (Some more) = (length (ship_modes_of (loaded w rows)) ≢ length (ship_modes_of w))
    × (more.modes ≡ ship_modes_of (loaded w rows))

-- no ship mode of a batch is a cause to refuse it, where a layout has such causes
abbrev pub HasFitModes : Layout → List (List LineOrder) → List LineOrder → Type 0
HasFitModes First batches rows = Unit {0}
HasFitModes Second batches rows = modes_cause InBatch (modes_in (all_rows batches)) (modes_in rows) ≡ None

-- fact rows are put after others: whether there are more ship modes then, and whether one is a cause to refuse them
abbrev pub AddsModes : List LineOrder → List LineOrder → Result (Option MoreModes) Fault → Type 0
AddsModes earlier rows (Ok None) = (modes_cause InBatch (modes_in earlier) (modes_in rows) ≡ None)
    × (length (kept_modes Second (earlier ++ rows)) ≡ length (kept_modes Second earlier))
AddsModes earlier rows (Ok (Some more)) = (modes_cause InBatch (modes_in earlier) (modes_in rows) ≡ None)
    × (length (kept_modes Second (earlier ++ rows)) ≢ length (kept_modes Second earlier))
    × (more.modes ≡ kept_modes Second (earlier ++ rows))
AddsModes earlier rows (Err fault) =
    (fault ≡ Memory) ⊎ (modes_cause InBatch (modes_in earlier) (modes_in rows) ≡ Some fault)

-- Of a batch that may follow those of a warehouse, its sums apart, the ship modes with its own are answered. Else it is
-- the first cause to refuse it, or there is no memory, which is taken in the second layout alone.
abbrev pub ChecksModes : Warehouse → ℕ → List LineOrder → Result (Option MoreModes) Fault → Type 0
ChecksModes w number rows (Ok more) = HasFitModes w.layout w.batches rows × AreMore w rows more
ChecksModes w number rows (Err fault) =
    (refusal_of w number rows ≡ Some fault) ⊎ ((fault ≡ Memory) × PassesChecks w number rows)

-- Such a batch is made ready with the ship modes and the root of the warehouse with it, unless there is no memory.
abbrev pub Prepares : Warehouse → ℕ → List LineOrder → Result Prepared Fault → Type 0
Prepares w number rows (Ok p) = AdmitsBatch w number rows × (p.root ≡ root_of (loaded w rows)) × AreMore w rows p.more
Prepares w number rows (Err fault) =
    (refusal_of w number rows ≡ Some fault) ⊎ ((fault ≡ Memory) × PassesChecks w number rows)
