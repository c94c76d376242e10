-- What stays where rows are added to dimensions. Each is proved as the contract of a function of its name.
use Rattle.std.specs.Prelude.{◌≡◌, ◌<◌, ◌≤◌, ℕ, List, [], length}
use Rattle.cube_model.specs.declared.query.Query.{Query}
use Rattle.cube_model.specs.declared.rows.DimRows.{DimRows}
use Rattle.cube_model.specs.declared.rows.LineOrder.{LineOrder}
use Rattle.cube_model.specs.Admission.{HaveKnownKeys, IsAdmissible}
use Rattle.cube_model.specs.Answers.{answer, answer_as_of}
use Rattle.cuboid_cells.specs.Cells.{PlainCells}
use Rattle.cuboid_upkeep.specs.Grouping.{RepresentRows}
use Rattle.object_store.specs.Commit.{committed}
use Rattle.object_store.specs.Content.{Content}
use Rattle.warehouse_objects.specs.Represents.{Represents, root_of}
use Rattle.dimensions.specs.Shown.{AreStorable}
use Rattle.warehouse_objects.specs.Warehouse.{AreInOrder, Warehouse}
use Rattle.warehouse_root.specs.Layouts.{layout_number}
use Rattle.warehouse_root.specs.Limits.{most_additions}
use Rattle.warehouse_root.specs.Root as roots
use Rattle.dimensions.specs.Added.{joined}
use Rattle.stored_rows.specs.Added.{widened, widening_puts}

-- a query over fact rows whose keys are known has the same answer
abbrev pub AnswersStay : Type 0
AnswersStay = (query : Query) (rows more : DimRows) (facts : List LineOrder) → HaveKnownKeys rows facts
    → answer query (joined rows more) facts ≡ answer query rows facts

-- and so has one over the first of the batches of a warehouse: a query that was started before has the answer that it
-- would have after
abbrev pub AnswersAsOfStay : Type 0
AnswersAsOfStay = (query : Query) (as_of : ℕ) (rows more : DimRows) (batches : List (List LineOrder))
    → AreInOrder rows batches → as_of ≤ length batches
    → answer_as_of query as_of (joined rows more) batches ≡ answer_as_of query as_of rows batches

-- a batch that is admissible stays so
abbrev pub AdmissionsStay : Type 0
AdmissionsStay = (rows more : DimRows) (batches : List (List LineOrder)) (number : ℕ) (batch : List LineOrder)
    → IsAdmissible rows batches number batch → IsAdmissible (joined rows more) batches number batch

-- cells represent the same fact rows
abbrev pub CellsStay : Type 0
CellsStay = (rows more : DimRows) (modes : List (List ℕ)) (facts : List LineOrder) (plain : PlainCells)
    → RepresentRows rows modes facts plain → RepresentRows (joined rows more) modes facts plain

-- a commit of the dimensions with new rows and of the root with one addition more makes a content that represents the
-- warehouse with them
abbrev pub WideningRepresents : Type 0
WideningRepresents = (c : Content) (w : Warehouse) (more : DimRows) → Represents c w → AreStorable (joined w.rows more)
    → w.additions < most_additions
    → Represents
    (committed (widening_puts w.rows more) [] (roots.root_spelling (root_of (widened w more))) (layout_number w.layout)
    c)
    (widened w more)
