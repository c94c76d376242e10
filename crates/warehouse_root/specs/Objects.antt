-- Which objects the root of a warehouse asks for, by their ids. Our layout.
use Rattle.std.specs.Prelude.{ℕ, ◌+◌, ◌*◌, List, ◌++◌, length}
use Rattle.std.specs.List.{flat_map, range_with_len}
use Rattle.warehouse_root.specs.declared.cuboid.StoredCuboid.{StoredCuboid}
use Rattle.warehouse_root.specs.declared.layout.Layout.{Layout}
use Rattle.warehouse_root.specs.Layouts.{dimension_object_count}
use Rattle.warehouse_root.specs.Root.{PlainRoot}

-- the dimensions from 1 on: customers, suppliers, parts, days, and from the second layout on ship modes
abbrev pub dimension_ids : Layout → List ℕ
dimension_ids layout = range_with_len 1 (dimension_object_count layout)

-- the segment of a batch; batches count from 1
abbrev pub segment_id : ℕ → ℕ
segment_id batch = 65536 + batch

-- a run of the cuboid of a view; runs count from 0
abbrev pub run_id : ℕ → ℕ → ℕ
run_id view run = 131072 + 16 * view + run

-- a segment for each batch
abbrev pub segment_ids : ℕ → List ℕ
segment_ids batches = range_with_len (segment_id 1) batches

-- the runs of a cuboid
abbrev pub run_ids : StoredCuboid → List ℕ
run_ids cuboid = range_with_len (run_id cuboid.view 0) cuboid.runs

-- the objects that a root asks for, by ascending id
abbrev pub object_ids : PlainRoot → List ℕ
object_ids root = dimension_ids root.layout ++ (segment_ids (length root.batches) ++ flat_map run_ids root.cuboids)
