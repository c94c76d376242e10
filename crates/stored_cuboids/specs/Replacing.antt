-- A commit of another root. Our own.
use Rattle.std.specs.Prelude.{ℕ, not, List, []}
use Rattle.std.specs.List.{filter, flat_map}
use Rattle.lattice.specs.declared.view.View.{View}
use Rattle.object_store.specs.Commit.{committed}
use Rattle.object_store.specs.Content.{Content}
use Rattle.warehouse_root.specs.declared.cuboid.StoredCuboid.{StoredCuboid}
use Rattle.warehouse_root.specs.Layouts.{layout_number}
use Rattle.warehouse_root.specs.Objects.{run_ids}
use Rattle.warehouse_root.specs.Root.{PlainRoot, root_spelling}
use Rattle.warehouse_objects.specs.Warehouse.{is_among}

-- the content with another root, without some objects
abbrev pub content_replaced : PlainRoot → List ℕ → Content → Content
content_replaced root drops c = committed [] drops (root_spelling root) (layout_number root.layout) c

-- the ids of the runs of the cuboids of other views
abbrev pub dropped_of : List View → List StoredCuboid → List ℕ
dropped_of views cuboids = flat_map run_ids (filter (λ cuboid. not (is_among views cuboid.view)) cuboids)
