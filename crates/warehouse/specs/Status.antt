-- What the numbers of a warehouse are.
use Rattle.std.specs.Prelude.{◌≡◌, ℕ, ◌<◌, Option, Some, None, length, slice_get, slice_index_or}
use Rattle.cube_model.specs.Admission.{all_rows}
use Rattle.warehouse_root.specs.Limits.{most_cuboids}
use Rattle.warehouse_root.specs.declared.cuboid.StoredCuboid.{StoredCuboid}
use Rattle.lattice.specs.Views.{index_of}
use Rattle.warehouse_objects.specs.Warehouse.{Cuboid, Warehouse, cell_count}
use Rattle.warehouse.specs.declared.status.Status.{Status}

-- what is said of a stored cuboid
pub record IsSaidOf (cuboid : Cuboid) (said : StoredCuboid) : Type 0 where
  pub view : said.view ≡ index_of cuboid.view
  pub mark : said.mark ≡ cuboid.mark
  pub runs : said.runs ≡ length cuboid.runs
  pub cells : said.cells ≡ cell_count cuboid.runs

-- what is at the place of a cuboid, and that a place without one is empty
abbrev pub IsSaidAt : Option Cuboid → Option StoredCuboid → Type 0
IsSaidAt None None = Unit {0}
IsSaidAt None (Some said) = ⊥
IsSaidAt (Some cuboid) None = ⊥
IsSaidAt (Some cuboid) (Some said) = IsSaidOf cuboid said

pub record IsStatus (w : Warehouse) (generation : ℕ) (status : Status) : Type 0 where
  pub layout : status.layout ≡ w.layout
  pub batches : status.batches ≡ length w.batches
  pub rows : status.rows ≡ length (all_rows w.batches)
  pub additions : status.additions ≡ w.additions
  pub target : status.target ≡ w.target
  pub generation_is : status.generation ≡ generation
  pub cuboids : (place : ℕ) → place < most_cuboids
      → IsSaidAt (slice_get w.cuboids place) (slice_index_or status.cuboids place None)
