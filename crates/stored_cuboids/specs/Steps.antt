-- What one run adds to those before it. Our own.
use Rattle.std.specs.Prelude.{◌≡◌, ℕ, ◌+◌, [], length, take}
use Rattle.std.specs.Option.{IsSomeAnd}
use Rattle.object_store.specs.Content.{Content, bytes_of}
use Rattle.lattice.specs.declared.view.View.{View}
use Rattle.cuboid_cells.specs.declared.head.RunHead.{RunHead}
use Rattle.cuboid_cells.specs.declared.span.Span.{Span}
use Rattle.cuboid_cells.specs.Cells.{AreProperCells, PlainCells}
use Rattle.cuboid_cells.specs.Merges.{IsMergeOf}
use Rattle.cuboid_cells.specs.Spelled.{IsRun}
use Rattle.cuboid_cells.specs.Steps.{cells_of}
use Rattle.warehouse_objects.specs.Warehouse.{Cuboid, cell_count}
use Rattle.warehouse_objects.specs.Represents.{Follow}
use Rattle.stored_cuboids.specs.declared.reading.Progress.{Progress}
use Rattle.stored_cuboids.specs.Merged.{AreMergedWith}

-- an object of a content is a run
abbrev pub ObjectIsRun : Content → ℕ → Span → PlainCells → Type 0
ObjectIsRun content id span cells = IsSomeAnd (bytes_of content id) (λ bytes. IsRun bytes span cells)

-- the header of the run of cells over some batches
abbrev pub run_head_of : Span → PlainCells → RunHead
run_head_of span cells = record { view = cells.view; span = span; count = length cells.cells }

-- by its header a run is of a view, begins where the runs so far end, and has no more cells than are left
pub record GoesOn (view : View) (at : Progress) (head : RunHead) (next : Progress) : Type 0 where
  pub same : head.view ≡ view
  pub from : head.span.from ≡ at.end
  pub to : next.end ≡ head.span.to
  pub left : next.left + head.count ≡ at.left

-- an object of a content is the run that goes on where the runs so far end
pub record IsNextRun (content : Content) (id : ℕ) (view : View) (at : Progress) (cells : PlainCells)
    (next : Progress) : Type 0 where
  pub span : Span
  pub there : ObjectIsRun content id span cells
  pub goes_on : GoesOn view at (run_head_of span cells) next

-- a run of a content is merged into the cells of those before it
pub record MergesRun (content : Content) (id : ℕ) (old : PlainCells) (at : Progress) (new : PlainCells)
    (next : Progress) : Type 0 where
  pub cells : PlainCells
  pub read : IsNextRun content id old.view at cells next
  pub merge : IsMergeOf old cells new
  pub proper : AreProperCells new

-- so many runs of a cuboid are read
pub record AreRead (cuboid : Cuboid) (count : ℕ) (at : Progress) : Type 0 where
  pub follow : Follow 0 (take count cuboid.runs) at.end
  pub left : at.left + cell_count (take count cuboid.runs) ≡ cell_count cuboid.runs

-- and merged
pub record RunsAreMerged (cuboid : Cuboid) (count : ℕ) (cells : PlainCells) (at : Progress) : Type 0 where
  pub read : AreRead cuboid count at
  pub merge : AreMergedWith (cells_of cuboid.view []) (take count cuboid.runs) cells
