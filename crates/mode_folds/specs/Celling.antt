-- The cells of a view by their ship modes: the fifth code of a cell is the place of its ship mode among some modes. Our
-- own.
use Rattle.std.specs.Prelude.{◌≡◌, ℕ, ◌==◌, ◌<◌, Bool, false, List, [], map, length, slice_index_or}
use Rattle.std.specs.List.{filter}
use Rattle.std.specs.declared.alloc.Global.{Global}
use Rattle.std.specs.declared.vec.Vec.{Vec}
use Rattle.cuboid_cells.specs.declared.cell.Cell.{Cell}
use Rattle.mode_queries.specs.Selection.{passes_modes}
use Rattle.mode_queries.specs.declared.query.ModeCond.{ModeCond}

-- whether the ship mode at a place passes conditions
abbrev pub passes_at : List ModeCond → List (List ℕ) → ℕ → Bool
passes_at conditions modes place = slice_index_or (map (passes_modes conditions) modes) place false

-- the cells of the ship mode at a place
abbrev pub cells_at : ℕ → List Cell → List Cell
cells_at place cells = filter (λ cell. cell.key.ship_mode == place) cells

-- those of each of so many ship modes, by their places
pub record AreCellParts (count : ℕ) (cells : List Cell) (parts : List (Vec Cell Global)) : Type 0 where
  pub counted : length parts ≡ count
  pub each : (place : ℕ) → place < count
      → slice_index_or (map (λ part. part.items) parts) place [] ≡ cells_at place cells
