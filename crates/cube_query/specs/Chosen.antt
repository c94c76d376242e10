-- Some fact rows in place of all, for a query that selects none of the others. Our own.
use Rattle.std.specs.Prelude.{◌≡◌, ℕ, ◌+◌, Bool, true, false, List, [], ◌∷◌}
use Rattle.cube_model.specs.declared.query.Cond.{Cond}
use Rattle.cube_model.specs.declared.rows.DimRows.{DimRows}
use Rattle.cube_model.specs.declared.rows.LineOrder.{LineOrder}
use Rattle.cube_model.specs.Selection.{selected}
use Rattle.column_kernels.specs.Masks.{lies_in, selected_by}
use Rattle.group_numbers.specs.declared.bounds.Bounds.{Bounds}

-- the quantity and the discount of a row lie within bounds
abbrev pub lies_within : Bounds → LineOrder → Bool
lies_within bounds row =
    lies_in (bounds.least_quantity, bounds.greatest_quantity) (bounds.least_discount, bounds.greatest_discount)
    row.quantity row.discount

-- the places of the marks that are true, the first of them at a place
abbrev pub places_from : ℕ → List Bool → List ℕ
places_from place [] = []
places_from place (true ∷ marks) = place ∷ places_from (place + 1) marks
places_from place (false ∷ marks) = places_from (place + 1) marks

-- some of the rows, in their order, and among them all that conditions select
pub record KeepSelected (dimensions : DimRows) (conditions : List Cond) (some all : List LineOrder) : Type 0 where
  pub part : (marks : List Bool) × (some ≡ selected_by marks all)
  pub same : selected dimensions conditions some ≡ selected dimensions conditions all
