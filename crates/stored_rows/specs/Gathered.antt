-- The ship modes of the first of some batches. Our own.
use Rattle.std.specs.Prelude.{◌≡◌, ℕ, ◌+◌, None, List, [], take}
use Rattle.std.specs.Option.{option_map}
use Rattle.cube_model.specs.declared.rows.LineOrder.{LineOrder}
use Rattle.cube_model.specs.Admission.{all_rows}
use Rattle.cube_model.specs.ShipModes.{crowded_place, modes_in, reserved_place}
use Rattle.dictionary.specs.Dictionary.{firsts}
use Rattle.warehouse_objects.specs.Migration.{place_after}
use Rattle.stored_rows.specs.declared.gathering.Gathered.{Gathered}

-- those of the rows of so many batches, row by row
abbrev pub modes_before : List (List LineOrder) → ℕ → List (List ℕ)
modes_before batches before = modes_in (all_rows (take before batches))

-- None of them is the text that means all ship modes, and they are gathered, unless there are too many.
pub record IsGathered (batches : List (List LineOrder)) (before : ℕ) (gathered : Gathered) : Type 0 where
  pub free : reserved_place (modes_before batches before) ≡ None
  pub crowded : gathered.crowded
      ≡ option_map (λ place. place_after 0 batches (place + 1)) (crowded_place [] (modes_before batches before))
  pub modes : gathered.crowded ≡ None → gathered.modes ≡ firsts (modes_before batches before)
