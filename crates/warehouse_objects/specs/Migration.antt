-- When a warehouse may move to the second layout, where ship modes are members. Our own.
use Rattle.std.specs.Prelude.{ℕ, ◌+◌, ◌-◌, if◌then◌else◌, nat_le, Option, None, List, [], ◌∷◌, length}
use Rattle.cube_model.specs.declared.fault.Fault.{Fault}
use Rattle.cube_model.specs.declared.fault.MemberPlace.{MemberPlace}
use Rattle.cube_model.specs.declared.fault.MemberPlace.TheVariants.{InStoredBatch}
use Rattle.cube_model.specs.declared.rows.LineOrder.{LineOrder}
use Rattle.cube_model.specs.Admission.{all_rows}
use Rattle.cube_model.specs.ShipModes.{modes_cause, modes_in}
use Rattle.warehouse_root.specs.declared.layout.Layout.{Layout}
use Rattle.warehouse_root.specs.declared.layout.Layout.TheVariants.{First, Second}

-- the place of a row in batches that come after so many others, by its number over all of them: rows and batches count
-- from 1
abbrev pub place_after : ℕ → List (List LineOrder) → ℕ → MemberPlace
place_after before [] row = InStoredBatch before row
place_after before (batch ∷ batches) row =
    if nat_le row (length batch) then InStoredBatch (before + 1) row
    else place_after (before + 1) batches (row - length batch)

-- the first cause that forbids the second layout for batches: a ship mode is the text that means all of them, in any
-- batch, or is one too many
abbrev pub migration_refusal : Layout → List (List LineOrder) → Option Fault
migration_refusal First batches = modes_cause (place_after 0 batches) [] (modes_in (all_rows batches))
migration_refusal Second batches = None
