-- Queries that may look at ship modes, over the first batches of a warehouse. Our own.
use Rattle.std.specs.Prelude.{ℕ}
use Rattle.cube_model.specs.declared.fault.Fault.{Fault}
use Rattle.mode_queries.specs.Proper.{IsProperByModes}
use Rattle.mode_queries.specs.declared.query.ModeQuery.{ModeQuery}
use Rattle.warehouse_objects.specs.Warehouse.{Warehouse}
use Rattle.warehouse.specs.Session.{AskingRefuses, IsAskable}

-- a query that is proper, over batches that are there
abbrev pub IsAskedByModes : Warehouse → ℕ → ModeQuery → Type 0
IsAskedByModes w as_of asked = IsAskable (IsProperByModes asked) w as_of

abbrev pub RefusesByModes : Warehouse → ℕ → ModeQuery → Fault → Type 0
RefusesByModes w as_of asked fault = AskingRefuses (IsProperByModes asked) w as_of fault
