-- What a query over the bytes of a file answers. Our own.
use Rattle.std.specs.Prelude.{◌≡◌, ◌⊎◌, ℕ, List, Option}
use Rattle.cube_model.specs.declared.fault.Fault.{Fault}
use Rattle.cube_model.specs.declared.fault.Fault.TheVariants.{Device, DeviceSize, Memory, Output}
use Rattle.c_library.specs.Images.{AreSectors}
use Rattle.report_formats.specs.declared.asked.Asked.{Asked}
use Rattle.report_formats.specs.Fields.{formatted}
use Rattle.warehouse.specs.ByModes.{IsAskedByModes, RefusesByModes}
use Rattle.warehouse_objects.specs.Facts.{Facts, facts_in}
use Rattle.warehouse_objects.specs.Warehouse.{Warehouse}
use Rattle.warehouse_jobs.specs.Reporting.{answered_by_modes, batches_asked}

-- a text is the report of the definition's answer, over the first batches of a warehouse of these facts or over all
pub record IsReportOver (facts : Facts) (as_of : Option ℕ) (asked : Asked) (text : List ℕ) : Type 0 where
  pub w : Warehouse
  pub of : facts_in w ≡ facts
  pub is_asked : IsAskedByModes w (batches_asked w as_of) asked.query
  pub text_is : text ≡ answered_by_modes (formatted asked) w (batches_asked w as_of) asked.query

-- There is no memory, also for the text (Output), the device failed, or the query is refused over a warehouse of these
-- facts.
abbrev pub AnswerRefuses : Facts → Option ℕ → Asked → Fault → Type 0
AnswerRefuses facts as_of asked fault =
    ((fault ≡ Memory) ⊎ (fault ≡ Output))
    ⊎ ((fault ≡ Device)
    ⊎ ((w : Warehouse) × (facts_in w ≡ facts) × RefusesByModes w (batches_asked w as_of) asked.query fault))

-- the bytes are no whole sectors, or too many
abbrev pub IsNoDevice : List ℕ → Fault → Type 0
IsNoDevice image fault = (fault ≡ DeviceSize) × (AreSectors image → ⊥)
