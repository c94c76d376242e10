-- What a journal that makes a warehouse does, and why there is none. Our own.
use Rattle.std.specs.Prelude.{◌≡◌, ◌⊎◌, ◌<◌, ℕ, List, [], length, Result, Ok, Err}
use Rattle.cube_model.specs.declared.fault.Fault.{Fault}
use Rattle.cube_model.specs.declared.fault.Fault.TheVariants.{AlreadyFormatted, DeviceSize, Full, Input, Memory}
use Rattle.cube_model.specs.declared.rows.DimRows.{DimRows}
use Rattle.dimension_tables.specs.Texts.{dimensions_of}
use Rattle.sector_device.specs.EventRuns.{sectors_in}
use Rattle.c_library.specs.Images.{AreSectors, device_over}
use Rattle.c_library.specs.Journals.{IsJournal, LeavesAtEach, device_after}
use Rattle.journal_device.specs.declared.call.Call.{Call}
use Rattle.object_store.specs.Disk.{AllShow, Each, IsBlank, ShowsSomeOrNone}
use Rattle.object_store.specs.Room.{LacksRoom, empty_room}
use Rattle.warehouse_objects.specs.Lawful.{dimension_puts}
use Rattle.warehouse_objects.specs.Represents.{Represents}
use Rattle.warehouse_objects.specs.Warehouse.{fresh}
use Rattle.warehouse_root.specs.declared.layout.Layout.TheVariants.{First}
use Rattle.warehouse_root.specs.Root.{first_root, root_spelling}

-- the rows of the four tables of dimensions, where they keep the rules
abbrev pub rows_of_tables : (customer supplier part date : List ℕ) → Result DimRows Fault
rows_of_tables customer supplier part date =
    dimensions_of (record { customer = customer; supplier = supplier; part = part; date = date; lineorder = [] })

-- the tables are refused; or they are not read, when out of memory, or since a reader failed
abbrev pub RefusesTables : (customer supplier part date : List ℕ) → Fault → Type 0
RefusesTables customer supplier part date fault =
    (fault ≡ Memory) ⊎ ((fault ≡ Input) ⊎ (rows_of_tables customer supplier part date ≡ Err fault))

-- the calls make the warehouse of these dimensions without batches
pub record Creates (image : List ℕ) (rows : DimRows) (calls : List Call) : Type 0 where
  pub represents : AllShow (device_after image calls) (λ c. Represents c (fresh rows))
  -- where the bytes have no valid superblock, a crash after any of the calls leaves none, or this warehouse
  pub leaves : Each (device_over image) IsBlank
      → LeavesAtEach image calls (ShowsSomeOrNone (λ c. Represents c (fresh rows)))

-- no warehouse of these dimensions can be made of the bytes: there is no memory; they are no whole sectors, or too few
-- or too many; some image of them has a valid superblock; or the dimensions do not fit
abbrev pub CreateRefuses : List ℕ → DimRows → Fault → Type 0
CreateRefuses image rows fault =
    (fault ≡ Memory)
    ⊎ (((fault ≡ DeviceSize) × ((AreSectors image → ⊥) ⊎ (length (sectors_in image) < 64)))
    ⊎ (((fault ≡ AlreadyFormatted) × (Each (device_over image) IsBlank → ⊥))
    ⊎ ((fault ≡ Full) × LacksRoom (empty_room (length (sectors_in image))) (dimension_puts rows) []
    (root_spelling (first_root First)))))

-- the journal that makes the warehouse of four tables
abbrev pub IsCreateJournal : List ℕ → (customer supplier part date : List ℕ) → List ℕ → Type 0
IsCreateJournal image customer supplier part date journal =
    (rows : DimRows) × (rows_of_tables customer supplier part date ≡ Ok rows)
    × IsJournal image (Creates image rows) journal

-- why there is none
abbrev pub RefusesCreate : List ℕ → (customer supplier part date : List ℕ) → Fault → Type 0
RefusesCreate image customer supplier part date fault =
    RefusesTables customer supplier part date fault
    ⊎ ((rows : DimRows) × (rows_of_tables customer supplier part date ≡ Ok rows) × CreateRefuses image rows fault)
