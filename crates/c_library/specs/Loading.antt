-- What a journal that loads a text does, and why there is none. Our own.
use Rattle.std.specs.Prelude.{◌≡◌, ◌≢◌, ◌⊎◌, ◌<◌, ◌≤◌, ℕ, ◌+◌, List, [], length, slice_get, Some, None}
use Rattle.sector_device.specs.declared.device.Sectors.{Ghosts}
use Rattle.cube_model.specs.declared.fault.Fault.{Fault}
use Rattle.cube_model.specs.declared.fault.Fault.TheVariants.{Full, Input, Memory, Output, Repeated, Worn}
use Rattle.cube_model.specs.declared.rows.LineOrder.{LineOrder}
use Rattle.c_library.specs.Answers.{IsNoDevice}
use Rattle.c_library.specs.Images.{HoldsWarehouse}
use Rattle.c_library.specs.Journals.{IsJournal, LeavesAtEach, device_after}
use Rattle.journal_device.specs.declared.call.Call.{Call}
use Rattle.object_store.specs.Content.{Content}
use Rattle.object_store.specs.Disk.{AllShow, Leaves, ShowsSome, disk}
use Rattle.warehouse_objects.specs.Facts.{AdmitsBatch, Facts, facts_in, refusal_of}
use Rattle.warehouse_objects.specs.Represents.{Represents}
use Rattle.warehouse_objects.specs.Warehouse.{Warehouse}
use Rattle.warehouse.specs.Comparing.{numbered}
use Rattle.warehouse.specs.Found.{MayRepresent}
use Rattle.warehouse_jobs.specs.Cutting.{AreCutFrom, IsNextBatch, IsFirstLineFault}
use Rattle.warehouse_jobs.specs.Loading.{with_batches}

-- What is loaded into a warehouse of these facts: all batches of a text, so many lines a batch, the first of them with
-- a number. Those that are there already have exactly these rows
pub record LoadsAll (facts : Facts) (first size : ℕ) (text : List ℕ) : Type 0 where
  pub w : Warehouse
  pub of : facts_in w ≡ facts
  pub batches : List (List LineOrder)
  pub next : ℕ
  pub cut : AreCutFrom (Some text) size batches next []
  pub holds : (place : ℕ) (rows : List LineOrder) → slice_get batches place ≡ Some rows
      → numbered (with_batches w first batches).batches (first + place) ≡ Some rows

-- the warehouse then
abbrev pub loaded_all : {facts : Facts} {first size : ℕ} {text : List ℕ} → LoadsAll facts first size text → Warehouse
loaded_all {first = first} all = with_batches all.w first all.batches

-- a content represents the facts of a warehouse with the first batches of a text, maybe with none
pub record HoldsSome (w : Warehouse) (first size : ℕ) (text : List ℕ) (c : Content) : Type 0 where
  pub some : List (List LineOrder)
  pub next : ℕ
  pub left : List (List (List ℕ))
  pub cut : AreCutFrom (Some text) size some next left
  pub represents : MayRepresent (facts_in (with_batches w first some)) None c

-- a text was loaded into the warehouse on a device
pub record LoadsOn {D : Type 0} (g : Ghosts D) (facts : Facts) (first size : ℕ) (text : List ℕ) (old new : D) : Type 0
  where
    pub all : LoadsAll facts first size text
    pub represents : AllShow (disk g new) (λ c. Represents c (loaded_all all))
    pub leaves : Leaves (disk g old) (disk g new) (HoldsSome all.w first size text)

-- the calls load a text into the warehouse that the bytes hold
pub record LoadsImage (image : List ℕ) (facts : Facts) (first size : ℕ) (text : List ℕ) (calls : List Call) : Type 0
  where
    pub all : LoadsAll facts first size text
    pub represents : AllShow (device_after image calls) (λ c. Represents c (loaded_all all))
    -- a crash after any of the calls leaves the warehouse with the first batches of the text
    pub leaves : LeavesAtEach image calls (ShowsSome (HoldsSome all.w first size text))

-- a batch is refused: the one of its number is another; or there is none of its number, and it is not admissible, or
-- does not fit
abbrev pub BatchIsRefused : Warehouse → ℕ → List LineOrder → Fault → Type 0
BatchIsRefused w number rows fault =
    ((fault ≡ Repeated) × (number ≤ length w.batches) × (numbered w.batches number ≢ Some rows))
    ⊎ ((length w.batches < number)
    × ((refusal_of w number rows ≡ Some fault) ⊎ (AdmitsBatch w number rows × ((fault ≡ Full) ⊎ (fault ≡ Worn)))))

-- after the first batches of a text the next one cannot be read, or is refused
pub record StopsAt (facts : Facts) (first size : ℕ) (text : List ℕ) (fault : Fault) : Type 0 where
  pub w : Warehouse
  pub of : facts_in w ≡ facts
  pub batches : List (List LineOrder)
  pub next : ℕ
  pub left : List (List (List ℕ))
  pub cut : AreCutFrom (Some text) size batches next left
  pub why : IsFirstLineFault next left fault
      ⊎ ((rows : List LineOrder) × IsNextBatch next left rows
      × BatchIsRefused (with_batches w first batches) (first + length batches) rows fault)

-- There is no memory, or none for the lines of the batches (Output), or a reader failed; or the load stops at a line or
-- a batch.
abbrev pub LoadRefuses : Facts → (first size : ℕ) → List ℕ → Fault → Type 0
LoadRefuses facts first size text fault =
    (fault ≡ Memory) ⊎ ((fault ≡ Input) ⊎ ((fault ≡ Output) ⊎ StopsAt facts first size text fault))

-- the journal of a load, whatever warehouse the bytes of the file hold
abbrev pub IsLoadJournal : List ℕ → (first size : ℕ) → List ℕ → List ℕ → Type 0
IsLoadJournal image first size text =
    IsJournal image (λ calls. (facts : Facts) → HoldsWarehouse image facts
    → LoadsImage image facts first size text calls)

-- why there is none
abbrev pub RefusesLoad : List ℕ → (first size : ℕ) → List ℕ → Fault → Type 0
RefusesLoad image first size text fault = (facts : Facts) → HoldsWarehouse image facts → IsNoDevice image fault
    ⊎ LoadRefuses facts first size text fault
