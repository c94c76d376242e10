-- What the definitions of a load mean. Each is proved as the contract of a function of its name.
use Rattle.std.specs.Prelude.{◌≡◌, ◌≤◌, ℕ, ◌+◌, ◌-◌, List, ◌++◌, length, take, drop, slice_get, Option, Some, None}
use Rattle.std.specs.Prelude.{Result, Ok}
use Rattle.sector_device.specs.declared.device.Sectors.{Ghosts}
use Rattle.sector_device.specs.Device.{Image}
use Rattle.cube_model.specs.declared.fault.Fault.{Fault}
use Rattle.cube_model.specs.declared.query.Query.{Query}
use Rattle.cube_model.specs.declared.rows.LineOrder.{LineOrder}
use Rattle.cube_model.specs.Answers.{answer_as_of}
use Rattle.cube_model.specs.Limits.{most_batch_rows}
use Rattle.object_store.specs.Disk.{disk, AllShow}
use Rattle.ssb_eval.specs.Evaluation.{answer_of}
use Rattle.warehouse_objects.specs.Facts.{CanMigrate, facts_in}
use Rattle.warehouse_objects.specs.Warehouse.{Warehouse}
use Rattle.warehouse.specs.declared.session.Session.{Session}
use Rattle.warehouse.specs.Comparing.{numbered}
use Rattle.warehouse.specs.Found.{MayRepresent}
use Rattle.warehouse.specs.Headline.{IsRestarted}
use Rattle.warehouse.specs.Session.{IsAt, device_of, disk_of}
use Rattle.warehouse_jobs.specs.Cutting.{AreCutFrom}
use Rattle.warehouse_jobs.specs.Loading.{Done, Loads, batches_of, session_after, with_batches}

-- of batches whose first number is there or is the next one, those are added that are not there yet
abbrev pub LoadAddsTheOthers : Type 0
LoadAddsTheOthers = (w : Warehouse) (first : ℕ) (batches : List (List LineOrder)) → first ≤ length w.batches + 1
    → (with_batches w first batches).batches ≡ w.batches ++ drop (length w.batches + 1 - first) batches

-- Each batch that a load did is then the batch of its number, row by row: also one that was there before and was passed
-- over
abbrev pub LoadHoldsItsBatches : {D : Type 0} → Type 0 → Ghosts D → Type 0
LoadHoldsItsBatches {D} A g = (w : Warehouse) (first size : ℕ) (text : Option (List ℕ)) (old new : Session D g)
    (before after : Option (List ℕ)) (result : Result A Fault)
    → (loads : Loads g w first size text old new before after result)
    → (place : ℕ) (one : Done g) → slice_get loads.trace place ≡ Some one
    → numbered (with_batches w first (batches_of loads.trace)).batches (first + place) ≡ Some one.rows

-- What is found after a load that was stopped: a warehouse with some batches of the load, no fewer than so many
pub record IsFoundWith {D : Type 0} (g : Ghosts D) (w : Warehouse) (first size : ℕ) (text : Option (List ℕ)) (count : ℕ)
    (device : D) : Type 0 where
  pub batches : List (List LineOrder)
  pub next : ℕ
  pub left : List (List (List ℕ))
  pub cut : AreCutFrom text size batches next left
  pub no_fewer : count ≤ length batches
  -- so the contract of opening holds of this one warehouse
  pub represents : AllShow (disk g device) (MayRepresent (facts_in (with_batches w first batches)) None)

-- Whatever a crash leaves within a load after some of its lines were written: the restarted device has a warehouse with
-- the batches of these lines, and maybe with more of the load's.
abbrev pub CrashedLoadIsFound : {D : Type 0} → Type 0 → Ghosts D → Type 0
CrashedLoadIsFound {D} A g = (w : Warehouse) (first size : ℕ) (text : Option (List ℕ)) (old mid new : Session D g)
    (before after : Option (List ℕ)) (result : Result A Fault)
    → (loads : Loads g w first size text old new before after result) → (disk_of g new).keeps_word
    → (lines : ℕ) → lines ≤ length loads.trace → mid ≡ session_after old (take lines loads.trace)
    → (image : Image) → (g.state (device_of new)).left_since (g.state (device_of mid)).moment image
    → (device : D) → IsRestarted g (g.state (device_of mid)).size image device
    → IsFoundWith g w first size text lines device

-- A text that was loaded whole, 65,536 rows a batch from batch 1 on, into a warehouse that had no more batches: where
-- the warehouse is of the second layout, or may move to it, the answer to a query over all batches is that of an
-- evaluation of the text. So it is after a load that was cut off and given again
abbrev pub LoadedIsEvaluated : {D : Type 0} → Type 0 → Ghosts D → Type 0
LoadedIsEvaluated {D} A g = (w : Warehouse) (text : List ℕ) (old new : Session D g) (before after : Option (List ℕ))
    (query : Query) (done : A)
    → (loads : Loads {A = A} g w 1 most_batch_rows (Some text) old new before after (Ok done))
    → length w.batches ≤ length loads.trace → (disk_of g new).keeps_word
    → (v : Warehouse) × IsAt g new v × (CanMigrate v
    → answer_of query w.rows text ≡ Ok (answer_as_of query (length v.batches) v.rows v.batches))
