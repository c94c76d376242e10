-- The headline. However a run of commands crashes, what the device may then hold is a warehouse of the dimension rows
-- and batches that were acknowledged by then, or of these and the change whose command was running; and on the
-- restarted device it is one list.
use Rattle.std.specs.Prelude.{◌≡◌, ◌⊎◌, ◌≤◌, ◌<◌, ℕ, Option, Some, None, List, [], ◌∷◌, length, take, slice_get}
use Rattle.sector_device.specs.declared.device.Sectors.{Ghosts}
use Rattle.sector_device.specs.Device.{Image, IsImage}
use Rattle.cube_model.specs.declared.rows.DimRows.{DimRows}
use Rattle.object_store.specs.Content.{Content}
use Rattle.object_store.specs.Disk.{disk, AllShow, Each, IsBlank, Leaves, LeavesOrNone}
use Rattle.object_store.specs.Shows.{Shows}
use Rattle.warehouse_objects.specs.Facts.{Change, Facts, a_batch, facts_in, some_rows, the_layout}
use Rattle.warehouse_objects.specs.Warehouse.{Warehouse, fresh}
use Rattle.warehouse_objects.specs.Represents.{Represents}
use Rattle.warehouse.specs.declared.command.Command.{Command}
use Rattle.warehouse.specs.declared.command.Command.TheVariants as asks
use Rattle.warehouse.specs.declared.command.Reply.{Reply}
use Rattle.warehouse.specs.declared.session.Session.{Session}
use Rattle.warehouse.specs.Found.{MayBeFound, MayRepresent, MayRepresentSince}
use Rattle.warehouse.specs.Running.{Phase, Slots, amid, at, RanAll, acknowledged}
use Rattle.warehouse.specs.Session.{IsAt, device_of, disk_of}

-- the facts that are acknowledged after commands with these replies
abbrev pub acknowledged_all : Facts → List Command → List Reply → Facts
acknowledged_all facts [] replies = facts
acknowledged_all facts (command ∷ commands) [] = facts
acknowledged_all facts (command ∷ commands) (reply ∷ replies) =
    acknowledged_all (acknowledged facts command reply) commands replies

-- what a command submits
abbrev pub submitted : Option Command → Option Change
submitted (Some (asks.Submit number batch)) = Some (a_batch batch)
submitted (Some (asks.Add number more)) = Some (some_rows more)
submitted (Some asks.Migrate) = Some the_layout
submitted _ = None

-- a device that was restarted where a crash left an image: it has that image alone
pub record IsRestarted {D : Type 0} (g : Ghosts D) (size : ℕ) (image : Image) (device : D) : Type 0 where
  pub same_size : (g.state device).size ≡ size
  pub one : (other : Image) → IsImage (g.state device) other → (i : ℕ) → other i ≡ image i

-- What is found after a run that crashed after some of its commands, in the next one: a prefix of the changes that were
-- submitted, each a batch, rows for the dimensions or the second layout, with every acknowledged one. The restarted
-- device has it, whatever is left there.
pub record IsFoundAfter {D : Type 0} (g : Ghosts D) (w : Warehouse) (commands : List Command) (replies : List Reply)
    (device : D) : Type 0 where
  pub done : ℕ
  pub within : done ≤ length commands
  pub found : Warehouse
  pub may : MayBeFound (acknowledged_all (facts_in w) (take done commands) (take done replies))
      (submitted (slice_get commands done)) found
  -- so the contract of opening holds of this one list
  pub represents : AllShow (disk g device) (MayRepresent (facts_in found) None)

-- Whatever a crash at any point of a run leaves, the restarted device has what may be found.
abbrev pub CrashedRunIsFound : {D : Type 0} → Ghosts D → Type 0
CrashedRunIsFound {D} g = (old new : Session D g) (w : Warehouse) (commands : List Command) (replies : List Reply)
    (after : Phase)
    → IsAt g old w → RanAll g old (at w) commands replies new after → (disk_of g new).keeps_word
    → (image : Image) → (g.state (device_of new)).left_since (g.state (device_of old)).moment image
    → (device : D) → IsRestarted g (g.state (device_of old)).size image device
    → IsFoundAfter g w commands replies device

-- A run crashed after some of its commands had replied: the device was restarted with an image that the crash may have
-- left since.
pub record IsCrashed {D : Type 0} (g : Ghosts D) (w v : Warehouse) (slots : Slots) (earlier later : List Command)
    (replies others : List Reply) (device : D) : Type 0 where
  pub old : Session D g
  pub mid : Session D g
  pub new : Session D g
  pub after : Phase
  pub began : IsAt g old w
  -- these commands had replied, and queries ran in these slots
  pub first : RanAll g old (at w) earlier replies mid (amid v slots)
  -- and these were being done
  pub then_ran : RanAll g mid (amid v slots) later others new after
  pub word : (disk_of g new).keeps_word
  pub image : Image
  pub left : (g.state (device_of new)).left_since (g.state (device_of mid)).moment image
  pub restarted : IsRestarted g (g.state (device_of mid)).size image device

-- The same after any of the commands: a crash later than some of them leaves all changes that these acknowledged. So no
-- batch and no dimension row is lost that was acknowledged before the crash.
abbrev pub LaterCrashIsFound : {D : Type 0} → Ghosts D → Type 0
LaterCrashIsFound {D} g = (w v : Warehouse) (slots : Slots) (earlier later : List Command) (replies others : List Reply)
    (device : D)
    → IsCrashed g w v slots earlier later replies others device
    → (facts_in v ≡ acknowledged_all (facts_in w) earlier replies) × IsFoundAfter g v later others device

-- What a run leaves that crashed after some of its commands had replied: the facts that these acknowledged, then those
-- that some of the others acknowledged, and maybe the change that the next one was making.
pub record IsLeftByCrash (w : Warehouse) (earlier later : List Command) (replies others : List Reply)
    (found : Warehouse) : Type 0 where
  pub done : ℕ
  pub within : done ≤ length later
  pub may : MayBeFound
      (acknowledged_all (acknowledged_all (facts_in w) earlier replies) (take done later) (take done others))
      (submitted (slice_get later done)) found

-- A device that was restarted with an image shows what that image shows, and nothing else. So what any call says of
-- what a crash leaves holds of the restarted device.
abbrev pub RestartedShows : {D : Type 0} → Ghosts D → Type 0
RestartedShows {D} g = (size : ℕ) (image : Image) (device : D) (c : Content) → IsRestarted g size image device
    → Shows size image c
    → AllShow (disk g device) (λ found. found ≡ c)

-- An opening that crashes anywhere, and is run again: by the clauses of `open` on what a crash leaves, the restarted
-- device has the same batches still, and so the next opening finds them.
abbrev pub CrashedOpenIsFound : {D : Type 0} → Ghosts D → Type 0
CrashedOpenIsFound {D} g = (start end : D) (facts : Facts)
    → Leaves (disk g start) (disk g end) (MayRepresentSince (disk g start) facts None) → g.keeps_word end
    → (image : Image) → (g.state end).left_since (g.state start).moment image
    → (device : D) → IsRestarted g (g.state start).size image device
    → AllShow (disk g device) (MayRepresent facts None)

-- A creation that crashes anywhere: by the clauses of `create` on what a crash leaves, the restarted device has no
-- valid superblock still, or is the warehouse of no batch.
abbrev pub CrashedCreateIsFound : {D : Type 0} → Ghosts D → Type 0
CrashedCreateIsFound {D} g = (start end : D) (rows : DimRows)
    → LeavesOrNone (disk g start) (disk g end) (λ c. Represents c (fresh rows)) → g.keeps_word end
    → (image : Image) → (g.state end).left_since (g.state start).moment image
    → (device : D) → IsRestarted g (g.state start).size image device
    → Each (disk g device) IsBlank ⊎ AllShow (disk g device) (λ c. Represents c (fresh rows))

-- What was acknowledged is there: a device with fewer batches than a warehouse, or fewer additions of dimension rows,
-- is never what is found after a run that began there.
abbrev pub FewerIsNotFound : {D : Type 0} → Ghosts D → Type 0
FewerIsNotFound {D} g = (w fewer : Warehouse) (commands : List Command) (replies : List Reply) (device : D)
    (image : Image)
    → g.keeps_word device → IsImage (g.state device) image
    → IsFoundAfter g w commands replies device → AllShow (disk g device) (λ c. Represents c fewer)
    → (length fewer.batches < length w.batches) ⊎ (fewer.additions < w.additions) → ⊥
