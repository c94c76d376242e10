-- What an opening may find.
use Rattle.std.specs.Prelude.{◌≡◌, ◌≢◌, ◌⊎◌, ◌+◌, ◌-◌, ◌^◌, min, true, Option, Some, All}
use Rattle.sector_device.specs.declared.device.Sectors.{Ghosts}
use Rattle.cube_model.specs.declared.fault.Fault.{Fault}
use Rattle.cube_model.specs.declared.fault.Fault.TheVariants.{BadLayout, Device, Full, Memory, NotFormatted, Worn}
use Rattle.object_store.specs.Content.{Content}
use Rattle.object_store.specs.Disk.{AllShow, Disk, Each, IsBlank, IsShown, Leaves, disk}
use Rattle.object_store.specs.Found.{ExplainsRefusal, is_of_layout}
use Rattle.object_store.specs.Shows.{HasNone}
use Rattle.warehouse_objects.specs.Facts.{AddsChange, Change, Facts, facts_in}
use Rattle.warehouse_objects.specs.Warehouse.{Warehouse}
use Rattle.stored_cuboids.specs.Keeping.{IsKeptUp, IsReachedOrLarge}
use Rattle.stored_cuboids.specs.Nexts.{RefusesLeast}
use Rattle.warehouse_objects.specs.Represents.{Represents}
use Rattle.warehouse.specs.declared.session.Session.{Session}

-- What a crash may have left: the facts that were acknowledged, or these with the change whose command was running.
abbrev pub MayBeFound : Facts → Option Change → Warehouse → Type 0
MayBeFound facts last found =
    (facts_in found ≡ facts) ⊎ ((change : Change) × (last ≡ Some change) × AddsChange facts change (facts_in found))

-- a content represents facts that may be found
abbrev pub MayRepresent : Facts → Option Change → Content → Type 0
MayRepresent facts last c = (w : Warehouse) × MayBeFound facts last w × Represents c w

-- the views and the target are those of what an image of then shows, and no mark is below
pub record IsSince (start : Disk) (w : Warehouse) : Type 0 where
  pub content : Content
  pub shown : IsShown start content
  pub first : Warehouse
  pub represents : Represents content first
  pub kept : IsKeptUp first w
  pub target : w.target ≡ first.target

-- what an opening may leave, at any point of it
abbrev pub MayRepresentSince : Disk → Facts → Option Change → Content → Type 0
MayRepresentSince start facts last c = (w : Warehouse) × MayBeFound facts last w × IsSince start w × Represents c w

-- Each stored cuboid holds the batches up to the target, or their grouping by its view has more cells than a cuboid can
-- have. Or the commit that brings the least of the others on is refused now, for lack of room or at the last
-- generation.
abbrev pub IsFinished : {D : Type 0} (g : Ghosts D) → Session D g → Warehouse → Type 0
IsFinished g session w =
    All (IsReachedOrLarge w) w.cuboids
    ⊎ ((fault : Fault) × ((fault ≡ Full) ⊎ (fault ≡ Worn)) × RefusesLeast g session.store w fault)

-- no warehouse was found: why, and what the device that is handed back is
pub record RefusesToOpen {D : Type 0} (g : Ghosts D) (device : D) (fault : Fault) (back : D) : Type 0 where
  -- where every image at the start represents batches that may be found, each at any point represents such
  pub leaves : (facts : Facts) (last : Option Change) → AllShow (disk g device) (MayRepresent facts last)
      → Leaves (disk g device) (disk g back) (MayRepresentSince (disk g device) facts last)
  -- and then it is memory or the device
  pub never : (facts : Facts) (last : Option Change) → AllShow (disk g device) (MayRepresent facts last)
      → g.keeps_word back → (fault ≡ Memory) ⊎ (fault ≡ Device)
  pub failures : fault ≡ Device → g.failed back ≡ min (g.failed device + 1) (2 ^ 64 - 1)
  pub unformatted : fault ≡ NotFormatted → g.keeps_word back → HasNone (g.state device).reads
  pub explained : fault ≢ BadLayout → g.keeps_word back
      → ExplainsRefusal fault (g.state device).size (g.state device).reads
  pub blank : fault ≡ BadLayout → g.keeps_word back → Each (disk g device) IsBlank → HasNone (g.state device).reads → ⊥
  pub causes : (fault ≡ Memory) ⊎ ((fault ≡ Device) ⊎ (is_of_layout fault ≡ true))
