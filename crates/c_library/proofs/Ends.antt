-- What a creation and a load come to on the file.
use Rattle.std.proofs.Common.{◌≡◌, ◌≢◌, ◌⊎◌, ⊎_elim, inl, inr, ℕ, ◌<◌, List, [], length, sym, ap, subst}
use Rattle.cube_model.specs.declared.fault.Fault.{Fault}
use Rattle.cube_model.specs.declared.fault.Fault.TheVariants.{AlreadyFormatted, Device, DeviceSize, Full, Memory}
use Rattle.cube_model.specs.declared.rows.DimRows.{DimRows}
use Rattle.sector_device.specs.Device.{LeavesOnly}
use Rattle.sector_device.specs.EventRuns.{sectors_in}
use Rattle.c_library.specs.Creating.{CreateRefuses, Creates}
use Rattle.c_library.specs.Journals.{LeavesAtEach, device_after, named_fault}
use Rattle.c_library.specs.Loading.{HoldsSome, LoadsImage, LoadsAll, loaded_all}
use Rattle.c_library.proofs.Files.{at_each, at_first}
use Rattle.journal_device.specs.After.{state_after}
use Rattle.journal_device.specs.Lawful.{PrefixIsLeft}
use Rattle.journal_device.specs.declared.call.Call.{Call}
use Rattle.object_store.specs.Disk.{AllShow, Each, IsBlank, ShowsSome, ShowsSomeOrNone}
use Rattle.object_store.specs.Room.{LacksRoom, empty_room}
use Rattle.warehouse_objects.specs.Facts.{Facts}
use Rattle.warehouse_objects.specs.Lawful.{dimension_puts}
use Rattle.warehouse_objects.specs.Represents.{Represents}
use Rattle.warehouse_objects.specs.Warehouse.{fresh}
use Rattle.warehouse_root.specs.declared.layout.Layout.TheVariants.{First}
use Rattle.warehouse_root.specs.Root.{first_root, root_spelling}

module _ (law : PrefixIsLeft) (image : List ℕ) (before after calls : List Call) (none : before ≡ [])
    (are : calls ≡ after) where
  pub creates : (rows : DimRows) → AllShow (device_after image after) (λ c. Represents c (fresh rows))
      → (Each (device_after image before) IsBlank
      → LeavesOnly (state_after image before) (state_after image after)
      (ShowsSomeOrNone (λ c. Represents c (fresh rows)) (length (sectors_in image))))
      → Creates image rows calls
  creates rows represents leaves = record {
    represents = subst (λ (l : List Call). AllShow (device_after image l) (λ c. Represents c (fresh rows))) (sym are)
        represents;
    leaves = λ blank. subst (λ (l : List Call). LeavesAtEach image l (ShowsSomeOrNone (λ c. Represents c (fresh rows))))
        (sym are)
        (at_each law image before after (ShowsSomeOrNone (λ c. Represents c (fresh rows))) none
        (leaves (at_first image before IsBlank none blank)));
  }

  pub loads : (facts : Facts) (first size : ℕ) (text : List ℕ) (all : LoadsAll facts first size text)
      → AllShow (device_after image after) (λ c. Represents c (loaded_all all))
      → LeavesOnly (state_after image before) (state_after image after)
      (ShowsSome (HoldsSome all.w first size text) (length (sectors_in image)))
      → LoadsImage image facts first size text calls
  loads facts first size text all represents leaves = record {
    all = all;
    represents = subst (λ (l : List Call). AllShow (device_after image l) (λ c. Represents c (loaded_all all)))
        (sym are) represents;
    leaves = subst (λ (l : List Call). LeavesAtEach image l (ShowsSome (HoldsSome all.w first size text))) (sym are)
        (at_each law image before after (ShowsSome (HoldsSome all.w first size text)) none leaves);
  }

-- a creation is refused
pub not_created : (image : List ℕ) (rows : DimRows) (before : List Call) (fault : Fault) → before ≡ []
    → (fault ≡ AlreadyFormatted) ⊎ ((fault ≡ DeviceSize) ⊎ ((fault ≡ Device) ⊎ ((fault ≡ Full) ⊎ (fault ≡ Memory))))
    → (Each (device_after image before) IsBlank → fault ≢ AlreadyFormatted)
    → (fault ≡ DeviceSize → length (sectors_in image) < 64)
    → (fault ≡ Full
    → LacksRoom (empty_room (length (sectors_in image))) (dimension_puts rows) [] (root_spelling (first_root First)))
    → CreateRefuses image rows (named_fault fault)
not_created image rows before fault none causes already few full = ⊎_elim
    (λ there. inr (inr (inl (ap named_fault there, λ blank. already (at_first image before IsBlank none blank) there))))
    (λ other. ⊎_elim (λ size. inr (inl (ap named_fault size, inr (few size))))
    (λ more. ⊎_elim (λ device. inl (ap named_fault device))
    (λ last. ⊎_elim (λ room. inr (inr (inr (ap named_fault room, full room)))) (λ memory. inl (ap named_fault memory))
    last) more)
    other)
    causes
