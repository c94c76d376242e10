-- For which causes a copy is not made.
use Rattle.std.proofs.Common.{◌≡◌, ◌⊎◌, ⊎_elim, inl, inr, ℕ, List, Option, refl, sym, subst}
use Rattle.sector_device.specs.declared.device.Sectors.{Ghosts}
use Rattle.cube_model.specs.declared.fault.Fault.{Fault}
use Rattle.cube_model.specs.declared.fault.Fault.TheVariants.{AlreadyFormatted, BadLayout, Device, DeviceSize, Full}
use Rattle.cube_model.specs.declared.fault.Fault.TheVariants.{Memory, TooManyCells, Worn}
use Rattle.warehouse_root.specs.declared.cuboid.StoredCuboid.{StoredCuboid}
use Rattle.warehouse_objects.specs.Warehouse.{Cuboid, Warehouse}
use Rattle.warehouse.specs.declared.session.Session.{Session}
use Rattle.warehouse.specs.Upkeep.{UpkeepRefuses}
use Rattle.warehouse_jobs.specs.Copied.{AreBroughtOn, AreSaidOf, IsCopyFault}

-- a fault is one of the device, or it is not
pub device_or : (fault : Fault) → (fault ≡ Device) ⊎ (fault ≡ Device → ⊥)
device_or Device = inl refl
device_or fault = inr (λ e. cc)

pub is_fault : (fault one : Fault) → IsCopyFault one → fault ≡ one → IsCopyFault fault
is_fault fault one so same = subst IsCopyFault (sym same) so

-- where the device has not failed, it is enough to know the other causes
pub or_device : (fault : Fault) → ((fault ≡ Device → ⊥) → IsCopyFault fault) → IsCopyFault fault
or_device fault others = ⊎_elim (λ (device : fault ≡ Device). is_fault fault Device tt device) others (device_or fault)

-- a commit is refused
pub of_commit : {A B : Type 0} (fault : Fault) → (fault ≡ Memory) ⊎ (((fault ≡ Worn) × A) ⊎ ((fault ≡ Full) × B))
    → IsCopyFault fault
of_commit fault why =
    ⊎_elim (λ memory. is_fault fault Memory tt memory)
    (λ two. ⊎_elim (λ worn. is_fault fault Worn tt worn.0) (λ full. is_fault fault Full tt full.0) two) why

-- a store is not made
pub of_making : (fault : Fault) → (fault ≡ AlreadyFormatted)
    ⊎ ((fault ≡ DeviceSize) ⊎ ((fault ≡ Device) ⊎ ((fault ≡ Full) ⊎ (fault ≡ Memory)))) → IsCopyFault fault
of_making fault why =
    ⊎_elim (is_fault fault AlreadyFormatted tt)
    (λ a. ⊎_elim (is_fault fault DeviceSize tt)
    (λ b. ⊎_elim (is_fault fault Device tt)
    (λ d. ⊎_elim (is_fault fault Full tt) (is_fault fault Memory tt) d) b) a) why

module _ {D : Type 0} (g : Ghosts D) (session : Session D g) (w : Warehouse) (fault : Fault) where
  -- upkeep is refused, and not because a view is too large
  pub of_upkeep : UpkeepRefuses g session w fault → ((number : ℕ) → fault ≡ TooManyCells number → ⊥) → IsCopyFault fault
  of_upkeep why other =
      ⊎_elim (λ large. absurd (other large.0 large.1))
      (λ kept. ⊎_elim (λ memory. is_fault fault Memory tt memory)
      (λ commits. ⊎_elim (λ refused. of_commit fault refused) (λ least. of_commit fault least.next.refuses) commits)
      kept) why

  -- upkeep passed over views that are too large
  pub passed_over : UpkeepRefuses g session w fault → (number : ℕ) → fault ≡ TooManyCells number → AreBroughtOn w
  passed_over why number is =
      ⊎_elim (λ large. inr (large.0, large.2, large.3))
      (λ kept. absurd (never (⊎_elim (λ memory. is_fault fault Memory tt memory)
      (λ commits. ⊎_elim (λ refused. of_commit fault refused) (λ least. of_commit fault least.next.refuses) commits)
      kept))) why
    where
      never : IsCopyFault fault → ⊥
      never so = subst IsCopyFault is so

-- there is no memory, or the device fails
pub memory_or_device : (fault : Fault) → ((fault ≡ Device → ⊥) → fault ≡ Memory) → IsCopyFault fault
memory_or_device fault why = or_device fault (λ no. is_fault fault Memory tt (why no))

-- the views of stored cuboids are found
pub views_fault : (fault : Fault) (stored : List Cuboid) (places : List (Option StoredCuboid))
    → (fault ≡ Memory)
    ⊎ ((fault ≡ BadLayout)
    × ((others : List Cuboid) → AreSaidOf others places → ⊥))
    → AreSaidOf stored places → IsCopyFault fault
views_fault fault stored places why said =
    ⊎_elim (λ memory. is_fault fault Memory tt memory) (λ bad. absurd (bad.1 stored said)) why
