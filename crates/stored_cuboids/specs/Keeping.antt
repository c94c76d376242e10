-- Keeping the stored cuboids of a warehouse up with its batches. Our own.
use Rattle.std.specs.Prelude.{◌≡◌, ◌⊎◌, ◌≤◌, ℕ, false, Option, Some, None, List, [], ◌∷◌, take, All}
use Rattle.sector_device.specs.declared.device.Sectors.{Ghosts}
use Rattle.cube_model.specs.declared.rows.DimRows.{DimRows}
use Rattle.cube_model.specs.Admission.{all_rows}
use Rattle.object_store.specs.Store as stores
use Rattle.object_store.specs.declared.store.Store.{Store}
use Rattle.lattice.specs.declared.view.View.{View}
use Rattle.lattice.specs.Views.{index_of}
use Rattle.cuboid_upkeep.specs.Steps.{HaveTooMany}
use Rattle.warehouse_root.specs.Root.{PlainRoot}
use Rattle.warehouse_objects.specs.Facts.{facts_in}
use Rattle.warehouse_objects.specs.Loaded.{IsLoaded}
use Rattle.warehouse_objects.specs.Warehouse.{Cuboid, Warehouse, cuboid_at, ship_modes_of}
use Rattle.warehouse_objects.specs.Represents.{AreItsMembers, Represents, root_of}

-- a store represents a warehouse, and its root is kept in memory
pub record StoreAt {D : Type 0} (g : Ghosts D) (store : Store D g) (root : PlainRoot) (w : Warehouse) : Type 0 where
  pub fine : stores.has_failed store ≡ false
  pub represents : (stores.disk_of g store).keeps_word → Represents (stores.content_of g store) w
  pub root_is : (stores.disk_of g store).keeps_word → root_of w ≡ root

-- what is so of the warehouse that a store represents
abbrev pub ForStored : {D : Type 0} (g : Ghosts D) → Store D g → PlainRoot → (Warehouse → Type 0) → Type 0
ForStored g store root P = (w : Warehouse) → StoreAt g store root w → P w

-- the same, given that dimensions and ship modes are its own
abbrev pub ForStoredWith : {D : Type 0} (g : Ghosts D) → Store D g → PlainRoot → DimRows → List (List ℕ)
    → (Warehouse → Type 0) → Type 0
ForStoredWith g store root dimensions ship_modes P = ForStored g store root
    (λ w. (g.keeps_word (stores.device_of store) → AreItsMembers w dimensions ship_modes) → P w)

-- what was loaded of the content of a store, with its root, is still loaded of it, with the root of now
abbrev pub StaysLoaded : {D : Type 0} (g : Ghosts D) → (old new : Store D g) → (before now : PlainRoot) → Type 0
StaysLoaded g old new before now = stores.has_failed new ≡ false → g.keeps_word (stores.device_of new)
    → (rows : DimRows) (modes : List (List ℕ)) → IsLoaded (stores.content_of g old) rows modes before
    → IsLoaded (stores.content_of g new) rows modes now

-- the same views, and no mark is less
abbrev pub AreKeptOn : List Cuboid → List Cuboid → Type 0
AreKeptOn [] [] = Unit {0}
AreKeptOn [] (other ∷ others) = ⊥
AreKeptOn (one ∷ ones) [] = ⊥
AreKeptOn (one ∷ ones) (other ∷ others) = (other.view ≡ one.view) × (one.mark ≤ other.mark) × AreKeptOn ones others

-- what upkeep leaves: the same facts, and its cuboids kept on
pub record IsKeptUp (old new : Warehouse) : Type 0 where
  pub facts : facts_in new ≡ facts_in old
  pub cuboids : AreKeptOn old.cuboids new.cuboids

-- and the same target
pub record IsCaughtUp (old new : Warehouse) : Type 0 where
  pub kept : IsKeptUp old new
  pub target : new.target ≡ old.target

-- the grouping of the first batches, as many as cuboids are to hold, by a view has more cells than a cuboid can have
abbrev pub IsTooLarge : Warehouse → View → Type 0
IsTooLarge w view = HaveTooMany w.rows (ship_modes_of w) view (all_rows (take w.target w.batches))

-- a cuboid holds as many batches as it is to, or its view is too large
abbrev pub IsReachedOrLarge : Warehouse → Cuboid → Type 0
IsReachedOrLarge w cuboid = (w.target ≤ cuboid.mark) ⊎ IsTooLarge w cuboid.view

-- a cuboid holds as many batches as it is to, unless it was passed over because its view is too large
abbrev pub IsReached : Option View → Warehouse → Cuboid → Type 0
IsReached None w cuboid = w.target ≤ cuboid.mark
IsReached (Some view) w cuboid = (cuboid.view ≡ view) × IsTooLarge w view

-- The stored cuboid of the view of a number is the first that is too large: each other one holds as many batches as it
-- is to, or is too large and has no lower view.
pub record IsLeastTooLarge (w : Warehouse) (number : ℕ) : Type 0 where
  pub cuboid : Cuboid
  pub stored : cuboid_at number w.cuboids ≡ Some cuboid
  pub large : IsTooLarge w cuboid.view
  pub others : All (λ other. (w.target ≤ other.mark) ⊎ (IsTooLarge w other.view × (number ≤ index_of other.view)))
      w.cuboids

-- each stored cuboid holds as many batches as it is to, but those that are too large, of which the first one is given
abbrev pub IsDone : Warehouse → Option View → Type 0
IsDone w None = All (λ cuboid. w.target ≤ cuboid.mark) w.cuboids
IsDone w (Some view) = IsLeastTooLarge w (index_of view)
