-- The next run of a stored cuboid, and what its commit puts. Our own.
use Rattle.std.specs.Prelude.{◌≡◌, ◌⊎◌, ℕ, ◌≤◌, ◌<◌, Some, List, [], ◌∷◌, ◌++◌, length, All}
use Rattle.sector_device.specs.declared.device.Sectors.{Ghosts}
use Rattle.cube_model.specs.declared.fault.Fault.{Fault}
use Rattle.cube_model.specs.declared.fault.Fault.TheVariants.{BadLayout, Device, Full, Memory, Worn}
use Rattle.lattice.specs.Views.{index_of}
use Rattle.cuboid_cells.specs.declared.span.Span.{Span}
use Rattle.cuboid_cells.specs.Cells.{PlainCells}
use Rattle.cuboid_cells.specs.Spelled.{IsRun}
use Rattle.object_store.specs.Commit.{ArePuts}
use Rattle.object_store.specs.Store as stores
use Rattle.object_store.specs.declared.store.Store.{Store}
use Rattle.warehouse_root.specs.declared.cuboid.StoredCuboid.{StoredCuboid}
use Rattle.warehouse_root.specs.Objects.{run_id}
use Rattle.warehouse_root.specs.Root.{IsRoot, PlainRoot, with_cuboid}
use Rattle.warehouse_objects.specs.Lawful.{MayReplace, later_runs}
use Rattle.warehouse_objects.specs.Represents.{HoldsGroupings, root_of, run_bytes, said_of}
use Rattle.warehouse_objects.specs.Warehouse.{Cuboid, StoredRun, Warehouse, cuboid_at, kept}
use Rattle.stored_cuboids.specs.Keeping.{IsReachedOrLarge}
use Rattle.stored_cuboids.specs.declared.keeping.Next.{Next}

-- a run is put after the others
pub record Appends (old new : Cuboid) (run : StoredRun) (next : Next) : Type 0 where
  pub runs : new.runs ≡ old.runs ++ run ∷ []
  pub id : next.id ≡ run_id (index_of new.view) (length old.runs)
  pub drops : next.drops.items ≡ []

-- a run is put in the place of all of them
pub record Merges (old new : Cuboid) (run : StoredRun) (next : Next) : Type 0 where
  pub runs : new.runs ≡ run ∷ []
  pub id : next.id ≡ run_id (index_of new.view) 0
  pub drops : next.drops.items ≡ later_runs old

-- a cuboid takes the place of another one by a run, and this is what the commit puts
pub record BringsOn (w : Warehouse) (old new : Cuboid) (run : StoredRun) (next : Next) : Type 0 where
  pub may : MayReplace w old new
  pub how : Appends old new run next ⊎ Merges old new run next
  pub bytes : next.bytes.items ≡ run_bytes new run
  pub root : next.root ≡ root_of (kept w new)
  pub spelled : IsRoot next.root_bytes.items next.root

-- the objects from here on are runs of cuboids
abbrev pub first_run : ℕ
first_run = run_id 0 0

-- what was made for a commit: the bytes of a run, and the root with a cuboid, and its bytes
pub record IsMade (root : PlainRoot) (after : StoredCuboid) (id : ℕ) (span : Span) (cells : PlainCells) (drops : List ℕ)
    (next : Next) : Type 0 where
  pub id_is : next.id ≡ id
  pub bytes : IsRun next.bytes.items span cells
  pub drops_are : next.drops.items ≡ drops
  pub root_is : next.root ≡ with_cuboid after root
  pub spelled : IsRoot next.root_bytes.items next.root

-- a warehouse has a root, and stores a cuboid of which the root says something
pub record HasStored (root : PlainRoot) (said : StoredCuboid) (w : Warehouse) (stored : Cuboid) : Type 0 where
  pub root_is : root ≡ root_of w
  pub found : cuboid_at said.view w.cuboids ≡ Some stored
  pub said_is : said_of stored ≡ said
  pub holds : HoldsGroupings w stored

-- a change of cuboids that keeps their views, and makes no mark less
pub record RaisesMarks (change : Cuboid → Cuboid) : Type 0 where
  pub view : (cuboid : Cuboid) → (change cuboid).view ≡ cuboid.view
  pub mark : (cuboid : Cuboid) → cuboid.mark ≤ (change cuboid).mark

-- What brings the cuboid of which a root says something on to a mark, in each warehouse with a property. It can be put
-- whatever the warehouse is.
pub record IsNextStep (Holds : Warehouse → Type 0) (root : PlainRoot) (said : StoredCuboid) (mark : ℕ)
    (next : Next) : Type
    0 where
  pub put : ArePuts ((next.id, next.bytes.items) ∷ [])
  pub runs : All (λ id. first_run ≤ id) (next.id ∷ next.drops.items)
  pub spelled : IsRoot next.root_bytes.items next.root
  pub after : StoredCuboid
  pub view : after.view ≡ said.view
  pub mark_is : after.mark ≡ mark
  pub root_is : next.root ≡ with_cuboid after root
  pub change : Cuboid → Cuboid
  pub goes_on : RaisesMarks change
  pub reaches : (cuboid : Cuboid) → cuboid.mark ≤ mark → (change cuboid).mark ≡ mark
  pub brings : (w : Warehouse) (old : Cuboid) → HasStored root said w old → Holds w
      → (run : StoredRun) × BringsOn w old (change old) run next

-- Why bringing cuboids on ends: no memory, the device fails, a content of no warehouse, no room, or the last
-- generation.
abbrev pub EndsBringing : Fault → Type 0
EndsBringing fault = (fault ≡ Memory) ⊎ ((fault ≡ Device) ⊎ ((fault ≡ BadLayout) ⊎ ((fault ≡ Full) ⊎ (fault ≡ Worn))))

-- the store refuses the commit that brings a cuboid on to the target
pub record RefusesToBringOn {D : Type 0} (g : Ghosts D) (store : Store D g) (w : Warehouse) (fault : Fault) : Type 0
  where
    pub old : Cuboid
    pub new : Cuboid
    pub run : StoredRun
    pub next : Next
    pub less : old.mark < w.target
    pub target : new.mark ≡ w.target
    pub brings : BringsOn w old new run next
    pub refuses : stores.Refuses (stores.content_of g store) (stores.room_of store) ((next.id, next.bytes.items) ∷ [])
        next.drops.items next.root_bytes.items fault

-- That cuboid is the least that is to be brought on: each one of a lower view holds as many batches as it is to, or is
-- too large.
pub record RefusesLeast {D : Type 0} (g : Ghosts D) (store : Store D g) (w : Warehouse) (fault : Fault) : Type 0 where
  pub next : RefusesToBringOn g store w fault
  pub lower : All (λ other. index_of other.view < index_of next.old.view → IsReachedOrLarge w other) w.cuboids

-- a warehouse becomes another one by a cuboid that is brought on
pub record IsBroughtBy (w : Warehouse) (next : Next) (v : Warehouse) : Type 0 where
  pub old : Cuboid
  pub new : Cuboid
  pub run : StoredRun
  pub brings : BringsOn w old new run next
  pub is : v ≡ kept w new
