-- What a store shows of itself.
use Rattle.std.specs.Prelude.{◌≡◌, ◌⊎◌, ℕ, ◌+◌, ◌-◌, ◌^◌, min, Bool, true, false, Option, option_map, List}
use Rattle.sector_device.specs.declared.device.Sectors.{Ghosts}
use Rattle.cube_model.specs.declared.fault.Fault.{Fault}
use Rattle.cube_model.specs.declared.fault.Fault.TheVariants.{Memory, Worn, Full}
use Rattle.object_store.specs.declared.store.Store.{Store}
use Rattle.object_store.specs.Content.{Content}
use Rattle.object_store.specs.Commit.{find_by}
use Rattle.object_store.specs.Disk.{Disk, disk}
use Rattle.object_store.specs.Ready.{content_from}
use Rattle.object_store.specs.Places.{sizes_at, used_by}
use Rattle.object_store.specs.Room.{Room, LacksRoom}

module _ {D : Type 0} where
  abbrev pub device_of : {g : Ghosts D} → Store D g → D
  device_of store = store.device

  -- it met Device before
  abbrev pub has_failed : {g : Ghosts D} → Store D g → Bool
  has_failed store = store.failed

  abbrev pub content_of : (g : Ghosts D) → Store D g → Content
  content_of g store = content_from (g.state store.device).reads store.superblock store.entries.items store.root.items

  abbrev pub disk_of : (g : Ghosts D) → Store D g → Disk
  disk_of g store = disk g store.device

  -- what the first fits of its next commit look at
  abbrev pub room_of : {g : Ghosts D} → Store D g → Room
  room_of store = record {
    sectors = store.superblock.sectors;
    used = used_by store.superblock store.entries.items;
    sizes = sizes_at store.entries.items;
  }

-- how many bytes an object has, by its entry
abbrev pub size_in : {D : Type 0} {g : Ghosts D} → Store D g → ℕ → Option ℕ
size_in store id = option_map (λ e. e.bytes) (find_by (λ e. e.id) id store.entries.items)

-- the last generation there can be
abbrev pub last_generation : ℕ
last_generation = 2 ^ 64 - 1

-- a read leaves the objects as they are, also where the device failed
pub record KeepsObjects {D : Type 0} (g : Ghosts D) (old new : Store D g) : Type 0 where
  pub word : (disk_of g new).keeps_word → (disk_of g old).keeps_word
  pub content : (disk_of g new).keeps_word → content_of g new ≡ content_of g old
  pub sizes : (id : ℕ) → size_in new id ≡ size_in old id

-- What the store holds stays. The device may have been read.
pub record IsStill {D : Type 0} (g : Ghosts D) (old new : Store D g) : Type 0 where
  pub word : (disk_of g new).keeps_word → (disk_of g old).keeps_word
  pub content : (disk_of g new).keeps_word → content_of g new ≡ content_of g old
  pub room : room_of new ≡ room_of old
  pub sizes : (id : ℕ) → size_in new id ≡ size_in old id
  pub failed : has_failed new ≡ has_failed old
  pub failures : (disk_of g new).failures ≡ (disk_of g old).failures

-- a refusal left all as it was: the device, what the store holds, and what the first fits look at
pub record IsAsBefore {D : Type 0} (g : Ghosts D) (old new : Store D g) : Type 0 where
  pub device : device_of new ≡ device_of old
  pub content : content_of g new ≡ content_of g old
  pub room : room_of new ≡ room_of old
  pub failed : has_failed new ≡ has_failed old

-- the device failed in this call, and the store answers Failed from now on
pub record Breaks {D : Type 0} (g : Ghosts D) (old new : Store D g) : Type 0 where
  pub before : has_failed old ≡ false
  pub failed : has_failed new ≡ true
  pub failures : (disk_of g new).failures ≡ min ((disk_of g old).failures + 1) (2 ^ 64 - 1)

-- Why a commit is refused before its first device call: no memory, the last generation, or no room.
abbrev pub Refuses : Content → Room → List (ℕ × List ℕ) → List ℕ → List ℕ → Fault → Type 0
Refuses content room puts drops root fault =
    (fault ≡ Memory)
    ⊎ (((fault ≡ Worn) × (content.generation ≡ last_generation))
    ⊎ ((fault ≡ Full) × LacksRoom room puts drops root))

-- the one or the other
abbrev pub IsOneOf : Content → Content → Content → Type 0
IsOneOf before after c = (c ≡ before) ⊎ (c ≡ after)
