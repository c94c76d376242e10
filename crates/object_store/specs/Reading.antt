-- What is found in the two slots of a device. Our own.
use Rattle.std.specs.Prelude.{ℕ, ◌%◌, ◌<◌, ◌≤◌, ◌==◌, if◌then◌else◌, List}
use Rattle.sector_device.specs.Device.{Image}
use Rattle.superblock.specs.declared.superblock.Super.{Super}
use Rattle.superblock.specs.Superblock.{IsSuperblock}

-- what is in the two slots
abbrev pub two : List ℕ → List ℕ → Image
two even odd slot = if slot == 0 then even else odd

-- the valid superblock of the greater generation
pub record IsNewest (image : Image) (super : Super) : Type 0 where
  pub in_slot : IsSuperblock (super.generation % 2) (image (super.generation % 2)) super
  pub newest : (slot : ℕ) → slot < 2 → (other : Super) → IsSuperblock slot (image slot) other
      → other.generation ≤ super.generation
