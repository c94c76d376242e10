-- How a superblock is stored in its sector, and which rules it keeps. Our layout.
use Rattle.std.specs.Prelude.{◌≡◌, ℕ, ◌+◌, ◌/◌, ◌%◌, ◌^◌, ◌<◌, ◌≤◌, List, ◌++◌, replicate, codes}
use Rattle.wire.specs.Limits.{least_sectors, most_object_bytes}
use Rattle.wire.specs.Spelling.{spelling}
use Rattle.superblock.specs.declared.superblock.Super.{Super}

-- how many whole sectors so many bytes need
abbrev pub sectors_of : ℕ → ℕ
sectors_of bytes = (bytes + 511) / 512

-- the sector of a superblock: the name, the fields, and zeros to its end
abbrev pub sector_of : Super → List ℕ
sector_of s =
    codes "SSBCUBE1" ++ (spelling 4 s.layout ++ (spelling 4 s.sectors ++ (spelling 8 s.generation
    ++ (spelling 4 s.catalogue ++ (spelling 4 s.bytes ++ replicate 480 0)))))

-- the rules of a superblock
pub record IsProperSuperblock (s : Super) : Type 0 where
  -- there are two layouts
  pub first_layout : 1 ≤ s.layout
  pub newest_layout : s.layout ≤ 2
  pub sectors_fit : s.sectors < 2 ^ 32
  pub generation_fits : s.generation < 2 ^ 64
  -- a device has so many sectors at least
  pub least_sectors : least_sectors ≤ s.sectors
  -- generations count from 1
  pub first_generation : 1 ≤ s.generation
  -- the catalogue lies after the two superblocks, and ends where the device ends at the latest
  pub after : 2 ≤ s.catalogue
  pub within : s.catalogue + sectors_of s.bytes ≤ s.sectors
  pub least_bytes : 12 ≤ s.bytes
  pub most_bytes : s.bytes ≤ most_object_bytes

-- the bytes of a sector are those of a superblock in a slot: there is no other spelling of it
pub record IsSuperblock (slot : ℕ) (sector : List ℕ) (s : Super) : Type 0 where
  pub spelled : sector ≡ sector_of s
  pub proper : IsProperSuperblock s
  pub in_slot : s.generation % 2 ≡ slot
