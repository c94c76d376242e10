-- How many sectors a warehouse takes of its device. Our own.
use Rattle.std.specs.Prelude.{ℕ, ◌+◌, Option, Some, None, length}
use Rattle.std.specs.List.{sum_by}
use Rattle.std.specs.Option.{option_map}
use Rattle.superblock.specs.Superblock.{sectors_of}
use Rattle.object_store.specs.Content.{Content, bytes_of}
use Rattle.object_store.specs.Room.{catalogue_bytes}
use Rattle.warehouse_root.specs.Objects.{object_ids}
use Rattle.warehouse_objects.specs.Warehouse.{Warehouse}
use Rattle.warehouse_objects.specs.Represents.{root_of}

-- how many sectors an object of so many bytes takes; what is not there takes none
abbrev pub sectors_of_size : Option ℕ → ℕ
sectors_of_size None = 0
sectors_of_size (Some bytes) = sectors_of bytes

-- the same of the object of an id in a content
abbrev pub object_sectors : Content → ℕ → ℕ
object_sectors c id = sectors_of_size (option_map length (bytes_of c id))

-- how many sectors a warehouse takes in a content: the two superblocks, the catalogue, and the objects of the warehouse
abbrev pub sectors_taken : Content → Warehouse → ℕ
sectors_taken c w =
    2 + (sectors_of (catalogue_bytes (length c.objects) (length c.root))
    + sum_by (object_sectors c) (object_ids (root_of w)))
