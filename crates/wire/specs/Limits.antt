-- The limits of what is stored on a device, each in one place. Our layout.
use Rattle.std.specs.Prelude.{ℕ}

-- sectors of a device, at least
abbrev pub least_sectors : ℕ
least_sectors = 64

-- bytes of an object, and of a catalogue
abbrev pub most_object_bytes : ℕ
most_object_bytes = 134217728

-- objects of a store
abbrev pub most_objects : ℕ
most_objects = 65536

-- bytes of a root
abbrev pub most_root_bytes : ℕ
most_root_bytes = 65536
