-- What the definitions mean. Each is proved as the contract of a function of its name.
use Rattle.std.specs.Prelude.{◌≡◌, ℕ, List}
use Rattle.sector_device.specs.Device.{Image}
use Rattle.object_store.specs.Content.{Content, bytes_of}
use Rattle.object_store.specs.Commit.{among, committed, without}
use Rattle.object_store.specs.Shows.{Shows}

-- an image shows at most one content
abbrev pub ImageShowsOneContent : Type 0
ImageShowsOneContent = (size : ℕ) (image : Image) (c d : Content) → Shows size image c → Shows size image d → c ≡ d

-- after a commit each id has the bytes of the last put with that id, if there is one, and else those of before, if it
-- was not dropped
abbrev pub CommitPutsAndDrops : Type 0
CommitPutsAndDrops = (puts : List (ℕ × List ℕ)) (drops root : List ℕ) (layout : ℕ) (c : Content) (id : ℕ)
    → bytes_of (committed puts drops root layout c) id ≡ among puts id (without drops id (bytes_of c id))
