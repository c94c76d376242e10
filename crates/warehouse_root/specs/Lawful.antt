-- What the definitions mean. Each is proved as the contract of a function of its name.
use Rattle.std.specs.Prelude.{◌≡◌, ℕ, ◌<◌, ◌≤◌, List, length}
use Rattle.std.specs.List.{AllPairs}
use Rattle.wire.specs.Limits.{most_root_bytes}
use Rattle.warehouse_root.specs.declared.layout.Layout.{Layout}
use Rattle.warehouse_root.specs.Modes.{SpellModes}
use Rattle.warehouse_root.specs.Objects.{object_ids}
use Rattle.warehouse_root.specs.Root.{IsProperRoot, IsRoot, IsRootOf, PlainRoot}

-- bytes are at most one root of a layout
abbrev pub BytesAreOneRoot : Type 0
BytesAreOneRoot = (layout : Layout) (bytes : List ℕ) (a b : PlainRoot) → IsRootOf layout bytes a
    → IsRootOf layout bytes b → a ≡ b

-- the objects that a proper root asks for have ids that differ, and come by ascending id
abbrev pub ObjectsAreApart : Type 0
ObjectsAreApart = (root : PlainRoot) → IsProperRoot root → AllPairs (λ one other. one < other) (object_ids root)

-- a root is no longer than a store takes
abbrev pub RootsAreShort : Type 0
RootsAreShort = (bytes : List ℕ) (root : PlainRoot) → IsRoot bytes root → length bytes ≤ most_root_bytes

-- bytes are one list of ship modes at most
abbrev pub BytesAreOneListOfModes : Type 0
BytesAreOneListOfModes = (bytes : List ℕ) (a b : List (List ℕ)) → SpellModes bytes a → SpellModes bytes b → a ≡ b
