-- What the definitions mean. Each is proved as the contract of a function of its name.
use Rattle.std.specs.Prelude.{◌≡◌, ℕ, List}
use Rattle.cuboid_cells.specs.declared.span.Span.{Span}
use Rattle.cuboid_cells.specs.Cells.{PlainCells}
use Rattle.cuboid_cells.specs.Spelled.{IsRun}

-- bytes are at most one run
abbrev pub BytesAreOneRun : Type 0
BytesAreOneRun = (bytes : List ℕ) (span to : Span) (a b : PlainCells) → IsRun bytes span a → IsRun bytes to b
    → (span ≡ to) × (a ≡ b)
