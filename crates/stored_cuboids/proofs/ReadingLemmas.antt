-- An object of which a reader says that it holds no run.
use Rattle.std.specs.Prelude.{refl, ℕ, List, Option, Some, None, IsSomeAnd}
use Rattle.cuboid_cells.specs.Cells.{PlainCells}
use Rattle.cuboid_cells.specs.Spelled.{HoldsNoRun, IsRun}
use Rattle.cuboid_cells.specs.declared.span.Span.{Span}

pub none_is_run : (text : Option (List ℕ)) → HoldsNoRun text → (span : Span) (cells : PlainCells)
    → IsSomeAnd text (λ bytes. IsRun bytes span cells) → ⊥
none_is_run (Some bytes) none span cells is = none bytes span cells refl is
none_is_run None none span cells is = is
