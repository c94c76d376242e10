-- The fields of a line.
use Rattle.std.specs.Prelude.{ℕ, List}
use Rattle.std.specs.Fmt.{decimal}
use Rattle.table_texts.specs.declared.cell.Cell.{Cell}
use Rattle.table_texts.specs.declared.cell.Cell.TheVariants.{Number, Text}

-- a number in decimal, and a text as it is
abbrev pub cell_text : Cell → List ℕ
cell_text (Number number) = decimal number
cell_text (Text text) = text.now
