-- The fields of a line.
use Rattle.std.specs.Prelude.{ℕ, List, [], ◌∷◌}
use Rattle.std.specs.Fmt.{decimal}
use Rattle.cube_model.specs.declared.attr.Attr.{Attr}
use Rattle.table_texts.specs.declared.part.Part.{Part}
use Rattle.table_texts.specs.declared.part.Part.TheVariants.{Text, Rows}
use Rattle.table_texts.specs.declared.uppers.Uppers.{Uppers}
use Rattle.table_texts.specs.declared.uppers.Uppers.TheVariants.{Nothing, One, Two}

-- a text as it is, and a number of rows in decimal
abbrev pub member_part_text : Part → List ℕ
member_part_text (Text text) = text.now
member_part_text (Rows number) = decimal number

-- the attributes above another one
abbrev pub listed : Uppers → List Attr
listed Nothing = []
listed (One next) = next ∷ []
listed (Two next top) = next ∷ top ∷ []
