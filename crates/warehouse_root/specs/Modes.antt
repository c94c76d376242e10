-- The object of the ship modes of a warehouse of the second layout. Our layout.
use Rattle.std.specs.Prelude.{◌≡◌, false, ℕ, List, [], ◌++◌, codes}
use Rattle.std.specs.List.{list_any}
use Rattle.std.specs.Str.{bytes_eq}
use Rattle.cube_model.specs.Limits.{most_members}
use Rattle.cube_model.specs.ShipModes.{modes_in}
use Rattle.cube_model.specs.declared.rows.LineOrder.{LineOrder}
use Rattle.dictionary.specs.Dictionary.{firsts}
use Rattle.dictionary.specs.Spelling.{AreProper, texts_spelling}
use Rattle.warehouse_root.specs.declared.layout.Layout.{Layout}
use Rattle.warehouse_root.specs.declared.layout.Layout.TheVariants.{First, Second}

-- the id of the object
abbrev pub modes_id : ℕ
modes_id = 5

-- its bytes: a name, then the ship modes as a dictionary
abbrev pub modes_spelling : List (List ℕ) → List ℕ
modes_spelling modes = codes "SHP2" ++ texts_spelling modes

-- ship modes that can be the members of an axis: none occurs twice or is too long, they are not too many, and none is
-- the text that means all of them
pub record AreModes (modes : List (List ℕ)) : Type 0 where
  pub proper : AreProper most_members modes
  pub free : list_any (bytes_eq (codes "ALL")) modes ≡ false

-- the bytes are those of ship modes
pub record SpellModes (bytes : List ℕ) (modes : List (List ℕ)) : Type 0 where
  pub spelled : bytes ≡ modes_spelling modes
  pub are : AreModes modes

-- the ship modes that a layout keeps of fact rows: from the second on each, in the order of first use
abbrev pub kept_modes : Layout → List LineOrder → List (List ℕ)
kept_modes First rows = []
kept_modes Second rows = firsts (modes_in rows)
