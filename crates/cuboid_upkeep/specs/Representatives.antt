-- Rows that represent cells: each has the members of its cell, and nothing else is looked at. Our own.
use Rattle.std.specs.Prelude.{◌≡◌, ℕ, suc, ◌<◌, ◌==◌, cond, true, Option, Some, None, List, [], ◌∷◌, length}
use Rattle.std.specs.Prelude.{slice_index_or, slice_set}
use Rattle.std.specs.Option.{is_some}
use Rattle.cube_model.specs.declared.attr.Axis.{Axis}
use Rattle.cube_model.specs.declared.rows.DimRows.{DimRows}
use Rattle.cube_model.specs.declared.rows.LineOrder.{LineOrder}
use Rattle.cube_model.specs.Places.{row_count_of, row_index_of}
use Rattle.dictionary.specs.Columns.{place_of, text_of_code}
use Rattle.group_numbers.specs.Numbers.{IsKnown}
use Rattle.group_numbers.specs.Rows.{no_row}
use Rattle.lattice.specs.declared.level.Level.{Level}
use Rattle.lattice.specs.declared.view.View.{View}
use Rattle.cuboid_cells.specs.declared.cell.Cell.{Cell}
use Rattle.cuboid_cells.specs.Limits.{all_code}
use Rattle.cuboid_upkeep.specs.Codes.{IsMode, member_code}
use Rattle.cuboid_upkeep.specs.Grouping.{key_of}
use Rattle.cuboid_upkeep.specs.declared.member_keys.MemberKeys.{MemberKeys}

-- the key at a code, if there is one
abbrev pub key_at : MemberKeys → ℕ → Option ℕ
key_at keys code = cond (code == all_code) keys.every (slice_index_or keys.members.items code None)

-- a key is put at a code unless one is there
abbrev pub with_key : List (Option ℕ) → ℕ → ℕ → List (Option ℕ)
with_key keys code key = cond (is_some (slice_index_or keys code None)) keys (slice_set keys code (Some key))

-- at how many codes no key is
abbrev pub missing_in : List (Option ℕ) → ℕ
missing_in [] = 0
missing_in (None ∷ keys) = suc (missing_in keys)
missing_in (Some key ∷ keys) = missing_in keys

-- a row of a dimension has a key, and its member has a code
pub record MemberHasCode (dimensions : DimRows) (axis : Axis) (level : Level) (key code : ℕ) : Type 0 where
  pub known : row_index_of dimensions axis key < row_count_of dimensions axis
  pub code_is : member_code dimensions axis level (row_index_of dimensions axis key) ≡ code

-- the key at a code is that of a row with its member
abbrev pub AreKeysOf : DimRows → Axis → Level → MemberKeys → Type 0
AreKeysOf dimensions axis level keys = (code key : ℕ) → key_at keys code ≡ Some key
    → MemberHasCode dimensions axis level key code

-- there is a key at the code of each member
abbrev pub HaveAllCodes : DimRows → Axis → Level → MemberKeys → Type 0
HaveAllCodes dimensions axis level keys = (key code : ℕ) → MemberHasCode dimensions axis level key code
    → key_at keys code ≡ None → ⊥

-- the same of keys by the codes of a level that has members
abbrev pub AreAtCodes : DimRows → Axis → Level → List (Option ℕ) → Type 0
AreAtCodes dimensions axis level keys = (code key : ℕ) → slice_index_or keys code None ≡ Some key
    → MemberHasCode dimensions axis level key code

abbrev pub HoldAllCodes : DimRows → Axis → Level → List (Option ℕ) → Type 0
HoldAllCodes dimensions axis level keys = (key code : ℕ) → MemberHasCode dimensions axis level key code
    → slice_index_or keys code None ≡ None → ⊥

-- a code is that of a mode, whose text has this code
pub record IsCodeOfMode (modes : List (List ℕ)) (code : ℕ) : Type 0 where
  pub among : code < length modes
  pub again : place_of modes (text_of_code modes code) ≡ code
  pub below : code < all_code

-- a fact row of some keys and of the ship mode of a code, and of zeros
abbrev pub representative : List (List ℕ) → ℕ → ℕ → ℕ → ℕ → ℕ → LineOrder
representative modes customer supplier part date code = record no_row {
  custkey = customer;
  partkey = part;
  suppkey = supplier;
  orderdate = date;
  shipmode = text_of_code modes code;
}

-- a row has known keys, a ship mode that is one of the modes where the view groups by it, and the key of a cell
pub record IsRepresentative (dimensions : DimRows) (modes : List (List ℕ)) (view : View) (cell : Cell)
    (row : LineOrder) : Type 0 where
  pub known : IsKnown dimensions row
  pub ship_mode : view.ship_mode ≡ true → IsMode modes row.shipmode
  pub key_is : key_of dimensions modes view row ≡ cell.key

-- rows represent cells, one for each
abbrev pub AreRepresentatives : DimRows → List (List ℕ) → View → List Cell → List LineOrder → Type 0
AreRepresentatives dimensions modes view [] [] = Unit {0}
AreRepresentatives dimensions modes view [] (row ∷ rows) = ⊥
AreRepresentatives dimensions modes view (cell ∷ cells) [] = ⊥
AreRepresentatives dimensions modes view (cell ∷ cells) (row ∷ rows) =
    IsRepresentative dimensions modes view cell row × AreRepresentatives dimensions modes view cells rows
