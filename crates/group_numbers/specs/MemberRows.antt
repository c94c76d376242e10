-- Rows that have the members of an attribute: a member's rank changes as rows are added after them, a row's place does
-- not. Our own.
use Rattle.std.specs.Prelude.{◌≡◌, ℕ, ◌<◌, List, [], length, slice_index_or}
use Rattle.cube_model.specs.declared.attr.Attr.{Attr}
use Rattle.cube_model.specs.declared.rows.DimRows.{DimRows}
use Rattle.cube_model.specs.Attributes.{axis_of}
use Rattle.cube_model.specs.Places.{attr_members, row_count_of, text_at}

-- the row at a place has the member of a rank
pub record HasMember (dimensions : DimRows) (attr : Attr) (rank place : ℕ) : Type 0 where
  pub within : place < row_count_of dimensions (axis_of attr)
  pub text : text_at dimensions attr place ≡ slice_index_or (attr_members dimensions attr) rank []

-- for each member of an attribute, by its rank, the place of a row that has it
pub record HaveMembers (dimensions : DimRows) (attr : Attr) (places : List ℕ) : Type 0 where
  pub counted : length places ≡ length (attr_members dimensions attr)
  pub each : (rank : ℕ) → rank < length places → HasMember dimensions attr rank (slice_index_or places rank 0)
