-- What is read of the text of a partial report. Our own.
use Rattle.std.specs.Prelude.{◌≡◌, ◌<◌, ◌^◌, ℕ, List, [], ◌∷◌, ◌++◌, Option, None, Some, length, map, IfSome}
use Rattle.std.specs.List.{AllByRecursion, flat_map, join_with_byte}
use Rattle.cube_model.specs.declared.answer.Line.{Line}
use Rattle.cube_model.specs.declared.query.Query.{Query}
use Rattle.cube_model.specs.Ascending.{IsAscending}
use Rattle.cube_model.specs.Orders.{answer_cmp}
use Rattle.partial_reports.specs.Readable.{HasNoByte, IsReadableLine}
use Rattle.ssb_reports.specs.Report.{count_text, line_text, member_text, value_text}

-- the fields of a line: its members, then its numbers
abbrev pub line_fields : Line → List (List ℕ)
line_fields line = map member_text line.key ++ map value_text line.values

-- fields, joined by bars, are what is left of a line's text: nothing, or no byte, where they are none
abbrev pub AreJoined : Option (List ℕ) → List (List ℕ) → Type 0
AreJoined left [] = IfSome left (λ text. text ≡ [])
AreJoined left (field ∷ fields) = left ≡ Some (join_with_byte 124 (field ∷ fields))

-- and none of them has a bar (124)
pub record FieldsAreLeft (left : Option (List ℕ)) (fields : List (List ℕ)) : Type 0 where
  pub each : AllByRecursion (HasNoByte 124) fields
  pub joined : AreJoined left fields

-- lines of a query that can be read back, in the order of their keys
pub record AreLinesOf (query : Query) (lines : List Line) : Type 0 where
  pub each : AllByRecursion (IsReadableLine query) lines
  pub rising : IsAscending (answer_cmp None) lines

-- a text goes on with a line that can be read back and is above those before it, and there is more after it
pub record IsNextLine (query : Query) (lines : List Line) (line : Line) (text left : List ℕ) : Type 0 where
  pub readable : IsReadableLine query line
  pub rising : IsAscending (answer_cmp None) (lines ++ line ∷ [])
  pub spelled : text ≡ line_text line ++ left
  pub more : 0 < length left

-- the next line was read
pub record ReadsLine (query : Query) (old new : List Line) (text left : List ℕ) : Type 0 where
  pub line : Line
  pub added : new ≡ old ++ line ∷ []
  pub spelled : text ≡ line_text line ++ left
  pub are : AreLinesOf query new

-- the number of lines was read, and nothing is after it
pub record ReadsCount (query : Query) (old new : List Line) (text : List ℕ) : Type 0 where
  pub same : new ≡ old
  pub few : length old < 2 ^ 63
  pub spelled : text ≡ count_text (length old)

-- a text spells lines and their number
pub record SpellsPartLines (query : Query) (text : List ℕ) (lines : List Line) : Type 0 where
  pub are : AreLinesOf query lines
  pub few : length lines < 2 ^ 63
  pub spelled : text ≡ flat_map line_text lines ++ count_text (length lines)
