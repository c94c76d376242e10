-- The answer to a query with a column of ship modes, from answers to the query without it: over the fact rows of each
-- ship mode, and over all rows where some grouping set does not group the column. Our own.
use Rattle.std.specs.Prelude.{◌≡◌, ℕ, Bool, true, false, not, Option, Some, None, List, ◌++◌, [], map, take, drop}
use Rattle.std.specs.Prelude.{is_some}
use Rattle.std.specs.List.{AllByRecursion, filter, flat_map, insert, list_all, list_any}
use Rattle.std.specs.Ordering.{eq_by_cmp}
use Rattle.std.specs.Str.{bytes_eq}
use Rattle.cube_model.specs.declared.answer.Line.{Line}
use Rattle.cube_model.specs.declared.answer.Member.{Member}
use Rattle.cube_model.specs.declared.answer.Member.TheVariants.{All, Text}
use Rattle.cube_model.specs.declared.answer.Value.{Value}
use Rattle.cube_model.specs.declared.query.Kind.{Kind}
use Rattle.cube_model.specs.declared.query.Kind.TheVariants.{Plain, Rollup, Cube}
use Rattle.cube_model.specs.declared.query.Query.{Query}
use Rattle.cube_model.specs.declared.rows.DimRows.{DimRows}
use Rattle.cube_model.specs.declared.rows.LineOrder.{LineOrder}
use Rattle.cube_model.specs.Answers.{answer}
use Rattle.cube_model.specs.Keys.{key_cmp}
use Rattle.mode_queries.specs.Answers.{moded_keys_among, moded_line_of}
use Rattle.mode_queries.specs.Selection.{chosen, passes_modes}
use Rattle.mode_queries.specs.declared.query.ModeCond.{ModeCond}
use Rattle.mode_queries.specs.declared.query.ModeQuery.{ModeQuery}

-- the fact rows whose ship modes pass conditions
abbrev pub passing : List ModeCond → List LineOrder → List LineOrder
passing conditions rows = filter (λ row. passes_modes conditions row.shipmode) rows

-- those of one ship mode
abbrev pub of_mode : List ℕ → List LineOrder → List LineOrder
of_mode mode rows = filter (λ row. bytes_eq mode row.shipmode) rows

-- each has one of some ship modes
abbrev pub have_modes : List (List ℕ) → List LineOrder → Bool
have_modes modes rows = list_all (λ row. list_any (bytes_eq row.shipmode) modes) rows

-- some grouping set does not group one of the columns
abbrev pub has_coarser : Kind → Bool
has_coarser Plain = false
has_coarser Rollup = true
has_coarser Cube = true

-- a member is a text
abbrev pub is_text : Member → Bool
is_text (Text text) = true
is_text All = false

-- A line of an answer without the column makes one with it at a place, under a grouping set that groups it, or under
-- one that does not: of a rollup only where all columns before it are grouped, or where none after it is.
abbrev pub is_kept : Kind → ℕ → Bool → List Member → Bool
is_kept Plain place is_grouped key = true
is_kept Rollup place true key = list_all is_text (take place key)
is_kept Rollup place false key = list_all (λ member. not (is_text member)) (drop place key)
is_kept Cube place is_grouped key = true

-- what is in the column: a ship mode, or ALL
abbrev pub member_of : Option (List ℕ) → Member
member_of (Some mode) = Text mode
member_of None = All

-- a line with the column
abbrev pub with_member : ℕ → Option (List ℕ) → Line → Line
with_member place mode line = record { key = insert line.key place (member_of mode); values = line.values }

-- lines with the column, and their keys
abbrev pub joined_lines : Kind → ℕ → Option (List ℕ) → List Line → List Line
joined_lines kind place mode lines =
    map (with_member place mode) (filter (λ line. is_kept kind place (is_some mode) line.key) lines)

abbrev pub joined_keys : Kind → ℕ → Option (List ℕ) → List Line → List (List Member)
joined_keys kind place mode lines = map (λ line. line.key) (joined_lines kind place mode lines)

-- those of the lines over the rows of a ship mode, and over all rows
abbrev pub lines_of_mode : DimRows → Query → ℕ → List LineOrder → List ℕ → List Line
lines_of_mode dimensions query place rows mode =
    joined_lines query.kind place (Some mode) (answer query dimensions (of_mode mode rows)).lines

abbrev pub lines_of_all : DimRows → Query → ℕ → List LineOrder → List Line
lines_of_all dimensions query place rows =
    joined_lines query.kind place None (answer query dimensions rows).lines

abbrev pub keys_of_all : Bool → DimRows → Query → ℕ → List LineOrder → List (List Member)
keys_of_all true dimensions query place rows = map (λ line. line.key) (lines_of_all dimensions query place rows)
keys_of_all false dimensions query place rows = []

-- the keys of the lines of each ship mode, and then those of all rows, where some grouping set asks for them
abbrev pub keys_by_mode : DimRows → Query → ℕ → List LineOrder → List (List ℕ) → List (List Member)
keys_by_mode dimensions query place rows modes =
    flat_map (λ mode. map (λ line. line.key) (lines_of_mode dimensions query place rows mode)) modes

-- lines have the values of their keys
abbrev pub HaveValues : (List Member → List Value) → List Line → Type 0
HaveValues value lines = AllByRecursion (λ line. line.values ≡ value line.key) lines

-- The lines of each ship mode and of all rows are those of the answer: they have its values, and their keys are its
-- keys.
pub record JoinLines (dimensions : DimRows) (asked : ModeQuery) (place : ℕ) (all : List LineOrder)
    (modes : List (List ℕ)) : Type 0 where
  pub by_mode : AllByRecursion
      (λ mode. HaveValues (λ key. (moded_line_of dimensions asked (chosen dimensions asked all) key).values)
      (lines_of_mode dimensions asked.query place (passing asked.conditions all) mode)) modes
  pub of_all : has_coarser asked.query.kind ≡ true
      → HaveValues (λ key. (moded_line_of dimensions asked (chosen dimensions asked all) key).values)
      (lines_of_all dimensions asked.query place (passing asked.conditions all))
  pub keys : (key : List Member)
      → list_any (eq_by_cmp key_cmp key)
      (keys_by_mode dimensions asked.query place (passing asked.conditions all) modes
      ++ keys_of_all (has_coarser asked.query.kind) dimensions asked.query place (passing asked.conditions all))
      ≡ list_any (eq_by_cmp key_cmp key) (moded_keys_among dimensions asked (chosen dimensions asked all))
