-- The groups of a fold that is done, in the order of an answer, and the lines that they represent. Our own.
use Rattle.std.specs.Prelude.{◌≡◌, ℕ, ◌<◌, true, List, [], map, length, slice_index_or}
use Rattle.std.specs.List.{All}
use Rattle.std.specs.declared.alloc.Global.{Global}
use Rattle.std.specs.declared.vec.Vec.{Vec}
use Rattle.cube_model.specs.declared.answer.Answer.{Answer}
use Rattle.cube_model.specs.declared.answer.Line.{Line}
use Rattle.cube_model.specs.declared.query.Query.{Query}
use Rattle.cube_model.specs.declared.rows.DimRows.{DimRows}
use Rattle.group_tallies.specs.Columns.{entry_line, is_seen, tallies_at}
use Rattle.group_tallies.specs.declared.finished.Groups.{Groups}
use Rattle.group_tallies.specs.declared.tally.Tally.{Tally}
use Rattle.group_numbers.specs.Numbers.{group_count, group_key_at}
use Rattle.group_numbers.specs.GroupNumbers.{IsGroupNumbersOver, query_of}

-- the line of a group, by its number and its slot
abbrev pub line_by : DimRows → Query → List (Vec Tally Global) → ℕ × ℕ → Line
line_by dimensions query columns group =
    entry_line (group_key_at dimensions query.columns) query.aggregates columns group

-- the lines of groups
abbrev pub lines_by : DimRows → Query → List (Vec Tally Global) → List (ℕ × ℕ) → List Line
lines_by dimensions query columns groups = map (line_by dimensions query columns) groups

-- a group has a line: its number is that of a group, and its slot has rows
abbrev pub HasLine : DimRows → Query → List (Vec Tally Global) → ℕ × ℕ → Type 0
HasLine dimensions query columns group =
    (group.0 < group_count dimensions query.columns) × (is_seen (tallies_at columns group.1) ≡ true)

-- each group has a line
abbrev pub HaveLines : DimRows → Query → List (Vec Tally Global) → List (ℕ × ℕ) → Type 0
HaveLines dimensions query columns groups = All (HasLine dimensions query columns) groups

-- the line at a place, which counts from 0
abbrev pub line_at : List Line → ℕ → Line
line_at lines place = slice_index_or lines place (record { key = []; values = [] })

-- groups of a fold over dimensions
pub record AreGroupsOver (dimensions : DimRows) (groups : Groups) : Type 0 where
  pub over : IsGroupNumbersOver dimensions groups.grouping
  pub count : length groups.columns.items ≡ length (query_of groups.grouping).aggregates
  pub lines : HaveLines dimensions (query_of groups.grouping) groups.columns.items groups.order.items

-- the lines of groups over dimensions
abbrev pub lines_over : DimRows → Groups → List Line
lines_over dimensions groups = lines_by dimensions (query_of groups.grouping) groups.columns.items groups.order.items

-- the answer that has these lines
abbrev pub answer_over : DimRows → Groups → Answer
answer_over dimensions groups = record { lines = lines_over dimensions groups }
