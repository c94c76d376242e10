-- Rows of texts by column that are short. Our own.
use Rattle.std.specs.Prelude.{◌≤◌, List, length}
use Rattle.std.specs.List.{AllByRecursion}
use Rattle.cube_model.specs.Limits.{longest_text}
use Rattle.dimensions.specs.TextRows.{TextRow}

-- no text of a row is too long
abbrev pub IsShortRow : TextRow → Type 0
IsShortRow row = AllByRecursion (λ text. length text ≤ longest_text) row.texts

-- the same of several rows
abbrev pub AreShortRows : List TextRow → Type 0
AreShortRows rows = AllByRecursion IsShortRow rows
